-- The worked files: each sum is computed once (WorkedSums), and then what is found.
use Rattle.std.proofs.Common.{◌≡◌, ◌∙◌, ap, sym, refl, ℕ, ◌+◌, ◌^◌, ◌<◌, Some, None, arith, List, [], ◌∷◌, ◌++◌, length, replicate, codes, true, false, ◌||◌, inl, inr, bytes_eq}
use Rattle.std.proofs.lemmas.Bool.{false≢true}
use Rattle.hex.specs.Hex.{encode_with}
use Rattle.journal.specs.Text.{is_torn, is_commit, has_noise, place_text, lines_text, group_sum, group_end, commit_line, sum_after, journal_text, journal_end, AreGroups}
use Rattle.journal.specs.Reading.{Found, with_groups, found_none, found_in, found_from, parsed, found, sound}
use Rattle.journal.specs.Crashes.{Mixes}
use Rattle.journal.specs.Notes.{Reads, first_sum}
use Rattle.journal.specs.WorkedFiles.{in_room, twice, damaged_behind, zero_digits, digits_one, digits_two, digits_three, commit_one, commit_two, commit_three, text_one, text_two, text_three, two_texts, group_one, group_two, group_three, two_groups, AFileHasItsGroups, torn_line, torn_feed, torn_commit, TornGroupsAreLeftOut, ACrashTearsAGroup, changed_line, changed_place, lost_byte, changed_commit, noisy_line, ChangedBytesAreDamage, AChangedFileHasNoGroups, digits_checkpoint, worked_card, worked_page, commit_checkpoint, commit_later, checkpoint_text, torn_checkpoint, group_checkpoint, group_later, ACheckpointIsRead}
use Rattle.journal.proofs.Groups.{found_in-once, found_in-twice, found_behind}
use Rattle.journal.proofs.Noise.{what_is_written_is_read}
use Rattle.journal.proofs.NoteTexts.{note_is_marked}
use Rattle.journal.proofs.WorkedSums.{sum_one, sum_two, commit_one_is, commit_two_is, commit_three_is, commit_other_is, commit_noisy_is, digits_first, sum_first, sum_checkpoint, commit_checkpoint_is, commit_later_is, card_is}

-- ---- what is found in any file

-- what the lines of a file hold, and its bytes that no UTF-8 text has
found_so : (first text : List ℕ) (f : Found) → parsed first text ≡ f
    → found first text
    ≡ record { groups = f.groups; is_damaged = has_noise text || f.is_damaged }
found_so first text f is =
    ap (λ (g : Found). record {
      groups = g.groups;
      is_damaged = has_noise text || g.is_damaged;
    }) is

-- a line that stands where the first of two commit lines has to
another_once : (before : List ℕ) (start : ℕ) (pending : List (List ℕ)) (line : List ℕ)
    (lines : List (List ℕ)) (last : List ℕ)
    → is_torn line ≡ false → is_commit line ≡ true
    → bytes_eq line (commit_line before start pending) ≡ false
    → found_in before start pending false (line ∷ lines) last ≡ found_none true
another_once before start pending line lines last whole commits other =
    rw (whole, commits, other) refl

-- a line that stands where the second of them has to
another_twice : (before : List ℕ) (start : ℕ) (pending : List (List ℕ)) (line : List ℕ)
    (lines : List (List ℕ)) (last : List ℕ)
    → is_torn line ≡ false
    → bytes_eq line (commit_line before start pending) ≡ false
    → found_in before start pending true (line ∷ lines) last ≡ found_none true
another_twice before start pending line lines last whole other = rw (whole, other) refl

-- the text of a first group, of which the sum and the commit line are known
one_is : (first : List ℕ) (one : List (List ℕ)) (commit : List ℕ)
    → commit_line first 0 one ≡ commit
    → journal_text first (one ∷ []) ≡ lines_text ((one ++ commit ∷ commit ∷ []) ++ [])
one_is first one commit is = λ i. lines_text ((one ++ is i ∷ is i ∷ []) ++ [])

-- the text of two groups, of which the sums and the commit lines are known
two_is : (first sum : List ℕ) (end : ℕ) (one two : List (List ℕ)) (commit other : List ℕ)
    → group_sum first one ≡ sum → commit_line first 0 one ≡ commit
    → group_end first 0 one ≡ end → commit_line sum end two ≡ other
    → journal_text first (one ∷ two ∷ [])
    ≡ lines_text ((one ++ commit ∷ commit ∷ []) ++ ((two ++ other ∷ other ∷ []) ++ []))
two_is first sum end one two commit other sums is ends next =
    (λ i. lines_text ((one ++ is i ∷ is i ∷ [])
    ++ ((two ++ commit_line (sums i) (ends i) two ∷ commit_line (sums i) (ends i) two ∷ []) ++ [])))
    ∙ (λ i. lines_text ((one ++ commit ∷ commit ∷ []) ++ ((two ++ next i ∷ next i ∷ []) ++ [])))

-- ---- the groups of the first file

all_one : AreGroups (group_one ∷ [])
all_one = (
  (
    record { whole = refl; marked = refl; plain = refl; clear = refl },
    (record { whole = refl; marked = refl; plain = refl; clear = refl }, tt),
  ),
  tt,
)

all_two : AreGroups two_groups
all_two = (
  all_one.0,
  ((record { whole = refl; marked = refl; plain = refl; clear = refl }, tt), tt),
)

one_text_is : journal_text zero_digits (group_one ∷ []) ≡ text_one
one_text_is = one_is zero_digits group_one commit_one commit_one_is

end_one : group_end zero_digits 0 group_one ≡ 171
end_one = λ i. 0 + length (lines_text (group_one ++ commit_one_is i ∷ commit_one_is i ∷ []))

two_texts_are : journal_text zero_digits two_groups ≡ two_texts
two_texts_are =
    two_is zero_digits digits_one 171 group_one group_two commit_one commit_two sum_one
    commit_one_is end_one commit_two_is

two_sums_are : sum_after zero_digits two_groups ≡ digits_two
two_sums_are = (λ i. group_sum (sum_one i) group_two) ∙ sum_two

two_ends_are : journal_end zero_digits two_groups ≡ 339
two_ends_are = ap length two_texts_are

-- two groups, with their last sum and their end, are a file
pub a_file_has_its_groups : AFileHasItsGroups
a_file_has_its_groups = record {
  room = 8;
  each = all_two;
  file = ap (λ (text : List ℕ). text ++ replicate 8 0) (sym two_texts_are);
  sum = sym two_sums_are;
  ends = sym two_ends_are;
  durable = λ left is. is;
}

-- what is found behind the first group
behind_one : (text : List ℕ)
    → parsed zero_digits (text_one ++ text)
    ≡ with_groups (group_one ∷ []) (found_from digits_one 171 text)
behind_one text =
    ap (λ (front : List ℕ). parsed zero_digits (front ++ text)) (sym one_text_is)
    ∙ found_behind zero_digits (group_one ∷ []) text all_one
    ∙ (λ i. with_groups (group_one ∷ [])
    (found_from (sum_one i) (ap length one_text_is i) text))

-- what is found behind the first two groups
behind_two : (text : List ℕ)
    → parsed zero_digits (two_texts ++ text)
    ≡ with_groups two_groups (found_from digits_two 339 text)
behind_two text =
    ap (λ (front : List ℕ). parsed zero_digits (front ++ text)) (sym two_texts_are)
    ∙ found_behind zero_digits two_groups text all_two
    ∙ (λ i. with_groups two_groups (found_from (two_sums_are i) (two_ends_are i) text))

-- ---- a third group, torn or whole

third_is_found : found_from digits_two 339 (in_room text_three) ≡ sound (group_three ∷ [])
third_is_found =
    (λ i. found_in digits_two 339 group_three false
    (sym commit_three_is i ∷ commit_three ∷ []) (replicate 8 0))
    ∙ found_in-once digits_two 339 group_three (commit_three ∷ []) (replicate 8 0)
    ∙ (λ i. found_in digits_two 339 group_three true (sym commit_three_is i ∷ [])
    (replicate 8 0))
    ∙ found_in-twice digits_two 339 group_three [] (replicate 8 0)

line_is_torn : found_from digits_two 339 (in_room torn_line) ≡ sound []
unfolding place_text encode_with
line_is_torn = refl

feed_is_torn : found_from digits_two 339 (in_room torn_feed) ≡ sound []
unfolding place_text encode_with
feed_is_torn = refl

-- the second commit line of the third group, of which the last digit is lost
abbrev torn_digit : List ℕ
torn_digit = 35 ∷ digits_three ++ (codes " 000000000000015" ++ 0 ∷ [])

commit_is_torn : found_from digits_two 339 (in_room torn_commit) ≡ sound []
commit_is_torn =
    (λ i. found_in digits_two 339 group_three false
    (sym commit_three_is i ∷ torn_digit ∷ []) (replicate 8 0))
    ∙ found_in-once digits_two 339 group_three (torn_digit ∷ []) (replicate 8 0)

-- a torn third group isn't found, and a whole one is
pub torn_groups_are_left_out : TornGroupsAreLeftOut
torn_groups_are_left_out = record {
  two = found_so zero_digits (in_room two_texts) (sound two_groups)
      (behind_two (replicate 8 0));
  three = found_so zero_digits (in_room (two_texts ++ text_three))
      (sound (group_one ∷ group_two ∷ group_three ∷ []))
      (behind_two (in_room text_three) ∙ ap (with_groups two_groups) third_is_found);
  line = found_so zero_digits (in_room (two_texts ++ torn_line)) (sound two_groups)
      (behind_two (in_room torn_line) ∙ ap (with_groups two_groups) line_is_torn);
  feed = found_so zero_digits (in_room (two_texts ++ torn_feed)) (sound two_groups)
      (behind_two (in_room torn_feed) ∙ ap (with_groups two_groups) feed_is_torn);
  commit = found_so zero_digits (in_room (two_texts ++ torn_commit)) (sound two_groups)
      (behind_two (in_room torn_commit) ∙ ap (with_groups two_groups) commit_is_torn);
}

-- bytes over as many zeros
over_zeros : (bytes : List ℕ) → Mixes (replicate (length bytes) 0) bytes bytes
over_zeros [] = tt
over_zeros (byte ∷ bytes) = (inr refl, over_zeros bytes)

-- each byte of a torn group is the zero that was there or the byte that was written
pub a_crash_tears_a_group : ACrashTearsAGroup
a_crash_tears_a_group left is = (
  torn_line,
  (inr refl, (inl refl, (inr refl, over_zeros (twice commit_three)))),
  is,
)

-- ---- changed bytes

changed_line_is : parsed zero_digits (in_room (changed_line ++ text_two)) ≡ found_none true
changed_line_is =
    another_once zero_digits 0 (codes "a" ∷ codes "bd" ∷ []) commit_one
    (commit_one ∷ codes "d" ∷ commit_two ∷ commit_two ∷ []) (replicate 8 0) refl refl
    (ap (bytes_eq commit_one) commit_other_is)

-- the changed second commit line of the first group
abbrev other_place : List ℕ
other_place = 35 ∷ digits_one ++ codes " 0000000000000001"

changed_place_is : parsed zero_digits (in_room (changed_place ++ text_two)) ≡ found_none true
changed_place_is =
    (λ i. found_in zero_digits 0 group_one false
    (sym commit_one_is i ∷ other_place ∷ codes "d" ∷ commit_two ∷ commit_two ∷ [])
    (replicate 8 0))
    ∙ found_in-once zero_digits 0 group_one
    (other_place ∷ codes "d" ∷ commit_two ∷ commit_two ∷ []) (replicate 8 0)
    ∙ another_twice zero_digits 0 group_one other_place
    (codes "d" ∷ commit_two ∷ commit_two ∷ []) (replicate 8 0) refl
    (ap (bytes_eq other_place) commit_one_is)

lost_byte_is : parsed zero_digits (in_room (lost_byte ++ text_two)) ≡ found_none true
unfolding place_text encode_with
lost_byte_is = refl

-- the changed first commit line of the second group
abbrev other_commit : List ℕ
other_commit = 35 ∷ digits_two ++ codes " 00000000000000aa"

changed_commit_is : found_from digits_one 171 (in_room changed_commit) ≡ found_none true
changed_commit_is =
    another_once digits_one 171 group_two other_commit (commit_two ∷ []) (replicate 8 0) refl refl
    (ap (bytes_eq other_commit) commit_two_is)

noisy_line_is : found_from digits_one 171 (in_room noisy_line) ≡ found_none true
noisy_line_is =
    another_once digits_one 171 ((255 ∷ []) ∷ []) commit_two (commit_two ∷ []) (replicate 8 0)
    refl refl (ap (bytes_eq commit_two) commit_noisy_is)

-- a changed byte is found as damage, and so is a lost one before the last group
pub changed_bytes_are_damage : ChangedBytesAreDamage
changed_bytes_are_damage = record {
  line = found_so zero_digits (in_room (changed_line ++ text_two)) (found_none true)
      changed_line_is;
  place = found_so zero_digits (in_room (changed_place ++ text_two)) (found_none true)
      changed_place_is;
  lost = found_so zero_digits (in_room (lost_byte ++ text_two)) (found_none true) lost_byte_is;
  commit = found_so zero_digits (in_room (text_one ++ changed_commit))
      (damaged_behind (group_one ∷ []))
      (behind_one (in_room changed_commit)
      ∙ ap (with_groups (group_one ∷ [])) changed_commit_is);
  noise = found_so zero_digits (in_room (text_one ++ noisy_line))
      (damaged_behind (group_one ∷ []))
      (behind_one (in_room noisy_line) ∙ ap (with_groups (group_one ∷ [])) noisy_line_is);
}

-- if a file had groups, they would be found without damage
pub a_changed_file_has_no_groups : AChangedFileHasNoGroups
a_changed_file_has_no_groups last end groups has =
    let text = in_room (changed_line ++ text_two) in
    let read : found zero_digits text ≡ sound groups =
    ap (found zero_digits) has.file
    ∙ what_is_written_is_read zero_digits groups has.room has.each in
    false≢true (ap (λ (f : Found). f.is_damaged) (sym read ∙ changed_bytes_are_damage.line))

-- ---- the checkpoint

all_later : AreGroups (group_checkpoint ∷ group_later ∷ [])
all_later = (
  (
    record { whole = refl; marked = refl; plain = refl; clear = refl },
    (record { whole = refl; marked = refl; plain = refl; clear = refl }, tt),
  ),
  ((record { whole = refl; marked = refl; plain = refl; clear = refl }, tt), tt),
)

end_checkpoint : group_end digits_first 0 group_checkpoint ≡ 177
end_checkpoint = λ i. 0
    + length (lines_text
    (group_checkpoint ++ commit_checkpoint_is i ∷ commit_checkpoint_is i ∷ []))

checkpoint_text_is : journal_text digits_first (group_checkpoint ∷ group_later ∷ [])
    ≡ checkpoint_text
checkpoint_text_is =
    two_is digits_first digits_checkpoint 177 group_checkpoint group_later commit_checkpoint
    commit_later sum_checkpoint commit_checkpoint_is end_checkpoint commit_later_is

groups_are_found : found digits_first (in_room checkpoint_text)
    ≡ sound (group_checkpoint ∷ group_later ∷ [])
groups_are_found =
    ap (λ (text : List ℕ). found digits_first (text ++ replicate 8 0)) (sym checkpoint_text_is)
    ∙ what_is_written_is_read digits_first (group_checkpoint ∷ group_later ∷ []) 8 all_later

one_fits : 1 < 2 ^ 64
one_fits = omega arith

end_fits : 177 < 2 ^ 64
end_fits = omega arith

card_is_read : Reads 0 worked_page (Some worked_card)
card_is_read = (
  record {
    identity = refl;
    marked = refl;
    generation = one_fits;
    end = end_fits;
    sum = refl;
    there = refl;
  },
  sym card_is,
)

-- a note has no zero, and zeros stand there
no_witness : Reads 512 worked_page None
no_witness note is stands =
    false≢true (sym (note_is_marked note is) ∙ ap is_torn (sym stands))

torn_checkpoint_is : found (first_sum worked_card) (in_room torn_checkpoint) ≡ sound []
unfolding place_text encode_with
torn_checkpoint_is = refl

-- a checkpoint is read by its card, and a group behind it too
pub a_checkpoint_is_read : ACheckpointIsRead
a_checkpoint_is_read = record {
  card = card_is_read;
  witness = no_witness;
  groups =
      ap (λ (first : List ℕ). found first (in_room checkpoint_text)) sum_first ∙ groups_are_found;
  end = sym (ap (λ (first : List ℕ). journal_end first (group_checkpoint ∷ [])) sum_first
      ∙ ap length (one_is digits_first group_checkpoint commit_checkpoint commit_checkpoint_is));
  sum = sym (ap (λ (first : List ℕ). group_sum first group_checkpoint) sum_first
      ∙ sum_checkpoint);
  whole = refl;
  torn = torn_checkpoint_is;
  lacking = refl;
}
