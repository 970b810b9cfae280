-- What a commit leaves, whole or cut short.
use Rattle.std.proofs.Common.{◌≡◌, ◌⊎◌, ◌∙◌, ap, sym, refl, subst, ℕ, ◌+◌, ◌-◌, ◌≤◌, List, [], ◌∷◌, ◌++◌, length, take, drop, replicate, inl, inr, arith, append_assoc, length-append}
use Rattle.std.proofs.lemmas.List.{take_at, drop_at, drop-drop, take-replicate, drop-replicate, length-replicate}
use Rattle.journal.specs.Text.{lines_text, group_sum, commit_of, commit_line, sum_after, journal_text, journal_end, group_text, sum_of, AreLines}
use Rattle.journal.specs.Reading.{found, sound}
use Rattle.journal.specs.Crashes.{Only, Mixes, written, PutCrash}
use Rattle.journal.specs.Groups.{added, HasGroups, LeavesEither}
use Rattle.journal.proofs.TextLines.{lines_text-append}
use Rattle.journal.proofs.Noise.{what_is_written_is_read, a_torn_group_is_not_there}
use Rattle.journal.proofs.Pushing.{journal_text-push, sum_after-push, are_pushed}

-- a journal at rest is read as its groups
pub kept : (text : List ℕ) (outcomes : List ℕ → Type 0) (last : List ℕ) (end : ℕ) (first : List ℕ)
    (groups : List (List (List ℕ))) → HasGroups text outcomes last end first groups
    → (c : List ℕ) → outcomes c → found first c ≡ sound groups
kept text outcomes last end first groups has c left =
    ap (found first) (has.durable c left ∙ has.file)
    ∙ what_is_written_is_read first groups has.room has.each

-- and so as these or others
pub kept_either : (text : List ℕ) (outcomes : List ℕ → Type 0) (last : List ℕ) (end : ℕ)
    (first : List ℕ) (groups more : List (List (List ℕ)))
    → HasGroups text outcomes last end first groups → LeavesEither first groups more outcomes
kept_either text outcomes last end first groups more has c left =
    inl (kept text outcomes last end first groups has c left)

-- the bytes that are put for a group
pub group_bytes : (pending sum last : List ℕ) (end : ℕ) (lines : List (List ℕ))
    → pending ≡ lines_text lines → sum ≡ sum_of (last ++ pending)
    → ((pending ++ (commit_of sum end ++ 10 ∷ [])) ++ (commit_of sum end ++ 10 ∷ []))
    ≡ group_text last end lines
group_bytes pending sum last end lines is sums =
    let line = commit_of sum end in
    let commit = commit_line last end lines in
    let whole : line ≡ commit =
    ap (λ (s : List ℕ). commit_of s end)
    (sums ∙ ap (λ (text : List ℕ). sum_of (last ++ text)) is) in
    append_assoc pending (line ++ 10 ∷ []) (line ++ 10 ∷ [])
    ∙ ap (λ (t : List ℕ). pending ++ t) (append_assoc line (10 ∷ []) (line ++ 10 ∷ []))
    ∙ ap (λ (t : List ℕ). t ++ (line ++ 10 ∷ (line ++ 10 ∷ []))) is
    ∙ ap (λ (l : List ℕ). lines_text lines ++ (l ++ 10 ∷ (l ++ 10 ∷ []))) whole
    ∙ sym (lines_text-append lines (commit ∷ commit ∷ []))

-- over zeros behind a text
over_room : (front bytes : List ℕ) (at room : ℕ) → at ≡ length front
    → written at bytes (front ++ replicate room 0)
    ≡ front ++ (bytes ++ replicate (room - length bytes) 0)
over_room front bytes at room is =
    let text = front ++ replicate room 0 in
    ap (λ (t : List ℕ). t ++ (bytes ++ drop (at + length bytes) text))
    (take_at front (replicate room 0) at (sym is))
    ∙ ap (λ (t : List ℕ). front ++ (bytes ++ t)) (
    sym (drop-drop (length bytes) at text)
    ∙ ap (drop (length bytes)) (drop_at front (replicate room 0) at (sym is))
    ∙ drop-replicate (length bytes) room 0
    )

module _ (text : List ℕ) (outcomes : List ℕ → Type 0) (last : List ℕ) (end : ℕ) (first : List ℕ)
    (groups : List (List (List ℕ))) (has : HasGroups text outcomes last end first groups)
    (line : List ℕ) (lines : List (List ℕ)) (each : AreLines (line ∷ lines))
    (pending sum bytes : List ℕ) (is : pending ≡ lines_text (line ∷ lines))
    (sums : sum ≡ sum_of (last ++ pending))
    (were : bytes ≡ (pending ++ (commit_of sum end ++ 10 ∷ [])) ++
    (commit_of sum end ++ 10 ∷ [])) where
  abbrev group : List (List ℕ)
  group = line ∷ lines

  whole : bytes ≡ group_text (sum_after first groups) (journal_end first groups) group
  whole =
      were ∙ group_bytes pending sum last end group is sums
      ∙ ap (λ (l : List ℕ). group_text l end group) has.sum
      ∙ ap (λ (n : ℕ). group_text (sum_after first groups) n group) has.ends

  over : (mixed : List ℕ)
      → written end mixed text
      ≡ journal_text first groups ++ (mixed ++ replicate (has.room - length mixed) 0)
  over mixed = ap (written end mixed) has.file
      ∙ over_room (journal_text first groups) mixed end has.room has.ends

  pushed : journal_text first groups ++ bytes ≡ journal_text first (groups ++ group ∷ [])
  pushed = ap (λ (b : List ℕ). journal_text first groups ++ b) whole
      ∙ journal_text-push first groups group

  more : (new : List ℕ) (left : List ℕ → Type 0) → new ≡ written end bytes text → Only new left
      → HasGroups new left sum (end + length bytes) first (groups ++ group ∷ [])
  more new left put only = record {
    room = has.room - length bytes;
    each = are_pushed groups group has.each each;
    file = put ∙ over bytes
        ∙ sym (append_assoc (journal_text first groups) bytes
        (replicate (has.room - length bytes) 0))
        ∙ ap (λ (t : List ℕ). t ++ replicate (has.room - length bytes) 0) pushed;
    sum = sums ∙ ap (λ (t : List ℕ). sum_of (last ++ t)) is
        ∙ ap (λ (l : List ℕ). group_sum l group) has.sum ∙ sym (sum_after-push first groups group);
    ends = let size = ap length pushed in let both =
        length-append (journal_text first groups) bytes in omega (arith, has.ends, size, both);
    durable = only;
  }

  room_for : end + length bytes ≤ length text → length bytes ≤ has.room
  room_for within =
      let size = ap length has.file
      ∙ length-append (journal_text first groups) (replicate has.room 0) in
      let zeros = length-replicate {A = ℕ} has.room 0 in
      omega (arith, within, size, zeros, has.ends)

  there : end + length bytes ≤ length text
      → take (length bytes) (drop end text) ≡ replicate (length bytes) 0
  there within =
      ap (λ (t : List ℕ). take (length bytes) (drop end t)) has.file
      ∙ ap (take (length bytes))
      (drop_at (journal_text first groups) (replicate has.room 0) end (sym has.ends))
      ∙ take-replicate (length bytes) has.room 0 (room_for within)

  torn : (left : List ℕ → Type 0) → end + length bytes ≤ length text → PutCrash text end bytes left
      → LeavesEither first groups (groups ++ group ∷ []) left
  torn left within crash c now =
      let out = crash c now in
      let mixes : Mixes (replicate (length bytes) 0) bytes out.0 =
      subst (λ (t : List ℕ). Mixes t bytes out.0) (there within) out.1 in
      let same : Mixes (replicate
      (length (group_text (sum_after first groups) (journal_end first groups) group)) 0)
      (group_text (sum_after first groups) (journal_end first groups) group) out.0 =
      subst (λ (b : List ℕ). Mixes (replicate (length b) 0) b out.0) whole mixes in
      let is_read = ap (found first) (out.2 ∙ over out.0) in
      elim (a_torn_group_is_not_there first groups group out.0
      (has.room - length out.0) has.each each same) [
        | inl gone ↦ inl (is_read ∙ gone.0)
        | inr all ↦ inr (is_read ∙ all.0)
      ]

-- one group more is put, and the journal has it
pub has_more : (text new sum pending bytes : List ℕ) (outcomes left : List ℕ → Type 0)
    (last : List ℕ) (end : ℕ) (first : List ℕ) (groups : List (List (List ℕ)))
    (lines : List (List ℕ))
    → HasGroups text outcomes last end first groups → AreLines lines → (lines ≡ [] → ⊥)
    → pending ≡ lines_text lines → sum ≡ sum_of (last ++ pending)
    → bytes ≡ (pending ++ (commit_of sum end ++ 10 ∷ [])) ++ (commit_of sum end ++ 10 ∷ [])
    → new ≡ written end bytes text → Only new left
    → HasGroups new left sum (end + length bytes) first (added groups lines)
has_more text new sum pending bytes outcomes left last end first groups [] has each some is sums
    were put only = absurd (some refl)
has_more text new sum pending bytes outcomes left last end first groups
    (line ∷ lines) has each some is sums were put only =
    more text outcomes last end first groups has line lines each pending sum bytes is sums were new
    left put only

-- a crash in the middle of it leaves the groups, or them and the new one
pub put_leaves : (text sum pending bytes : List ℕ) (outcomes left : List ℕ → Type 0) (last : List ℕ)
    (end : ℕ) (first : List ℕ) (groups : List (List (List ℕ))) (lines : List (List ℕ))
    → HasGroups text outcomes last end first groups → AreLines lines → (lines ≡ [] → ⊥)
    → pending ≡ lines_text lines → sum ≡ sum_of (last ++ pending)
    → bytes ≡ (pending ++ (commit_of sum end ++ 10 ∷ [])) ++ (commit_of sum end ++ 10 ∷ [])
    → ((c : List ℕ) → left c → outcomes c)
    ⊎ ((end + length bytes ≤ length text) × PutCrash text end bytes left)
    → LeavesEither first groups (added groups lines) left
put_leaves text sum pending bytes outcomes left last end first groups [] has each some is sums were
    crash = absurd (some refl)
put_leaves text sum pending bytes outcomes left last end first groups
    (line ∷ lines) has each some is sums were crash = elim crash [
      | inl before ↦ λ c now. inl (kept text outcomes last end first groups has c (before c now))
      | inr cut ↦ torn text outcomes last end first groups has line lines
          each pending sum bytes is sums
          were left cut.0 cut.1
    ]

-- no line waits where none is there
pub some_wait : (pending : List ℕ) (lines : List (List ℕ)) → pending ≡ lines_text lines
    → (pending ≡ [] → ⊥) → lines ≡ [] → ⊥
some_wait pending lines is some none = some (is ∙ ap lines_text none)
