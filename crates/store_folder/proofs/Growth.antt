-- What a note says is found as well where a journal has more groups.
use Rattle.std.proofs.Common.{◌≡◌, ◌⊎◌, ◌∙◌, ap, sym, refl, ℕ, ◌-◌, ◌*◌, ◌≤◌, ◌==◌, List, [], ◌∷◌, ◌++◌, length, take, drop, Bool, true, false, ◌&&◌, nat_le, inl, inr, bytes_eq, arith, append_assoc, length-append, length-drop}
use Rattle.std.proofs.lemmas.Bool.Decides.{nat_tests}
use Rattle.std.proofs.lemmas.Bool.{cases_Bool, false≢true}
use Rattle.std.proofs.lemmas.List.{take-append-le, drop-append-le}
use Rattle.sha2.specs.Sha256.{sha256}
use Rattle.sha2.proofs.Facts256.{length-sha256}
use Rattle.hex.specs.Hex.{lower_digits}
use Rattle.hex.proofs.HexLemmas.{length-encode_with}
use Rattle.journal.specs.Text.{lines_text, sum_of, place_text, commit_line, group_sum, group_lines, group_end, lines_from, journal_lines, journal_text, journal_end}
use Rattle.journal.specs.Notes.{ends_by, is_found}
use Rattle.journal.specs.declared.page.note.Note.{Note}
use Rattle.journal.proofs.TextLines.{lines_text-append}

-- ---- the text of a journal is empty, or longer than a mark with a sum

length-sum_of : (text : List ℕ) → length (sum_of text) ≡ 64
unfolding sum_of
length-sum_of text = length-encode_with lower_digits (sha256 text)
    ∙ ap (λ (n : ℕ). 2 * n) (length-sha256 text)

commit_long : (before : List ℕ) (start : ℕ) (group : List (List ℕ))
    → 65 ≤ length (commit_line before start group)
commit_long before start group =
    let sum = length-sum_of (before ++ lines_text group) in
    let both = length-append (group_sum before group) (place_text start) in
    omega (arith, sum, both)

group_long : (before : List ℕ) (start : ℕ) (group more : List (List ℕ))
    → 65 ≤ length (lines_text (group_lines before start group ++ more))
group_long before start group more =
    let line = commit_line before start group in
    let whole = ap length (lines_text-append (group_lines before start group) more) in
    let front = length-append (lines_text (group_lines before start group)) (lines_text more) in
    let parts = ap length (lines_text-append group (line ∷ line ∷ [])) in
    let both = length-append (lines_text group) (lines_text (line ∷ line ∷ [])) in
    let last = length-append line (10 ∷ lines_text (line ∷ [])) in
    let long = commit_long before start group in
    omega (arith, whole, front, parts, both, last, long)

pub text_long : (first : List ℕ) (groups : List (List (List ℕ)))
    → (journal_text first groups ≡ []) ⊎ (65 ≤ length (journal_text first groups))
text_long first [] = inl refl
text_long first (group ∷ groups) = inr (group_long first 0 group
    (lines_from (group_sum first group) (group_end first 0 group) groups))

-- ---- a journal's text begins the text of one with more groups

lines_more : (before : List ℕ) (start : ℕ) (groups more : List (List (List ℕ)))
    → (rest : List (List ℕ))
    × (lines_from before start (groups ++ more) ≡ lines_from before start groups ++ rest)
lines_more before start [] more = (lines_from before start more, refl)
lines_more before start (group ∷ groups) more =
    let later = lines_more (group_sum before group) (group_end before start group) groups more in (
      later.0,
      ap (λ (ls : List (List ℕ)). group_lines before start group ++ ls) later.1
          ∙ sym (append_assoc (group_lines before start group)
          (lines_from (group_sum before group) (group_end before start group) groups) later.0),
    )

pub text_more : (first : List ℕ) (groups more : List (List (List ℕ)))
    → (rest : List ℕ) × (journal_text first (groups ++ more) ≡ journal_text first groups ++ rest)
text_more first groups more =
    let lines = lines_more first 0 groups more in (
      lines_text lines.0,
      ap lines_text lines.1 ∙ lines_text-append (journal_lines first groups) lines.0,
    )

-- ---- a note

and_both : (a b : Bool) → (a && b) ≡ true → (a ≡ true) × (b ≡ true)
and_both true b both = (refl, both)
and_both false b both = absurd (false≢true both)

still_ends : (a b : List ℕ) (end : ℕ) (sum : List ℕ) → 65 ≤ length a → end ≤ length a
    → ends_by a end sum ≡ true → ends_by (a ++ b) end sum ≡ true
still_ends a b end sum long le by =
    let at = end - 83 in
    let near : at ≤ length a = omega (arith, le) in
    let size = length-drop at a in
    let room : 65 ≤ length (drop at a) = omega (arith, le, long, size) in
    ap (λ (t : List ℕ). bytes_eq (take 65 t) (35 ∷ sum)) (drop-append-le at a b near)
    ∙ ap (λ (t : List ℕ). bytes_eq t (35 ∷ sum)) (take-append-le 65 (drop at a) b room)
    ∙ by

-- what a note says is found in a text that goes on
pub still_found : (note : Note) (a b : List ℕ) → (a ≡ []) ⊎ (65 ≤ length a)
    → is_found note a (length a) ≡ true → is_found note (a ++ b) (length (a ++ b)) ≡ true
still_found note a b size is = elim (cases_Bool (note.end == 0)) [
  | inl none ↦ rw none refl
  | inr some ↦
      let both = and_both (nat_le note.end (length a)) (ends_by a note.end note.sum)
      (rw some at is) in
      let le : note.end ≤ length a = grind (arith, nat_tests, both.0) in
      let all = length-append a b in
      let within : nat_le note.end (length (a ++ b)) ≡ true =
      let more : note.end ≤ length (a ++ b) = omega (arith, le, all) in
      grind (arith, nat_tests, more) in
      let long : 65 ≤ length a = elim size [
        | inl empty ↦ let zero = ap length empty in
            absurd (false≢true (sym some ∙ nothing note.end (omega (arith, le, zero))))
        | inr long ↦ long
      ] in
      rw (some, within) (still_ends a b note.end note.sum long le both.1)
]
  where
    nothing : (n : ℕ) → n ≡ 0 → (n == 0) ≡ true
    nothing n is = ap (λ (k : ℕ). k == 0) is

-- and so among more groups
pub found_more : (first : List ℕ) (groups more : List (List (List ℕ))) (note : Note)
    → is_found note (journal_text first groups) (journal_end first groups) ≡ true
    → is_found note (journal_text first (groups ++ more)) (journal_end first (groups ++ more))
    ≡ true
found_more first groups more note is =
    let text = text_more first groups more in
    ap (λ (t : List ℕ). is_found note t (length t)) text.1
    ∙ still_found note (journal_text first groups) text.0 (text_long first groups) is
