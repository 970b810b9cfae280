-- A witness is found again.
use Rattle.std.proofs.Common.{◌≡◌, ◌∙◌, ap, sym, refl, ℕ, ◌-◌, ◌≤◌, ◌==◌, List, [], ◌∷◌, ◌++◌, length, take, drop, true, ◌&&◌, nat_le, if◌then◌else◌, inl, inr, bytes_eq, arith, append_assoc, length-append}
use Rattle.std.proofs.lemmas.Bool.Decides.{nat_tests}
use Rattle.std.proofs.lemmas.Bool.{cases_Bool}
use Rattle.std.proofs.lemmas.List.{append-nil, take_at, drop_at}
use Rattle.journal.specs.Text.{lines_text, commit_line, group_sum, group_text, sum_after, journal_text, journal_end, place_text}
use Rattle.journal.specs.Notes.{ends_by, is_found}
use Rattle.journal.specs.declared.page.note.Note.{Note}
use Rattle.journal.proofs.Groups.{same_bytes}
use Rattle.journal.proofs.Pushing.{sum_after-push, journal_text-push}
use Rattle.journal.proofs.Sums.{length-sum_of, length-commit}
use Rattle.journal.proofs.TextLines.{lines_text-append}

-- ---- a journal's text begins the text of one with more groups

abbrev Begins : List ℕ → List ℕ → Type 0
Begins front text = (rest : List ℕ) × (text ≡ front ++ rest)

pub begins_more : (first : List ℕ) (groups more : List (List (List ℕ)))
    → Begins (journal_text first groups) (journal_text first (groups ++ more))
begins_more first groups [] = (
  [],
  ap (journal_text first) (append-nil groups) ∙ sym (append-nil (journal_text first groups)),
)
begins_more first groups (group ∷ more) =
    let later = begins_more first (groups ++ group ∷ []) more in
    let last = group_text (sum_after first groups) (journal_end first groups) group in (
      last ++ later.0,
      ap (journal_text first) (sym (append_assoc groups (group ∷ []) more)) ∙ later.1
          ∙ ap (λ (t : List ℕ). t ++ later.0) (sym (journal_text-push first groups group))
          ∙ append_assoc (journal_text first groups) last later.0,
    )

-- ---- the last group

abbrev Ends : List (List (List ℕ)) → Type 0
Ends groups = (front : List (List (List ℕ))) × (last : List (List ℕ))
    × (groups ≡ front ++ last ∷ [])

ends : (group : List (List ℕ)) (groups : List (List (List ℕ))) → Ends (group ∷ groups)
ends group [] = ([], group, refl)
ends group (next ∷ groups) =
    let rest = ends next groups in
    (group ∷ rest.0, rest.1, ap (λ (gs : List (List (List ℕ))). group ∷ gs) rest.2)

-- the second commit line of a group
module _ (before : List ℕ) (start : ℕ) (group : List (List ℕ)) where
  abbrev commit : List ℕ
  commit = commit_line before start group

  abbrev front : List ℕ
  front = lines_text group ++ (commit ++ 10 ∷ [])

  parts : group_text before start group ≡ front ++ (commit ++ 10 ∷ [])
  parts = lines_text-append group (commit ∷ commit ∷ [])
      ∙ ap (λ (t : List ℕ). lines_text group ++ t)
      (sym (append_assoc commit (10 ∷ []) (commit ++ 10 ∷ [])))
      ∙ sym (append_assoc (lines_text group) (commit ++ 10 ∷ []) (commit ++ 10 ∷ []))

  commit_long : length (commit ++ 10 ∷ []) ≡ 83
  commit_long =
      let line = length-commit (before ++ lines_text group) start in
      let both = length-append commit (10 ∷ []) in
      omega (arith, line, both)

  mark_of : (rest : List ℕ) → take 65 ((commit ++ 10 ∷ []) ++ rest)
      ≡ 35 ∷ group_sum before group
  mark_of rest =
      let sum = group_sum before group in
      ap (take 65) (append_assoc commit (10 ∷ []) rest
      ∙ append_assoc (35 ∷ sum) (place_text start) (10 ∷ rest))
      ∙ take_at (35 ∷ sum) (place_text start ++ 10 ∷ rest) 65
      (let long = length-sum_of (before ++ lines_text group) in omega (arith, long))

-- the text of a journal ends by its last sum
ends_text : (first rest : List ℕ) (front : List (List (List ℕ))) (last : List (List ℕ))
    → (83 ≤ journal_end first (front ++ last ∷ []))
    × (take 65 (drop (journal_end first (front ++ last ∷ []) - 83)
    (journal_text first (front ++ last ∷ []) ++ rest))
    ≡ 35 ∷ sum_after first (front ++ last ∷ []))
ends_text first rest front last =
    let before = sum_after first front in
    let start = journal_end first front in
    let line = commit before start last ++ 10 ∷ [] in
    let head = journal_text first front ++ (lines_text last ++ line) in
    let whole : journal_text first (front ++ last ∷ []) ≡ head ++ line =
    sym (journal_text-push first front last)
    ∙ ap (λ (t : List ℕ). journal_text first front ++ t) (parts before start last)
    ∙ sym (append_assoc (journal_text first front) (lines_text last ++ line) line) in
    let long : length line ≡ 83 = commit_long before start last in
    let both = length-append head line in
    let size = ap length whole in
    let at : length head ≡ journal_end first (front ++ last ∷ []) - 83 =
    omega (arith, long, both, size) in (
      omega (arith, long, both, size),
      ap (λ (t : List ℕ). take 65 (drop (journal_end first (front ++ last ∷ []) - 83)
          (t ++ rest))) whole
          ∙ ap (λ (t : List ℕ). take 65 (drop (journal_end first (front ++ last ∷ []) - 83) t))
          (append_assoc head line rest)
          ∙ ap (take 65) (drop_at head (line ++ rest)
          (journal_end first (front ++ last ∷ []) - 83) at)
          ∙ mark_of before start last rest
          ∙ ap (λ (t : List ℕ). 35 ∷ t) (sym (sum_after-push first front last)),
    )

-- ---- what a witness says

at_start : (note : Note) (text : List ℕ) (till : ℕ) → note.end ≡ 0 → is_found note text till ≡ true
at_start note text till none =
    ap (λ (n : ℕ). if n == 0 then true else nat_le n till && ends_by text n note.sum) none

at_end : (note : Note) (text : List ℕ) (till : ℕ) → note.end ≤ till
    → ends_by text note.end note.sum ≡ true → is_found note text till ≡ true
at_end note text till le by =
    let within : nat_le note.end till ≡ true = grind (arith, nat_tests, le) in
    elim (cases_Bool (note.end == 0)) [
      | inl none ↦ rw none refl
      | inr some ↦ rw (some, within) by
    ]

-- what a note witnesses is found in each file to which groups were added since
pub witness_found : (first rest : List ℕ) (groups more : List (List (List ℕ))) (note : Note)
    → note.end ≡ journal_end first groups → note.sum ≡ sum_after first groups
    → is_found note (journal_text first (groups ++ more) ++ rest)
    (journal_end first (groups ++ more)) ≡ true
witness_found first rest [] more note end sum = at_start note _ _ end
witness_found first rest (group ∷ groups) more note end sum =
    let all = group ∷ groups in
    let last = ends group groups in
    let text = journal_text first (all ++ more) ++ rest in
    let begins = begins_more first all more in
    let is : text ≡ journal_text first (last.0 ++ last.1 ∷ []) ++ (begins.0 ++ rest) =
    ap (λ (t : List ℕ). t ++ rest) begins.1
    ∙ append_assoc (journal_text first all) begins.0 rest
    ∙ ap (λ (gs : List (List (List ℕ))). journal_text first gs ++ (begins.0 ++ rest)) last.2 in
    let there = ends_text first (begins.0 ++ rest) last.0 last.1 in
    let place : note.end ≡ journal_end first (last.0 ++ last.1 ∷ []) =
    end ∙ ap (journal_end first) last.2 in
    let said : take 65 (drop (note.end - 83) text) ≡ 35 ∷ note.sum =
    ap (λ (t : List ℕ). take 65 (drop (note.end - 83) t)) is
    ∙ ap (λ (n : ℕ). take 65 (drop (n - 83)
    (journal_text first (last.0 ++ last.1 ∷ []) ++ (begins.0 ++ rest)))) place
    ∙ there.1
    ∙ ap (λ (gs : List (List (List ℕ))). 35 ∷ sum_after first gs) (sym last.2)
    ∙ ap (λ (t : List ℕ). 35 ∷ t) (sym sum) in
    let long = ap length begins.1 in
    let both = length-append (journal_text first all) begins.0 in
    at_end note text (journal_end first (all ++ more)) (omega (arith, end, long, both))
    (ap (λ (t : List ℕ). bytes_eq t (35 ∷ note.sum)) said ∙ same_bytes (35 ∷ note.sum))
