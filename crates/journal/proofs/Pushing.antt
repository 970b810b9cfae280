-- A journal has one group more.
use Rattle.std.proofs.Common.{◌≡◌, ◌∙◌, ap, sym, refl, ℕ, List, [], ◌∷◌, ◌++◌, arith, append_assoc}
use Rattle.std.proofs.lemmas.List.{append-nil}
use Rattle.journal.specs.Text.{lines_text, group_sum, group_end, group_lines, group_text, sum_after, lines_from, journal_text, journal_end, AreLines, AreGroups}
use Rattle.journal.proofs.TextLines.{lines_text-append}
use Rattle.journal.proofs.Groups.{end_of, end_of-more, nothing_before}

lines_from-push : (before : List ℕ) (start : ℕ) (groups : List (List (List ℕ)))
    (group : List (List ℕ))
    → lines_from before start (groups ++ group ∷ [])
    ≡ lines_from before start groups ++ group_lines (sum_after before groups)
    (end_of before start groups) group
lines_from-push before start [] group = append-nil (group_lines before start group)
    ∙ ap (λ (n : ℕ). group_lines before n group) (omega arith)
lines_from-push before start (g ∷ groups) group =
    let next = group_sum before g in
    let end = group_end before start g in
    ap (λ (ls : List (List ℕ)). group_lines before start g ++ ls)
    (lines_from-push next end groups group)
    ∙ sym (append_assoc (group_lines before start g) (lines_from next end groups)
    (group_lines (sum_after next groups) (end_of next end groups) group))
    ∙ ap (λ (n : ℕ). lines_from before start (g ∷ groups) ++ group_lines
    (sum_after next groups) n group) (end_of-more before start g groups)

pub sum_after-push : (first : List ℕ) (groups : List (List (List ℕ))) (group : List (List ℕ))
    → sum_after first (groups ++ group ∷ []) ≡ group_sum (sum_after first groups) group
sum_after-push first [] group = refl
sum_after-push first (g ∷ groups) group = sum_after-push (group_sum first g) groups group

pub are_pushed : (groups : List (List (List ℕ))) (group : List (List ℕ)) → AreGroups groups
    → AreLines group → AreGroups (groups ++ group ∷ [])
are_pushed [] group all each = (each, tt)
are_pushed (g ∷ groups) group all each = (all.0, are_pushed groups group all.1 each)

pub journal_text-push : (first : List ℕ) (groups : List (List (List ℕ))) (group : List (List ℕ))
    → journal_text first groups ++ group_text (sum_after first groups)
    (journal_end first groups) group ≡ journal_text first (groups ++ group ∷ [])
journal_text-push first groups group =
    ap (λ (n : ℕ). journal_text first groups ++ group_text (sum_after first groups) n group)
    (sym (nothing_before (journal_end first groups)))
    ∙ sym (lines_text-append (lines_from first 0 groups)
    (group_lines (sum_after first groups) (end_of first 0 groups) group))
    ∙ ap lines_text (sym (lines_from-push first 0 groups group))
