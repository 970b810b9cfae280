-- No write leaves a byte that no UTF-8 text has: what is read of it is what its lines are.
use Rattle.std.proofs.Common.{◌≡◌, ◌⊎◌, ◌∙◌, ap, refl, ℕ, zero, suc, ◌/◌, ◌%◌, List, [], ◌∷◌, ◌++◌, length, replicate, slice_index, true, false, inl, inr}
use Rattle.std.specs.Int.{to_be_bytes, w64}
use Rattle.sha2.specs.Sha256.{sha256}
use Rattle.hex.specs.Hex.{encode_with, lower_digits}
use Rattle.journal.specs.Text.{is_noise, has_noise, is_torn, lines_text, sum_of, place_text, commit_of, commit_line, group_sum, group_lines, group_text, group_end, sum_after, lines_from, journal_text, journal_end, AreLines, AreGroups}
use Rattle.journal.specs.Reading.{found, sound}
use Rattle.journal.specs.Crashes.{Mixes}
use Rattle.journal.proofs.TextLines.{lines_text-append}
use Rattle.journal.proofs.Groups.{over_zeros, written_is_parsed, torn_is_parsed}
use Rattle.journal.proofs.Clear.{clear_both, zeros_are_clear, left_is_clear, lines_are_clear, groups_are_found}

-- ---- commit lines

digit_is_clear : (k : ℕ) → is_noise (slice_index lower_digits k) ≡ false
digit_is_clear zero = refl
digit_is_clear (suc zero) = refl
digit_is_clear (suc (suc zero)) = refl
digit_is_clear (suc (suc (suc zero))) = refl
digit_is_clear (suc (suc (suc (suc zero)))) = refl
digit_is_clear (suc (suc (suc (suc (suc zero))))) = refl
digit_is_clear (suc (suc (suc (suc (suc (suc zero)))))) = refl
digit_is_clear (suc (suc (suc (suc (suc (suc (suc zero))))))) = refl
digit_is_clear (suc (suc (suc (suc (suc (suc (suc (suc zero)))))))) = refl
digit_is_clear (suc (suc (suc (suc (suc (suc (suc (suc (suc zero))))))))) = refl
digit_is_clear (suc (suc (suc (suc (suc (suc (suc (suc (suc (suc zero)))))))))) = refl
digit_is_clear (suc (suc (suc (suc (suc (suc (suc (suc (suc (suc (suc zero))))))))))) = refl
digit_is_clear (suc (suc (suc (suc (suc (suc (suc (suc (suc (suc (suc (suc zero)))))))))))) = refl
digit_is_clear (suc (suc (suc (suc (suc (suc (suc (suc (suc (suc (suc (suc (suc zero))))))))))))) =
    refl
digit_is_clear (suc (suc
    (suc (suc (suc (suc (suc (suc (suc (suc (suc (suc (suc (suc zero)))))))))))))) = refl
digit_is_clear (suc (suc
    (suc (suc (suc (suc (suc (suc (suc (suc (suc (suc (suc (suc (suc zero))))))))))))))) = refl
digit_is_clear (suc (suc
    (suc (suc (suc (suc (suc (suc (suc (suc (suc (suc (suc (suc (suc (suc more)))))))))))))))) =
    refl

digits_are_clear : (bytes : List ℕ) → has_noise (encode_with lower_digits bytes) ≡ false
unfolding encode_with
digits_are_clear [] = refl
digits_are_clear (b ∷ bytes) =
    rw (digit_is_clear (b / 16), digit_is_clear (b % 16), digits_are_clear bytes) refl

sum_is_clear : (text : List ℕ) → has_noise (sum_of text) ≡ false
unfolding sum_of
sum_is_clear text = digits_are_clear (sha256 text)

place_is_clear : (place : ℕ) → has_noise (place_text place) ≡ false
unfolding place_text
place_is_clear place = digits_are_clear (to_be_bytes w64 place)

commit_is_clear : (text : List ℕ) (start : ℕ) → has_noise (commit_of (sum_of text) start) ≡ false
commit_is_clear text start =
    clear_both (sum_of text) (place_text start) (sum_is_clear text) (place_is_clear start)

-- ---- groups

pub group_is_clear : (before : List ℕ) (start : ℕ) (group : List (List ℕ)) → AreLines group
    → has_noise (group_text before start group) ≡ false
group_is_clear before start group all =
    let commit = commit_line before start group in
    let one : has_noise commit ≡ false = commit_is_clear (before ++ lines_text group) start in
    let two : has_noise (lines_text (commit ∷ commit ∷ [])) ≡ false =
    clear_both commit (10 ∷ (commit ++ 10 ∷ [])) one (clear_both commit (10 ∷ []) one refl) in
    ap has_noise (lines_text-append group (commit ∷ commit ∷ []))
    ∙ clear_both (lines_text group) (lines_text (commit ∷ commit ∷ []))
    (lines_are_clear group all) two

groups_are_clear : (before : List ℕ) (start : ℕ) (groups : List (List (List ℕ)))
    → AreGroups groups → has_noise (lines_text (lines_from before start groups)) ≡ false
groups_are_clear before start [] all = refl
groups_are_clear before start (group ∷ groups) all =
    let rest = lines_from (group_sum before group) (group_end before start group) groups in
    ap has_noise (lines_text-append (group_lines before start group) rest)
    ∙ clear_both (group_text before start group) (lines_text rest)
    (group_is_clear before start group all.0)
    (groups_are_clear (group_sum before group) (group_end before start group) groups all.1)

pub journal_is_clear : (first : List ℕ) (groups : List (List (List ℕ))) → AreGroups groups
    → has_noise (journal_text first groups) ≡ false
journal_is_clear first groups all = groups_are_clear first 0 groups all

-- ---- what is read

-- a journal's text, with zeros behind it, is found to hold its groups, without damage
pub what_is_written_is_read : (first : List ℕ) (groups : List (List (List ℕ))) (room : ℕ)
    → AreGroups groups → found first (journal_text first groups ++ replicate room 0) ≡ sound groups
what_is_written_is_read first groups room all =
    groups_are_found first (journal_text first groups ++ replicate room 0) groups
    (clear_both (journal_text first groups) (replicate room 0) (journal_is_clear first groups all)
    (zeros_are_clear room))
    (written_is_parsed first groups room all)

-- Each byte of the last group is as it was written, or 0. If the group is torn, the groups before
-- it are found; if not, it is whole and is found too. Neither is found as damage.
pub a_torn_group_is_not_there : (first : List ℕ) (groups : List (List (List ℕ)))
    (group : List (List ℕ)) (mixed : List ℕ) (room : ℕ)
    → AreGroups groups → AreLines group
    → let bytes = group_text (sum_after first groups) (journal_end first groups) group in
    let text = journal_text first groups ++ (mixed ++ replicate room 0) in
    Mixes (replicate (length bytes) 0) bytes mixed
    → ((found first text ≡ sound groups) × (is_torn mixed ≡ true))
    ⊎ ((found first text ≡ sound (groups ++ group ∷ [])) × (mixed ≡ bytes))
a_torn_group_is_not_there first groups group mixed room all each mixes =
    let before = sum_after first groups in
    let start = journal_end first groups in
    let text = journal_text first groups ++ (mixed ++ replicate room 0) in
    let none : has_noise text ≡ false =
    clear_both (journal_text first groups) (mixed ++ replicate room 0)
    (journal_is_clear first groups all)
    (clear_both mixed (replicate room 0)
    (left_is_clear (group_text before start group) mixed (group_is_clear before start group each)
    (over_zeros (group_text before start group) mixed mixes))
    (zeros_are_clear room)) in
    elim (torn_is_parsed first groups group mixed room all each mixes) [
      | inl gone ↦ inl (groups_are_found first text groups none gone.0, gone.1)
      | inr whole ↦ inr
          (groups_are_found first text (groups ++ group ∷ []) none whole.0, whole.1)
    ]
