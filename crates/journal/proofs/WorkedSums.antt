-- The sums and the notes of the worked files, computed.
use Rattle.std.proofs.Common.{◌≡◌, ◌∙◌, refl, List, ℕ, [], ◌∷◌, ◌++◌, codes}
use Rattle.hex.specs.Hex.{encode_with}
use Rattle.sha2.specs.Sha256.{first_words, schedule, rounds, compress, hash_after, digest_bytes, sha256}
use Rattle.journal.specs.Text.{sum_of, place_text, commit_line}
use Rattle.journal.specs.Notes.{note_body, note_text, first_sum}
use Rattle.journal.specs.WorkedFiles.{zero_digits, digits_one, digits_two, digits_three, commit_one, commit_two, commit_three, group_one, group_two, group_three, digits_checkpoint, digits_later, worked_card, commit_checkpoint, commit_later, group_checkpoint, group_later}

-- names all that a sum is computed with
computed_sum : List ℕ → List ℕ
unfolding sum_of encode_with first_words schedule rounds compress hash_after digest_bytes sha256
computed_sum text = sum_of text

-- ---- the three groups

pub sum_one : sum_of (zero_digits ++ codes "a\nbc\n") ≡ digits_one
unfolding computed_sum
sum_one = refl

pub sum_two : sum_of (digits_one ++ codes "d\n") ≡ digits_two
unfolding computed_sum
sum_two = refl

pub sum_three : sum_of (digits_two ++ codes "ef\n") ≡ digits_three
unfolding computed_sum
sum_three = refl

place_0 : place_text 0 ≡ codes " 0000000000000000"
unfolding place_text encode_with
place_0 = refl

place_171 : place_text 171 ≡ codes " 00000000000000ab"
unfolding place_text encode_with
place_171 = refl

place_339 : place_text 339 ≡ codes " 0000000000000153"
unfolding place_text encode_with
place_339 = refl

pub commit_one_is : commit_line zero_digits 0 group_one ≡ commit_one
commit_one_is = λ i. 35 ∷ sum_one i ++ place_0 i

pub commit_two_is : commit_line digits_one 171 group_two ≡ commit_two
commit_two_is = λ i. 35 ∷ sum_two i ++ place_171 i

pub commit_three_is : commit_line digits_two 339 group_three ≡ commit_three
commit_three_is = λ i. 35 ∷ sum_three i ++ place_339 i

-- ---- changed lines

-- the commit line of the changed first group
abbrev pub commit_other : List ℕ
commit_other =
    35 ∷ codes "8034d07132d3ba318a98ac27a6951bc7b3f6d03eaf7081a020296c5a3a42b282"
    ++ codes " 0000000000000000"

sum_other : sum_of (zero_digits ++ codes "a\nbd\n")
    ≡ codes "8034d07132d3ba318a98ac27a6951bc7b3f6d03eaf7081a020296c5a3a42b282"
unfolding computed_sum
sum_other = refl

pub commit_other_is : commit_line zero_digits 0 (codes "a" ∷ codes "bd" ∷ []) ≡ commit_other
commit_other_is = λ i. 35 ∷ sum_other i ++ place_0 i

-- the commit line of the changed second group
abbrev pub commit_noisy : List ℕ
commit_noisy =
    35 ∷ codes "145bcb3145f407a90d2c22d0980c4f7632d36271094ca1c0482cfb86e663c188"
    ++ codes " 00000000000000ab"

sum_noisy : sum_of (digits_one ++ 255 ∷ 10 ∷ [])
    ≡ codes "145bcb3145f407a90d2c22d0980c4f7632d36271094ca1c0482cfb86e663c188"
unfolding computed_sum
sum_noisy = refl

pub commit_noisy_is : commit_line digits_one 171 ((255 ∷ []) ∷ []) ≡ commit_noisy
commit_noisy_is = λ i. 35 ∷ sum_noisy i ++ place_171 i

-- ---- the checkpoint

-- the first sum of its file
abbrev pub digits_first : List ℕ
digits_first = codes "4f7bd4260a427249fcc6f6965b6c103d1e83532d7087282d29c16798f20b1f8a"

place_1 : place_text 1 ≡ codes " 0000000000000001"
unfolding place_text encode_with
place_1 = refl

sum_of_card : sum_of (codes "0123456789abcdef0123456789abcdef 0000000000000001") ≡ digits_first
unfolding computed_sum
sum_of_card = refl

pub sum_first : first_sum worked_card ≡ digits_first
sum_first = (λ i. sum_of (codes "0123456789abcdef0123456789abcdef" ++ place_1 i)) ∙ sum_of_card

pub sum_checkpoint : sum_of (digits_first ++ codes "number 1\na\n") ≡ digits_checkpoint
unfolding computed_sum
sum_checkpoint = refl

pub sum_later : sum_of (digits_checkpoint ++ codes "bc\n") ≡ digits_later
unfolding computed_sum
sum_later = refl

place_177 : place_text 177 ≡ codes " 00000000000000b1"
unfolding place_text encode_with
place_177 = refl

pub commit_checkpoint_is : commit_line digits_first 0 group_checkpoint ≡ commit_checkpoint
commit_checkpoint_is = λ i. 35 ∷ sum_checkpoint i ++ place_0 i

pub commit_later_is : commit_line digits_checkpoint 177 group_later ≡ commit_later
commit_later_is = λ i. 35 ∷ sum_later i ++ place_177 i

-- ---- the card

abbrev body : List ℕ
body = codes "0123456789abcdef0123456789abcdef 0000000000000001 00000000000000b1 "
    ++ digits_checkpoint

abbrev check : List ℕ
check = codes "687bb5ad69dd9cacafac473567479dc35ecb200ae16ea6fa5cf70b2eb07f2688"

body_is : note_body worked_card ≡ body
body_is = λ i. codes "0123456789abcdef0123456789abcdef"
    ++ (place_1 i ++ (place_177 i ++ 32 ∷ digits_checkpoint))

sum_card : sum_of body ≡ check
unfolding computed_sum
sum_card = refl

pub card_is : note_text worked_card ≡ body ++ 32 ∷ (check ++ 10 ∷ [])
card_is = (λ i. body_is i ++ 32 ∷ (sum_of (body_is i) ++ 10 ∷ []))
    ∙ (λ i. body ++ 32 ∷ (sum_card i ++ 10 ∷ []))
