-- The head of a line tells what the line is.
use Rattle.std.proofs.Common.{◌≡◌, ◌∙◌, ap, refl, ℕ, zero, suc, ◌==◌, ◌-◌, ◌<◌, List, [], ◌∷◌, ◌++◌, length, take, drop, Bool, ◌&&◌, not, bytes_eq, arith}
use Rattle.std.proofs.lemmas.List.{drop-take}
use Rattle.journal.specs.Text.{is_zero, is_commit, sum_of, commit_of, place_text}
use Rattle.journal.specs.Reading.{stands, is_overlong}
use Rattle.journal.proofs.Sums.{length-commit, length-place_text}

-- a longer front is compared as all of it
front_eq : (n : ℕ) (a b : List ℕ) → length b < n → bytes_eq (take n a) b ≡ bytes_eq a b
front_eq zero a b lt = absurd (omega (arith, lt))
front_eq (suc n) [] b lt = refl
front_eq (suc n) (x ∷ a) [] lt = refl
front_eq (suc n) (x ∷ a) (y ∷ b) lt =
    ap (λ (t : Bool). (x == y) && t) (front_eq n a b (omega (arith, lt)))

front_commit : (n : ℕ) (line : List ℕ) → 0 < n → is_commit (take n line) ≡ is_commit line
front_commit zero line some = absurd (omega (arith, some))
front_commit (suc n) [] some = refl
front_commit (suc n) (b ∷ line) some = refl

front_stands : (n : ℕ) (piece : List ℕ) → stands n (take n piece) ≡ stands n piece
front_stands zero piece = refl
front_stands (suc n) [] = refl
front_stands (suc n) (b ∷ piece) = ap (λ (t : Bool). not (is_zero b) && t) (front_stands n piece)

-- the front of two texts
pub front_more : (n : ℕ) (a b : List ℕ)
    → take n a ++ take (n - length (take n a)) b ≡ take n (a ++ b)
front_more zero a b = refl
front_more (suc n) [] b = let all : suc n - 0 ≡ suc n = omega arith in ap (λ (k : ℕ). take k b) all
front_more (suc n) (x ∷ a) b =
    let less : suc n - length (x ∷ take n a) ≡ n - length (take n a) = omega arith in
    ap (λ (k : ℕ). (x ∷ take n a) ++ take k b) less ∙ ap (λ (t : List ℕ). x ∷ t) (front_more n a b)

module _ (head piece : List ℕ) (is : head ≡ take 83 piece) where
  pub head_commit : is_commit head ≡ is_commit piece
  head_commit = ap is_commit is ∙ front_commit 83 piece (omega arith)

  pub head_overlong : is_overlong head ≡ is_overlong piece
  head_overlong = rw (head_commit, ap (stands 83) is ∙ front_stands 83 piece) refl

  pub head_equals : (text : List ℕ) (place : ℕ)
      → bytes_eq head (commit_of (sum_of text) place)
      ≡ bytes_eq piece (commit_of (sum_of text) place)
  head_equals text place =
      ap (λ (t : List ℕ). bytes_eq t (commit_of (sum_of text) place)) is
      ∙ front_eq 83 piece (commit_of (sum_of text) place)
      (let n = length-commit text place in omega (arith, n))

  pub head_place : (place : ℕ)
      → bytes_eq (drop 65 head) (place_text place) ≡ bytes_eq (drop 65 piece) (place_text place)
  head_place place =
      ap (λ (t : List ℕ). bytes_eq (drop 65 t) (place_text place)) is
      ∙ ap (λ (t : List ℕ). bytes_eq t (place_text place)) (drop-take 65 18 piece)
      ∙ front_eq 18 (drop 65 piece) (place_text place)
      (let n = length-place_text place in omega (arith, n))
