-- Room in a block of a file.
use Rattle.std.proofs.Common.{◌≡◌, ◌∙◌, ap, refl, ℕ, zero, suc, ◌-◌, List, [], ◌++◌, take, replicate, length, arith, length-append}
use Rattle.std.proofs.lemmas.List.{length-replicate}

nothing_taken : (n : ℕ) → length (take {A = ℕ} n []) ≡ 0
nothing_taken zero = refl
nothing_taken (suc n) = refl

pub filled : (n had : ℕ) (old : List ℕ) → old ≡ [] → had ≡ 0
    → length (take n old ++ replicate (n - had) 0) ≡ n
filled n had old empty none =
    let front : length (take n old) ≡ 0 = ap (λ (t : List ℕ). length (take n t)) empty
    ∙ nothing_taken n in
    let back = length-replicate {A = ℕ} (n - had) 0 in
    let both = length-append (take n old) (replicate (n - had) 0) in
    omega (arith, front, back, both, none)
