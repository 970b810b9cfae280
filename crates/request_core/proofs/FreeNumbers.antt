-- The next number is free.
use Rattle.std.proofs.Common.{◌≡◌, ℕ, ◌<◌, false, List, [], ◌∷◌, refl, arith}
use Rattle.std.specs.Prelude.{All, ◌==◌}
use Rattle.std.specs.List.{list_any}
use Rattle.std.proofs.lemmas.Bool.{or_from}
use Rattle.std.proofs.lemmas.Bool.Decides.{nat_tests}
use Rattle.std.proofs.lemmas.List.Elements.{All-head, All-tail}

pub apart : (x n : ℕ) → x < n → (x == n) ≡ false
apart x n h = grind (arith, nat_tests)

pub number_free : (n : ℕ) (numbers : List ℕ) → All (λ other. other < n) numbers → list_any (λ other. other == n) numbers ≡ false
number_free n [] h = refl
number_free n (x ∷ numbers) h = or_from (x == n) (list_any (λ other. other == n) numbers) (apart x n (All-head (λ other. other < n) x numbers h)) (number_free n numbers (All-tail (λ other. other < n) x numbers h))
