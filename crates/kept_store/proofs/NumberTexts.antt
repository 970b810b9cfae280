-- What number digits write.
use Rattle.std.proofs.Common.{◌≡◌, ℕ, ◌+◌, ◌-◌, ◌*◌, ◌≤◌, ◌∙◌, ap, sym, List, [], ◌∷◌, Option, Some, None, arith}
use Rattle.std.specs.Prelude.{IfNone}
use Rattle.kept_store.specs.Numbers.{number_after}

-- more digits write no smaller number
pub no_smaller : (number : ℕ) (digits : List ℕ) → number ≤ number_after number digits
no_smaller number [] = omega arith
no_smaller number (digit ∷ digits) =
    let more = no_smaller (number * 10 + (digit - 48)) digits in
    omega (arith, more)

-- one digit is read
pub next_digit : (number next digit : ℕ) (rest later : List ℕ) → rest ≡ digit ∷ later
    → next ≡ number * 10 + (digit - 48) → number_after next later ≡ number_after number rest
next_digit number next digit rest later is more =
    ap (λ (n : ℕ). number_after n later) more ∙ ap (number_after number) (sym is)

-- all are read
pub no_digit : (number all : ℕ) (rest : List ℕ) → rest ≡ [] → number_after number rest ≡ all
    → number ≡ all
no_digit number all rest none is = ap (number_after number) (sym none) ∙ is

-- what is too large stays so
pub too_large : (most number all digit : ℕ) (rest later : List ℕ) → rest ≡ digit ∷ later
    → most ≤ number * 10 + (digit - 48) → number_after number rest ≡ all → most ≤ all
too_large most number all digit rest later is large total =
    let more = no_smaller (number * 10 + (digit - 48)) later in
    let whole : number_after (number * 10 + (digit - 48)) later ≡ all =
    ap (number_after number) (sym is) ∙ total in
    omega (arith, large, more, whole)

pub if_none : {T : Type 0} {P : Type 0} (found : Option T) → P → IfNone found P
if_none None p = p
if_none (Some x) p = tt
