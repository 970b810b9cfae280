-- How large the number of a fraction can be.
use Rattle.std.proofs.Common.{◌≡◌, ◌≤◌, ℕ, ◌+◌, ◌-◌, ◌*◌, ◌^◌, arith, ap, pow-add}
use Rattle.std.proofs.Math.Nat.{mul-le-mul_right}

pub scaled : (n count : ℕ) → count ≤ 9 → n ≤ 23 * 10 ^ count → n * 10 ^ (9 - count) ≤ 23000000000
scaled n count few small =
    let nine : count + (9 - count) ≡ 9 = omega arith in
    let whole = ap (λ (k : ℕ). 10 ^ k) nine in
    omega (arith, pow-add 10 count (9 - count), whole, mul-le-mul_right (10 ^ (9 - count)) small)
