-- Moments fit 128 bits.
use Rattle.std.proofs.Common.{◌≡◌, ℕ, ◌<◌, ◌^◌, ap, ◌∙◌, arith, ℤ, pos, ◌+ℤ◌, ◌-ℤ◌, ◌*ℤ◌, to_z, of_z, FitsSigned, w32, w64}
use Rattle.std.proofs.lemmas.Int.{to_z-of_z}
use mir.Syntax.{w128}
use Rattle.jiff.proofs.SpanFacts.{signed_arith}

wide_day : (day : ℤ) → FitsSigned w32 day → FitsSigned w128 day
wide_day day h = omega (arith, signed_arith)

wide_offset : (offset : ℤ) → FitsSigned w64 offset → FitsSigned w128 offset
wide_offset offset h = omega (arith, signed_arith)

wide_nanosecond : (nanosecond : ℕ) → nanosecond < 2 ^ 64 → FitsSigned w128 (pos nanosecond)
wide_nanosecond nanosecond h = omega (arith, signed_arith)

wide_days : (day : ℤ) → FitsSigned w32 day → FitsSigned w128 (day *ℤ pos 86400000000000)
wide_days day h = omega (arith, signed_arith)

wide_moment : (day : ℤ) (nanosecond : ℕ) → FitsSigned w32 day → nanosecond < 2 ^ 64 → FitsSigned w128 (day *ℤ pos 86400000000000 +ℤ pos nanosecond)
wide_moment day nanosecond h n = omega (arith, signed_arith)

wide_whole : (day : ℤ) (nanosecond : ℕ) (offset : ℤ) → FitsSigned w32 day → nanosecond < 2 ^ 64 → FitsSigned w64 offset → FitsSigned w128 (day *ℤ pos 86400000000000 +ℤ pos nanosecond -ℤ offset)
wide_whole day nanosecond offset h n o = omega (arith, signed_arith)

-- no step of the sum leaves 128 bits
pub wide : (day : ℤ) (nanosecond : ℕ) (offset : ℤ) → FitsSigned w32 day → nanosecond < 2 ^ 64 → FitsSigned w64 offset
    → to_z w128 (of_z w128 (to_z w128 (of_z w128 (to_z w128 (of_z w128 (to_z w128 (of_z w128 day) *ℤ pos 86400000000000)) +ℤ to_z w128 (of_z w128 (pos nanosecond)))) -ℤ to_z w128 (of_z w128 offset)))
    ≡ day *ℤ pos 86400000000000 +ℤ pos nanosecond -ℤ offset
wide day nanosecond offset d n o =
    let day_is = to_z-of_z w128 day (wide_day day d) in
    let days_is = ap (λ (z : ℤ). to_z w128 (of_z w128 (z *ℤ pos 86400000000000))) day_is ∙ to_z-of_z w128 (day *ℤ pos 86400000000000) (wide_days day d) in
    let nanosecond_is = to_z-of_z w128 (pos nanosecond) (wide_nanosecond nanosecond n) in
    let moment_is : to_z w128 (of_z w128 (to_z w128 (of_z w128 (to_z w128 (of_z w128 day) *ℤ pos 86400000000000)) +ℤ to_z w128 (of_z w128 (pos nanosecond)))) ≡ day *ℤ pos 86400000000000 +ℤ pos nanosecond
    = (λ i. to_z w128 (of_z w128 (days_is i +ℤ nanosecond_is i))) ∙ to_z-of_z w128 (day *ℤ pos 86400000000000 +ℤ pos nanosecond) (wide_moment day nanosecond d n) in
    let offset_is = to_z-of_z w128 offset (wide_offset offset o) in
    (λ i. to_z w128 (of_z w128 (moment_is i -ℤ offset_is i))) ∙ to_z-of_z w128 (day *ℤ pos 86400000000000 +ℤ pos nanosecond -ℤ offset) (wide_whole day nanosecond offset d n o)

-- and a day more doesn't either
pub wide_later : (day : ℤ) (nanosecond : ℕ) (offset : ℤ) → FitsSigned w32 day → nanosecond < 2 ^ 64 → FitsSigned w64 offset
    → FitsSigned w128 (day *ℤ pos 86400000000000 +ℤ pos nanosecond -ℤ offset +ℤ pos 86400000000000)
wide_later day nanosecond offset h n o = omega (arith, signed_arith)
