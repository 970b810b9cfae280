-- When what begins at a moment ends.
use Rattle.std.proofs.Common.{Option, Some, ℤ}
use Rattle.std.specs.Prelude.{option_map, pos, ◌+ℤ◌}
use Rattle.meta_types.specs.declared.instant.Instant.{Instant}

-- the end at a moment
abbrev pub end_at : ℤ → Option Instant
end_at moment = Some (record { 0 = moment })

-- 24 hours later
abbrev pub a_day_later : Option ℤ → Option Instant
a_day_later moment = option_map (λ at. record { 0 = at +ℤ pos 86400000000000 }) moment
