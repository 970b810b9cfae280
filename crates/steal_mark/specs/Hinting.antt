-- The hint words. Ours, unless a source stands beside.
use Rattle.std.specs.Prelude.{◌≡◌}
use Rattle.std.proofs.Common.{Global}
use Rattle.atomic_table.specs.declared.owned.Table.{Table}
use Rattle.atomic_table.specs.declared.shared.Seat.{Seat}
use Rattle.steal_mark.specs.declared.shared.hints.HintRule.{HintRule}

-- a seat at the busy word and the stop word
abbrev pub IsHintSeat : Table (Unit {0}) (Unit {0}) (Unit {0}) HintRule Global → Seat (Unit {0}) (Unit {0}) → Type 0
IsHintSeat hints seat = (seat.table_id ≡ hints.shared.table_id) × (hints.shared.table_id.words ≡ 2)
