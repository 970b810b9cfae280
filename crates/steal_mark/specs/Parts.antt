-- The parts of a marking, by short names. Ours, unless a source stands beside.
use Rattle.std.specs.Prelude.{ℕ}
use Rattle.std.proofs.Common.{Global, Vec}
use Rattle.atomic_table.specs.declared.owned.Table.{Table}
use Rattle.crossbeam_deque.specs.declared.handles.Worker.{Worker}
use Rattle.mark_core.specs.declared.graph.Graph.{Graph}
use Rattle.steal_mark.specs.declared.shared.claims.Claims.{Claims}
use Rattle.steal_mark.specs.declared.shared.claims.ClaimRule.{ClaimRule}
use Rattle.steal_mark.specs.declared.shared.deques.PassView.{PassView}
use Rattle.steal_mark.specs.declared.shared.deques.DealRule.{DealRule}
use Rattle.steal_mark.specs.declared.turn.thief_pass.ThiefPass.{ThiefPass}

-- the claim words of a marking, under their rule
abbrev pub ClaimTable : Type 0
ClaimTable = Table (Unit {0}) Claims Graph ClaimRule Global

-- the deque of one worker, under its rule
abbrev pub Deque : Type 0
Deque = Worker ℕ Global PassView DealRule

-- the passes of one worker, one on each deque
abbrev pub PassRow : Type 0
PassRow = Vec ThiefPass Global

-- the nodes that one worker has scanned, in order
abbrev pub NodeList : Type 0
NodeList = Vec ℕ Global
