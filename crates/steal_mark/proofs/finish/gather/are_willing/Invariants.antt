use Rattle.std.proofs.Common.{take}
use Rattle.std.specs.Prelude.{All}
use Rattle.steal_mark.specs.Team.{IsWilling}
use Rattle.steal_mark.proofs.finish.gather.are_willing.Given as goal

-- the markers so far were not refused
abbrev pub invariant-loop-marker : goal.invariant-loop-marker
invariant-loop-marker l = All IsWilling (take l.marker-index l.markers)
