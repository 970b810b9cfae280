use Rattle.steal_mark.specs.Hinting.{IsHintSeat}
use Rattle.steal_mark.specs.Working.{IsSound, SameMarker}
use Rattle.steal_mark.proofs.threads.worker.work.Given as goal

-- the worker is the same, after some turns
abbrev pub invariant-loop : goal.invariant-loop
invariant-loop g l = IsSound l.marker × SameMarker l.initial.marker l.marker × IsHintSeat l.hints l.seat
