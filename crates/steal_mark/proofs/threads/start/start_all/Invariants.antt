use Rattle.std.proofs.Common.{◌≡◌, ◌≤◌, ◌++◌, length, map, vec_capacity}
use Rattle.steal_mark.specs.Hinting.{IsHintSeat}
use Rattle.steal_mark.proofs.AfterThreads.{began}
use Rattle.steal_mark.proofs.threads.start.start_all.Given as goal

-- each marker so far has its thread
abbrev pub invariant-loop-marker : goal.invariant-loop-marker
invariant-loop-marker g l =
    (goal.iterator-loop-marker g).can_next l.marker-iterator ×
    (goal.iterator-loop-marker g).is_finite l.marker-iterator ×
    (l.yielded ++ l.marker-iterator.rest.items ≡ l.initial.marker-iterator.rest.items) ×
    IsHintSeat l.crew.hints.now l.seat ×
    (length l.initial.marker-iterator.rest.items ≤ vec_capacity l.handles) ×
    (map began l.handles.items ≡ l.yielded)
