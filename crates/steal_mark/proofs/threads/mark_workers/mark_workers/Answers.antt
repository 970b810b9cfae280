use Rattle.steal_mark.proofs.AfterThreads.{team_after}
use Rattle.steal_mark.proofs.threads.mark_workers.mark_workers.Goals as goal

-- each worker arrived back as the same
pub gather-requires-clause-team : goal.gather-requires-clause-team
gather-requires-clause-team g c = team_after c.in_ok-rest.rest c.in_ok-rest.markers.items c.in_ok-done.done.items c.in_ok-rest.ensures.begins.team c.in_ok-done.ensures.worked
