-- What a replay answers. Ours, unless a source stands beside.
use Rattle.std.specs.Prelude.{◌≡◌, ℕ, List, false, IsTrue}
use Rattle.meta_types.specs.Limits.{is_worker_count}
use Rattle.mark_core.specs.declared.graph.Graph.{Graph}
use Rattle.mark_core.specs.declared.event.MarkEvent.{MarkEvent}
use Rattle.mark_core.specs.declared.replay_fault.ReplayFault.{ReplayFault}
use Rattle.mark_core.specs.declared.replay_fault.ReplayFault.TheVariants.{BadEvent, Workers, Memory}
use Rattle.mark_core.specs.Machine.{Machine, machine_start, Run, IsFirstBad}

-- a marking may have this number of workers, and the events lead from its start to this state
abbrev pub Replays : Graph → ℕ → List MarkEvent → Machine → Type 0
Replays g workers events m =
    IsTrue (is_worker_count workers) × Run g (machine_start g workers) events m

-- a wrong number of workers is answered first, and exactly so;
-- then the place of the first event that isn't allowed, or a refused growth
abbrev pub RefusesReplay : Graph → ℕ → List MarkEvent → ReplayFault → Type 0
RefusesReplay g workers events Workers = is_worker_count workers ≡ false
RefusesReplay g workers events (BadEvent place) =
    IsTrue (is_worker_count workers) × IsFirstBad g (machine_start g workers) events place
RefusesReplay g workers events Memory = IsTrue (is_worker_count workers)
