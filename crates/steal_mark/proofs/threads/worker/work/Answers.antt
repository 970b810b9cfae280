use Rattle.std.proofs.Common.{rules}
use Rattle.steal_mark.proofs.threads.worker.work.Goals.{in-None, in-Some+in-Ok-Nothing+then-is_over, in-Some+in-Err}
use Rattle.steal_mark.proofs.threads.worker.work.Goals as goal

-- the worker is the same after its last turn, however it ends
pub returns : goal.returns
returns g c = record {
  kept = elim c.match-next.branch [
    | in-None w ↦ search rules
    | in-Some+in-Ok-Nothing+then-is_over w ↦ search rules
    | in-Some+in-Err w ↦ search rules
  ];
}
