use Rattle.kept_store.proofs.Replayed.{runs_replay}
use Rattle.kept_store.proofs.laws.runs_replay.Goals as goal

-- a line that isn't logged leaves the store as it was
pub returns : goal.returns
returns g c = record {
  runs = λ from to entries goes.
      runs_replay _ _ g.met.S.StoreService.keeps from to entries goes;
}
