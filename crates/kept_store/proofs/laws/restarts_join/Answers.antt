use Rattle.kept_store.proofs.Restarts.{finds_both}
use Rattle.kept_store.proofs.laws.restarts_join.Goals as goal

-- what a start finds after the second call it finds of both
pub returns : goal.returns
returns g c = record {
  joined = λ start mid contents contents2 piece left left2 log found one other.
      finds_both _ _ g.met.S.StoreService.keeps start mid contents piece left _ one contents2
      left2 found other;
}
