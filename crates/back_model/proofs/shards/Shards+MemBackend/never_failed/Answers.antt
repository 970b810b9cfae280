use Rattle.std.proofs.Common.{◌≡◌, refl, List, [], ◌∷◌, map}
use Rattle.meta_types.specs.Text.{Text}
use Rattle.back_model.specs.Snaps.{Snaps}
use Rattle.back_model.specs.Shown.{shown, all_failures}
use Rattle.back_model.specs.Settled.{in_place}
use Rattle.back_model.proofs.PlacedShards.{failures_put}
use Rattle.back_model.proofs.shards.Shards+MemBackend.never_failed.Goals as goal

none_failed : {Backend : Type 0} (contents : Backend → Snaps) (entries : List (Text × Backend))
    → all_failures (in_place (map (shown contents (λ _. 0)) entries)) ≡ 0
none_failed contents [] = refl
none_failed contents (entry ∷ entries) =
    failures_put (shown contents (λ _. 0) entry) refl
    (in_place (map (shown contents (λ _. 0)) entries)) (none_failed contents entries)

-- each shard in memory has failed no time
pub returns : goal.returns
returns c = rw (← c.self.view_is) (none_failed _ c.self.inside.shards.items)
