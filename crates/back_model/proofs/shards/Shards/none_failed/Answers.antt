use Rattle.std.proofs.Common.{◌≡◌, ℕ, refl, List, [], ◌∷◌, map}
use Rattle.meta_types.specs.Text.{Text}
use Rattle.back_model.specs.Answers.{NeverFails}
use Rattle.back_model.specs.Snaps.{Snaps}
use Rattle.back_model.specs.Shown.{shown, all_failures}
use Rattle.back_model.specs.Settled.{in_place}
use Rattle.back_model.proofs.PlacedShards.{failures_put}
use Rattle.back_model.proofs.shards.Shards.none_failed.Goals as goal

none_failed : {Backend : Type 0} (contents : Backend → Snaps) (fails : Backend → ℕ)
    → NeverFails fails → (entries : List (Text × Backend))
    → all_failures (in_place (map (shown contents fails) entries)) ≡ 0
none_failed contents fails never [] = refl
none_failed contents fails never (entry ∷ entries) =
    failures_put (shown contents fails entry) (never entry.1)
    (in_place (map (shown contents fails) entries)) (none_failed contents fails never entries)

-- each shard has failed no time
pub returns : goal.returns
returns g c =
    λ never. rw (← c.self.view_is) (none_failed _ _ never c.self.inside.shards.items)
