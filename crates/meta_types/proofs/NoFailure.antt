-- That no device failed is always possible.
use Rattle.std.proofs.Common.{◌≡◌, false, List, [], ◌∷◌, refl}
use Rattle.std.specs.Prelude.{filter}
use Rattle.std.proofs.lemmas.Bool.{false≢true}
use Rattle.meta_types.specs.Rows.{Tables, BackLists}
use Rattle.meta_types.specs.Backends.{IsFailure, no_objects, removed_objects}

nothing_passes : {X : Type 0} (xs : List X) → [] ≡ filter (λ _. false) xs
nothing_passes [] = refl
nothing_passes (x ∷ xs) = nothing_passes xs

-- of any tables and objects, a collection may have no failure
pub no_failure : (tables : Tables) (back : BackLists) → IsFailure tables back no_objects
no_failure tables back = record {
  blobs = nothing_passes (removed_objects tables no_objects back).blobs;
  ingests = nothing_passes (removed_objects tables no_objects back).ingests;
  snapshots = nothing_passes (removed_objects tables no_objects back).snapshots;
  apart = λ k d lt h. absurd (false≢true h);
}
