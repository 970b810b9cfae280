-- What became of objects, beside their names. Ours, unless a source stands beside.
use Rattle.std.specs.Prelude.{◌≡◌, Bool, true, false, List, [], ◌∷◌, if◌then◌else◌, length}
use Rattle.meta_types.specs.Backends.{BackNames}
use Rattle.backend_sweep.specs.declared.outcomes.Outcome.{Outcome}
use Rattle.backend_sweep.specs.declared.outcomes.Outcome.TheVariants as F

-- it went
abbrev pub was_removed : Outcome → Bool
was_removed F.Removed = true
was_removed F.Failed = false
was_removed F.Kept = false

-- the device failed its removal
abbrev pub has_failed : Outcome → Bool
has_failed F.Removed = false
has_failed F.Failed = true
has_failed F.Kept = false

-- of names beside outcomes, those with such an outcome, in their order
abbrev pub names_with : {X : Type 0} → (Outcome → Bool) → List X → List Outcome → List X
names_with wanted [] outcomes = []
names_with wanted (name ∷ names) [] = []
names_with wanted (name ∷ names) (outcome ∷ outcomes) = if wanted outcome then name ∷ names_with
    wanted names outcomes else names_with wanted names outcomes

-- an outcome for each object
pub record AllOutcomes : Type 0 where
  pub blobs : List Outcome
  pub ingests : List Outcome
  pub snapshots : List Outcome

-- the objects with such an outcome
abbrev pub objects_with : (Outcome → Bool) → BackNames → AllOutcomes → BackNames
objects_with wanted names outcomes = record {
  blobs = names_with wanted names.blobs outcomes.blobs;
  ingests = names_with wanted names.ingests outcomes.ingests;
  snapshots = names_with wanted names.snapshots outcomes.snapshots;
}

-- the objects that went
abbrev pub removed_of : BackNames → AllOutcomes → BackNames
removed_of names outcomes = objects_with was_removed names outcomes

-- the objects that the device failed
abbrev pub failed_of : BackNames → AllOutcomes → BackNames
failed_of names outcomes = objects_with has_failed names outcomes

-- there is an outcome for each of these objects
pub record AreOutcomesOf (names : BackNames) (outcomes : AllOutcomes) : Type 0 where
  pub blobs : length outcomes.blobs ≡ length names.blobs
  pub ingests : length outcomes.ingests ≡ length names.ingests
  pub snapshots : length outcomes.snapshots ≡ length names.snapshots
