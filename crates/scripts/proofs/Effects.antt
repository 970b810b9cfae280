-- A collection whose report names nothing leaves the store as it was.
use Rattle.std.proofs.Common.{◌≡◌, ◌∙◌, ap, refl, sym, ◌==◌, ◌&&◌, List, [], ◌∷◌, length, map, Bool, true, false, inl, inr, arith, ℤ}
use Rattle.std.specs.Prelude.{filter, not}
use Rattle.std.proofs.lemmas.Bool.{cases_Bool, eqb-true, false≢true}
use Rattle.meta_types.specs.Backends.{BackNames, object_name, goes_before, blob_stays, ingest_object_stays, snapshot_object_stays}
use Rattle.meta_types.specs.Collected.{content_stays, snapshot_stays, ingest_stays, collected_records, collected}
use Rattle.meta_types.specs.Keys.{put_in_order, in_order}
use Rattle.meta_types.specs.Paths.{Thing, image_stays, lease_stays}
use Rattle.meta_types.specs.Reports.{Collects, report_of}
use Rattle.meta_types.specs.Rows.{State}
use Rattle.scripts.specs.Changes.{names_no_row, names_no_object, names_nothing, CollectionsWithoutEffect}

both_true : (a b : Bool) → (a && b) ≡ true → (a ≡ true) × (b ≡ true)
both_true true b e = (refl, e)
both_true false b e = absurd (false≢true e)

-- ---- lists that name nothing

none_by_length : {Y : Type 0} (xs : List Y) → (length xs == 0) ≡ true → xs ≡ []
none_by_length [] e = refl
none_by_length (x ∷ xs) e =
    let zero_is : length (x ∷ xs) ≡ 0 = eqb-true (length (x ∷ xs)) 0 e in
    absurd (omega (arith, zero_is))

module _ {X : Type 0} where
  none_mapped : {Y : Type 0} (f : X → Y) (xs : List X) → map f xs ≡ [] → xs ≡ []
  none_mapped f [] e = refl
  none_mapped f (x ∷ xs) e = cc e

  some_put : (before : X → X → Bool) (x : X) (ys : List X) → put_in_order before x ys ≡ [] → ⊥
  some_put before x [] e = cc e
  some_put before x (y ∷ ys) e = elim (cases_Bool (before x y)) [
    | inl first ↦ cc (rw first at e)
    | inr later ↦ cc (rw later at e)
  ]

  none_ordered : (before : X → X → Bool) (xs : List X) → in_order before xs ≡ [] → xs ≡ []
  none_ordered before [] e = refl
  none_ordered before (x ∷ xs) e = absurd (some_put before x (in_order before xs) e)

  -- where nothing goes, all stay
  all_remain : (stays : X → Bool) (xs : List X) → filter (λ x. not (stays x)) xs ≡ []
      → filter stays xs ≡ xs
  all_remain stays [] e = refl
  all_remain stays (x ∷ xs) e = elim (cases_Bool (stays x)) [
    | inl remains ↦
        rw remains (ap (λ (ys : List X). x ∷ ys) (all_remain stays xs (rw remains at e)))
    | inr goes ↦ cc (rw goes at e)
  ]

  -- the same, by the names of the removed rows
  names_tell : {Y : Type 0} (name : X → Y) (stays : X → Bool) (xs : List X)
      → (length (map name (filter (λ x. not (stays x)) xs)) == 0) ≡ true → filter stays xs ≡ xs
  names_tell name stays xs none =
      all_remain stays xs
      (none_mapped name (filter (λ x. not (stays x)) xs)
      (none_by_length (map name (filter (λ x. not (stays x)) xs)) none))

-- ---- a collection

module _ (state : State) (at : ℤ) (reached : Thing → Bool) (failed : BackNames)
    (none : names_nothing (report_of state at reached failed false) ≡ true) where
  rows : names_no_row (report_of state at reached failed false).removed ≡ true
  rows = (both_true _ _ none).0

  objects : names_no_object (report_of state at reached failed false).backend ≡ true
  objects = (both_true _ _ (both_true _ _ none).1).0

  pub nothing_changed : collected state at reached failed ≡ state
  nothing_changed =
      let left = (collected_records at reached state.records).tables in
      let tables = state.records.tables in
      let contents = both_true _ _ rows in
      let images = both_true _ _ contents.1 in
      let ingests = both_true _ _ images.1 in
      let leases = both_true _ _ ingests.1 in
      let content_same = names_tell _ (content_stays reached) tables.content contents.0 in
      let images_same = names_tell _ (image_stays state.records.profile at)
      tables.images images.0 in
      let ingests_same = names_tell _ (ingest_stays reached) tables.ingests
      ingests.0 in
      let leases_same = names_tell _ (lease_stays at) state.records.leases
      leases.0 in
      let snapshots_same = names_tell _ (snapshot_stays reached) tables.snapshots leases.1 in
      let blobs = both_true _ _ objects in
      let others = both_true _ _ blobs.1 in
      let blobs_same = all_remain (blob_stays left failed) state.backends.blobs
      (none_by_length _ blobs.0) in
      let objects_same = all_remain (ingest_object_stays left failed) state.backends.ingests
      (none_by_length _ others.0) in
      let backs_same = all_remain (snapshot_object_stays left state.backends.snapshots failed)
      state.backends.snapshots (none_ordered (goes_before state.backends.snapshots) _
      (none_mapped object_name _ (none_by_length _ others.1))) in
      λ i. record {
        records = record state.records {
          tables = record tables {
            images = images_same i;
            content = content_same i;
            ingests = ingests_same i;
            snapshots = snapshots_same i;
          };
          leases = leases_same i;
        };
        backends = record {
          blobs = blobs_same i;
          snapshots = backs_same i;
          ingests = objects_same i;
        };
      }

-- a collection whose report names no row or object, removed or failed, leaves the store as it was
pub collections_without_effect : CollectionsWithoutEffect
collections_without_effect state at failed report new collects none =
    collects.state_is
    ∙ nothing_changed state at collects.reached failed
    (sym (ap names_nothing collects.report_is) ∙ none)
