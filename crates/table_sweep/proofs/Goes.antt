-- What the lists of objects that go are, by the definitions.
use Rattle.std.proofs.Common.{◌≡◌, ℕ, Bool, true, false, not, List, [], ◌∷◌, map, filter, refl, sym, ap, ◌∙◌, if◌then◌else◌}
use Rattle.std.specs.Prelude.{◌&&◌, ◌||◌, ◌==◌, bytes_eq}
use Rattle.std.specs.List.{list_any, flat_map}
use Rattle.std.specs.List.Sorted.{IsPermutation}
use Rattle.std.proofs.lemmas.List.{map-id}
use Rattle.std.proofs.lemmas.List.Elements.{filter_agree}
use Rattle.std.proofs.lemmas.List.Sorted.{list_any-IsPermutation}
use Rattle.meta_types.specs.Text.{Text}
use Rattle.meta_types.specs.Rows.{Tables, BackSnap}
use Rattle.meta_types.specs.declared.rows.ContentRow.{ContentRow}
use Rattle.meta_types.specs.declared.rows.IngestRow.{IngestRow}
use Rattle.meta_types.specs.declared.rows.SnapRow.{SnapRow}
use Rattle.meta_types.specs.Keys.{in_order}
use Rattle.meta_types.specs.Backends.{no_objects, object_name, owns_snapshot, blob_stays, ingest_object_stays, snapshot_object_stays, is_ancestor_of_one, goes_before}
use Rattle.gc_graph.proofs.RootPlaces.{held_names}
use Rattle.table_sweep.specs.Depths.{Listed, snap_of, key_of, is_first, key_name}
use Rattle.table_sweep.specs.Owned.{owns_blob, is_begun_removed, is_snap_removed}
use Rattle.table_sweep.proofs.Deep.{names_in_order}

or_nothing : (a b : Bool) → b ≡ false → (a || b) ≡ a
or_nothing true b e = refl
or_nothing false b e = e

none_any : {X : Type 0} (xs : List X) → list_any (λ x. false) xs ≡ false
none_any [] = refl
none_any (x ∷ xs) = none_any xs

any_numbered : (number : ℕ) (rows : List IngestRow) → list_any (λ other. other == number) (map (λ (row : IngestRow). row.number) rows) ≡ list_any (λ (row : IngestRow). row.number == number) rows
any_numbered number [] = refl
any_numbered number (row ∷ rows) = ap (λ b. row.number == number || b) (any_numbered number rows)

module _ (tables : Tables) where
  pub blobs_are : (rows : List ContentRow) → rows ≡ tables.content → (blobs : List Text)
      → filter (λ digest. not (owns_blob rows digest)) blobs ≡ filter (λ digest. not (blob_stays tables no_objects digest)) blobs
  blobs_are rows is blobs =
      filter_agree (λ digest. not (owns_blob rows digest)) (λ digest. not (blob_stays tables no_objects digest))
      (λ digest. ap not (ap (λ (l : List ContentRow). owns_blob l digest) is ∙ sym (or_nothing (owns_blob tables.content digest) false refl))) blobs

  module _ (owned : List ℕ) (all : IsPermutation (map (λ (row : IngestRow). row.number) tables.ingests) owned) where
    begun_goes_is : (number : ℕ) → is_begun_removed owned number
        ≡ not (ingest_object_stays tables no_objects number)
    begun_goes_is number =
        ap not (sym (list_any-IsPermutation (λ other. other == number) (map (λ (row : IngestRow). row.number) tables.ingests) owned all)
        ∙ any_numbered number tables.ingests ∙ sym (or_nothing (list_any (λ (row : IngestRow). row.number == number) tables.ingests) false refl))

    pub ingests_are : (numbers : List ℕ) → flat_map (λ number. if is_begun_removed owned number then
        number ∷ [] else []) numbers ≡ filter (λ number. not
        (ingest_object_stays tables no_objects number)) numbers
    ingests_are numbers =
        held_names (is_begun_removed owned) (λ number. number) numbers
        ∙ map-id (filter (is_begun_removed owned) numbers)
        ∙ filter_agree (is_begun_removed owned) (λ number. not
        (ingest_object_stays tables no_objects number)) begun_goes_is numbers

  module _ (owners : List SnapRow) (all : IsPermutation tables.snapshots owners) where
    snap_stays_is : (snapshots : List BackSnap) (snap : BackSnap) → snapshot_object_stays tables snapshots no_objects snap ≡ owns_snapshot tables snap
    snap_stays_is snapshots snap = or_nothing (owns_snapshot tables snap || false) (is_ancestor_of_one snapshots [] snap) (none_any snapshots) ∙ or_nothing (owns_snapshot tables snap) false refl

    snap_goes_is : (snapshots : List Listed) (s : Listed) → is_snap_removed owners s
        ≡ not (snapshot_object_stays tables (map snap_of snapshots) no_objects (snap_of s))
    snap_goes_is snapshots s =
        ap not (sym (list_any-IsPermutation (λ (row : SnapRow). bytes_eq row.key.snapshotter s.0 && row.number == s.1) tables.snapshots owners all)
        ∙ sym (snap_stays_is (map snap_of snapshots) (snap_of s)))

    pub snapshots_are : (snapshots : List Listed) → map key_name (in_order is_first (flat_map
        (λ s. if is_snap_removed owners s then key_of snapshots s ∷ [] else []) snapshots))
        ≡ map object_name (in_order (goes_before (map snap_of snapshots)) (filter (λ snap. not (snapshot_object_stays tables (map snap_of snapshots) no_objects snap)) (map snap_of snapshots)))
    snapshots_are snapshots =
        let goes : BackSnap → Bool = λ snap. not (snapshot_object_stays tables (map snap_of snapshots) no_objects snap) in
        ap (λ keys. map key_name (in_order is_first keys)) (held_names (is_snap_removed owners)
        (key_of snapshots) snapshots ∙ ap (map (key_of snapshots)) (filter_agree
        (is_snap_removed owners) (λ s. goes (snap_of s)) (snap_goes_is snapshots) snapshots))
        ∙ names_in_order snapshots goes
