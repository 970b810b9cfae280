-- A second collection changes nothing: the paths of the collected store are those of the store.
use Rattle.std.proofs.Common.{◌≡◌, Bool, true, false, List, [], ◌∷◌, map, refl, sym, ap, ◌∙◌, subst, ℤ}
use Rattle.std.specs.Prelude.{Contains, filter, Option, Some, None, bytes_eq}
use Rattle.std.specs.Option.{option_map_or}
use Rattle.std.proofs.lemmas.Bool.{or_left, or_right, or_from, and_right, both_ways}
use Rattle.meta_types.specs.Text.{Text}
use Rattle.meta_types.specs.Labels.{LabelList}
use Rattle.meta_types.specs.Rows.{Records}
use Rattle.meta_types.specs.Paths.{Thing, image, container, lease, ingest, content, snapshot, things, namespace_of, is_content, is_snapshot, is_ingest, is_resource, is_label_ref, is_parent, references, has_edge, image_stays, lease_stays, lease_mode, IsPath, TellsReached}
use Rattle.meta_types.specs.Collected.{content_stays, snapshot_stays, ingest_stays, collected_records}
use Rattle.meta_types.specs.Reports.{removed_of}
use Rattle.meta_types.specs.Promises.{no_rows}
use Rattle.meta_types.specs.declared.rows.ContainerRow.{ContainerRow}
use Rattle.meta_types.specs.declared.rows.SnapRow.{SnapRow}
use Rattle.meta_types.specs.declared.resource.Resource.{Resource}
use Rattle.meta_types.specs.declared.resource.Resource.TheVariants.{Content, Snapshot, Ingest}
use Rattle.meta_types.specs.declared.resource.Mode.{Mode}
use Rattle.meta_types.specs.declared.resource.Mode.TheVariants.{Full, Flat}
use Rattle.meta_types.proofs.Members.{in_filter, from_filter}
use Rattle.meta_types.proofs.Filtered.{Leaves, joined, none_passes, filter_again, none_goes, filter_mapped, all_stay}

-- ---- which things remain

-- the thing remains in a collection
abbrev pub remains : Records → ℤ → (Thing → Bool) → Thing → Bool
remains records at reached (image row) = image_stays records.profile at row
remains records at reached (container row) = true
remains records at reached (lease row) = lease_stays at row
remains records at reached (ingest row) = ingest_stays reached row
remains records at reached (content mode row) = content_stays reached row
remains records at reached (snapshot mode row) = snapshot_stays reached row

-- what is no content, no snapshot and no ingest is referenced by nothing
module _ (thing : Thing) (no_content : (digest : Text) (mode : Mode) → is_content digest mode thing ≡ false)
    (no_snapshot : (snapshotter name : Text) (mode : Mode) → is_snapshot snapshotter name mode thing ≡ false)
    (no_ingest : (name : Text) → is_ingest name thing ≡ false) (no_label : (labels : LabelList) → is_label_ref labels thing ≡ false) where
  -- whatever a row may name, the thing isn't that
  no_option : {X : Type 0} (f : X → Bool) → ((x : X) → f x ≡ false) → (o : Option X) → option_map_or f o false ≡ false
  no_option f none None = refl
  no_option f none (Some x) = none x

  no_resource : (mode : Mode) (resource : Resource) → is_resource resource mode thing ≡ false
  no_resource mode (Content digest) = no_content digest mode
  no_resource mode (Snapshot snapshotter name) = no_snapshot snapshotter name mode
  no_resource mode (Ingest name) = no_ingest name

  no_parent : (row : SnapRow) (mode : Mode) → is_parent row mode thing ≡ false
  no_parent row mode = no_option (λ name. is_snapshot row.key.snapshotter name mode thing) (λ name. no_snapshot row.key.snapshotter name mode) row.parent

  -- by cases on what references
  unreferenced : (before : Thing) → references before thing ≡ false
  unreferenced (image row) = or_from (is_content row.target Full thing) (is_label_ref row.labels thing) (no_content row.target Full) (no_label row.labels)
  unreferenced (container row) = or_from (option_map_or (λ key. is_snapshot key.0 key.1 Full thing) row.snapshot false) (is_label_ref row.labels thing)
      (no_option (λ key. is_snapshot key.0 key.1 Full thing) (λ key. no_snapshot key.0 key.1 Full) row.snapshot) (no_label row.labels)
  unreferenced (lease row) = none_passes (λ resource. is_resource resource (lease_mode row) thing) (no_resource (lease_mode row)) row.resources
  unreferenced (ingest row) = no_option (λ digest. is_content digest Full thing) (λ digest. no_content digest Full) row.expected
  unreferenced (content Full row) = no_label row.labels
  unreferenced (content Flat row) = refl
  unreferenced (snapshot Full row) = or_from (is_parent row Full thing) (is_label_ref row.labels thing) (no_parent row Full) (no_label row.labels)
  unreferenced (snapshot Flat row) = no_parent row Flat

  -- so no path goes on to it
  pub no_edge : {G : Type 0} (before : Thing) → has_edge before thing ≡ true → G
  no_edge before h = absurd (both_ways (has_edge before thing) (and_right (bytes_eq (namespace_of before) (namespace_of thing)) (references before thing) (unreferenced before)) h)

module _ (records : Records) (at : ℤ) (reached : Thing → Bool) where
  abbrev left : Records
  left = collected_records at reached records

  abbrev test : Thing → Bool
  test = remains records at reached

  -- rows of a kind: those that stay; containers all do
  mapped : {Row : Type 0} (f : Row → Thing) (rows : List Row) → Leaves test (map f rows) (map f (filter (λ row. test (f row)) rows))
  mapped f rows = record { is = filter_mapped test f rows }

  all_containers : (rows : List ContainerRow) → Leaves test (map container rows) (map container rows)
  all_containers rows = record { is = filter_mapped test container rows ∙ ap (map container) (all_stay rows) }

  -- the things of the collected store are those that remain
  left_things : Leaves test (things records) (things left)
  left_things =
      let t = records.tables in
      joined (joined (joined (joined (joined (mapped image t.images) (all_containers t.containers)) (mapped lease records.leases)) (mapped ingest t.ingests))
      (joined (mapped (content Full) t.content) (mapped (content Flat) t.content))) (joined (mapped (snapshot Full) t.snapshots) (mapped (snapshot Flat) t.snapshots))

  -- a thing that is left was there, and one that was there and remains is left
  pub was_there : (thing : Thing) → Contains (things left) thing → Contains (things records) thing
  was_there thing c = (from_filter test (things records) thing (subst (λ (l : List Thing). Contains l thing) (sym left_things.is) c)).0

  pub still_there : (thing : Thing) → Contains (things records) thing → test thing ≡ true → Contains (things left) thing
  still_there thing c h = subst (λ (l : List Thing). Contains l thing) left_things.is (in_filter test (things records) thing c h)

  -- a path ends in a thing of the store
  in_things : (last : Thing) (path : List Thing) → IsPath records at last path → Contains (things records) last
  in_things last [] p = p.0
  in_things last (before ∷ path) p = p.0

  module _ (tells : TellsReached records at reached) where
    -- what a path ends in remains
    pub stays : (thing : Thing) (path : List Thing) → IsPath records at thing path → test thing ≡ true
    stays (image row) [] p = p.1
    stays (image row) (before ∷ path) p = no_edge (image row) (λ digest mode. refl) (λ snapshotter name mode. refl) (λ name. refl) (λ labels. refl) before p.1
    stays (container row) path p = refl
    stays (lease row) [] p = p.1
    stays (lease row) (before ∷ path) p = no_edge (lease row) (λ digest mode. refl) (λ snapshotter name mode. refl) (λ name. refl) (λ labels. refl) before p.1
    stays (ingest row) path p = (tells.each (ingest row) (in_things (ingest row) path p)).1 (path, p)
    stays (content Full row) path p = or_left (reached (content Full row)) (reached (content Flat row)) ((tells.each (content Full row) (in_things (content Full row) path p)).1 (path, p))
    stays (content Flat row) path p = or_right (reached (content Full row)) (reached (content Flat row)) ((tells.each (content Flat row) (in_things (content Flat row) path p)).1 (path, p))
    stays (snapshot Full row) path p = or_left (reached (snapshot Full row)) (reached (snapshot Flat row)) ((tells.each (snapshot Full row) (in_things (snapshot Full row) path p)).1 (path, p))
    stays (snapshot Flat row) path p = or_right (reached (snapshot Full row)) (reached (snapshot Flat row)) ((tells.each (snapshot Flat row) (in_things (snapshot Flat row) path p)).1 (path, p))

    -- each path is one of the collected store
    path_left : (thing : Thing) (path : List Thing) → IsPath records at thing path → IsPath left at thing path
    path_left thing [] p = (still_there thing p.0 (stays thing [] p), p.1)
    path_left thing (before ∷ path) p = (still_there thing p.0 (stays thing (before ∷ path) p), p.1, path_left before path p.2)

  -- and each of that was one
  path_was : (thing : Thing) (path : List Thing) → IsPath left at thing path → IsPath records at thing path
  path_was thing [] p = (was_there thing p.0, p.1)
  path_was thing (before ∷ path) p = (was_there thing p.0, p.1, path_was before path p.2)

  -- so the test tells where the paths of the collected store end, too
  pub tells_left : TellsReached records at reached → TellsReached left at reached
  tells_left tells = record {
    each = λ thing c. (
      (λ h. let r = (tells.each thing (was_there thing c)).0 h in (r.0, path_left tells thing r.0 r.1)),
      (λ r. (tells.each thing (was_there thing c)).1 (r.0, path_was thing r.0 r.1)),
    );
  }

  -- what remains remains again
  pub again : collected_records at reached left ≡ left
  again = λ i. record left {
    tables = record left.tables {
      images = filter_again (image_stays records.profile at) records.tables.images i;
      content = filter_again (content_stays reached) records.tables.content i;
      ingests = filter_again (ingest_stays reached) records.tables.ingests i;
      snapshots = filter_again (snapshot_stays reached) records.tables.snapshots i;
    };
    leases = filter_again (lease_stays at) records.leases i;
  }

  -- so none of them goes
  pub no_row_is_gone : removed_of at reached left ≡ no_rows
  no_row_is_gone = λ i. record {
    content = map (λ row. (row.ns, row.digest)) (none_goes (content_stays reached) records.tables.content i);
    images = map (λ row. (row.ns, row.name)) (none_goes (image_stays records.profile at) records.tables.images i);
    ingests = map (λ row. (row.ns, row.name)) (none_goes (ingest_stays reached) records.tables.ingests i);
    leases = map (λ row. (row.ns, row.id)) (none_goes (lease_stays at) records.leases i);
    snapshots = map (λ row. (row.key.ns, row.key.snapshotter, row.key.name)) (none_goes (snapshot_stays reached) records.tables.snapshots i);
  }
