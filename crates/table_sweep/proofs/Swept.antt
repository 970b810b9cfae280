-- Tables after the passes over them are those that a collection leaves.
use Rattle.std.proofs.Common.{◌≡◌, Bool, List, filter, ap, sym, ◌∙◌}
use Rattle.meta_types.specs.Rows.{Tables, LeaseRow, snap_key, ingest_key}
use Rattle.meta_types.specs.Sound.{AreNumbered}
use Rattle.meta_types.specs.Paths.{image_stays, lease_stays}
use Rattle.meta_types.specs.Collected.{content_stays, snapshot_stays, ingest_stays, collected_tables}
use Rattle.row_tables.specs.Arrived.{sorted}
use Rattle.object_tables.specs.Calls.{kept}
use Rattle.lease_book.specs.Calls.{kept as kept_leases}
use Rattle.table_sweep.specs.Stays.{AreMasks, Collection, StayNumbered}
use Rattle.table_sweep.specs.declared.masks.Masks.{Masks}
use Rattle.table_sweep.proofs.MasksFilter.{kept_is, kept_leases_is}
use Rattle.table_sweep.proofs.Fitting.{numbered_as}

abbrev with_images : Tables → List Bool → Tables
with_images t mask = record t { images = kept mask t.images }

abbrev with_content : Tables → List Bool → Tables
with_content t mask = record t { content = kept mask t.content }

abbrev with_ingests : Tables → List Bool → Tables
with_ingests t mask = record t { ingests = kept mask t.ingests }

abbrev with_snapshots : Tables → List Bool → Tables
with_snapshots t mask = record t { snapshots = kept mask t.snapshots }

module _ (of : Collection) (masks : Masks) (are : AreMasks of.records of.at of.reached masks) where
  pub tables_swept : (old images content ingests snapshots : Tables) → old ≡ of.records.tables
      → (by_images by_content by_ingests by_snapshots : List Bool)
      → by_images ≡ masks.images.items → by_content ≡ masks.content.items → by_ingests ≡ masks.ingests.items → by_snapshots ≡ masks.snapshots.items
      → images ≡ with_images old by_images → content ≡ with_content images by_content → ingests ≡ with_ingests content by_ingests → snapshots ≡ with_snapshots ingests by_snapshots
      → snapshots ≡ collected_tables of.reached of.records.profile of.at of.records.tables
  tables_swept old images content ingests snapshots from bi bc bg bs mi mc mg ms i c g s =
      let t0 : Tables = of.records.tables in
      let t1 : Tables = record t0 { images = filter (image_stays of.records.profile of.at) t0.images } in
      let t2 : Tables = record t1 { content = filter (content_stays of.reached) t1.content } in
      let t3 : Tables = record t2 { ingests = filter (ingest_stays of.reached) t2.ingests } in
      let e1 : images ≡ t1 = i ∙ (λ j. with_images (from j) ((mi ∙ are.images) j)) ∙ ap (λ l. record t0 { images = l }) (kept_is (image_stays of.records.profile of.at) t0.images) in
      let e2 : content ≡ t2 = c ∙ (λ j. with_content (e1 j) ((mc ∙ are.content) j)) ∙ ap (λ l. record t1 { content = l }) (kept_is (content_stays of.reached) t1.content) in
      let e3 : ingests ≡ t3 = g ∙ (λ j. with_ingests (e2 j) ((mg ∙ are.ingests) j)) ∙ ap (λ l. record t2 { ingests = l }) (kept_is (ingest_stays of.reached) t2.ingests) in
      s ∙ (λ j. with_snapshots (e3 j) ((ms ∙ are.snapshots) j)) ∙ ap (λ l. record t3 { snapshots = l }) (kept_is (snapshot_stays of.reached) t3.snapshots)

  pub leases_swept : (old new : List LeaseRow) → old ≡ of.records.leases → (mask : List Bool) → mask ≡ masks.leases.items → new ≡ kept_leases mask old → new ≡ filter (lease_stays of.at) of.records.leases
  leases_swept old new from mask m e = e ∙ (λ j. kept_leases ((m ∙ are.leases) j) (from j)) ∙ kept_leases_is (lease_stays of.at) of.records.leases

-- ingests having been swept, snapshots may be
pub may_sweep : (masks : Masks) (old images content ingests : Tables) (by_images by_content by_ingests by_snapshots : List Bool)
    → by_ingests ≡ masks.ingests.items → by_snapshots ≡ masks.snapshots.items
    → images ≡ with_images old by_images → content ≡ with_content images by_content → ingests ≡ with_ingests content by_ingests
    → StayNumbered old masks → AreNumbered (sorted snap_key (kept by_snapshots ingests.snapshots)) (sorted ingest_key ingests.ingests)
may_sweep masks old images content ingests by_images by_content by_ingests by_snapshots mg ms i c g stay =
    let begun_in : content.ingests ≡ old.ingests = ap (λ (t : Tables). t.ingests) c ∙ ap (λ (t : Tables). t.ingests) i in
    let snaps_in : ingests.snapshots ≡ old.snapshots = ap (λ (t : Tables). t.snapshots) g ∙ ap (λ (t : Tables). t.snapshots) c ∙ ap (λ (t : Tables). t.snapshots) i in
    let begun : ingests.ingests ≡ kept masks.ingests.items old.ingests = ap (λ (t : Tables). t.ingests) g ∙ (λ j. kept (mg j) (begun_in j)) in
    let snaps : kept by_snapshots ingests.snapshots ≡ kept masks.snapshots.items old.snapshots = (λ j. kept (ms j) (snaps_in j)) in
    numbered_as _ _ _ _ (ap (sorted snap_key) (sym snaps)) (ap (sorted ingest_key) (sym begun)) stay.numbered
