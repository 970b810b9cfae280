-- A collection has one outcome: two reports of it, and two states that it leaves, are equal.
use Rattle.std.proofs.Common.{◌≡◌, Bool, true, false, cond, not, List, [], ◌∷◌, ◌++◌, map, length, refl, sym, ◌∙◌, ℤ}
use Rattle.std.specs.Prelude.{Contains, filter, ◌||◌, ◌&&◌}
use Rattle.std.proofs.lemmas.List.Elements.{Contains-append_left, Contains-append_right}
use Rattle.meta_types.specs.Rows.{Records, State, Tables}
use Rattle.meta_types.specs.Paths.{Thing, image, container, lease, ingest, content, snapshot, things, in_both_modes, TellsReached}
use Rattle.meta_types.specs.Backends.{BackNames, no_objects, collected_backends, removed_objects}
use Rattle.meta_types.specs.Collected.{collected_tables, collected_records, content_stays, snapshot_stays, ingest_stays}
use Rattle.meta_types.specs.Reports.{Report, Collects, Plans, removed_of, kept_of, report_of, is_scanned}
use Rattle.meta_types.specs.declared.rows.ContentRow.{ContentRow}
use Rattle.meta_types.specs.declared.rows.IngestRow.{IngestRow}
use Rattle.meta_types.specs.declared.rows.SnapRow.{SnapRow}
use Rattle.meta_types.specs.declared.resource.Mode.TheVariants.{Full, Flat}
use Rattle.meta_types.proofs.Members.{here, later}
use Rattle.meta_types.proofs.Exists.{tests_agree}
use Rattle.meta_types.proofs.FilteredNames.{in_map}

module _ {X : Type 0} where
  -- tests that agree on the items keep the same
  same_kept : (p q : X → Bool) (xs : List X) → ((x : X) → Contains xs x → p x ≡ q x) → filter p xs ≡ filter q xs
  same_kept p q [] h = refl
  same_kept p q (x ∷ xs) h = λ i. cond (h x (here x xs) i) (x ∷ same_kept p q xs (λ y c. h y (later x xs y c)) i) (same_kept p q xs (λ y c. h y (later x xs y c)) i)

module _ (records : Records) where
  abbrev tables : Tables
  tables = records.tables

  abbrev plain : List Thing
  plain = map image tables.images ++ map container tables.containers ++ map lease records.leases

  abbrev contents : List Thing
  contents = in_both_modes content tables.content

  abbrev snapshots : List Thing
  snapshots = in_both_modes snapshot tables.snapshots

  -- an ingest of the store is one of its things
  pub ingest_in : (row : IngestRow) → Contains tables.ingests row → Contains (things records) (ingest row)
  ingest_in row c = Contains-append_left (plain ++ map ingest tables.ingests ++ contents) snapshots (ingest row) (Contains-append_left (plain ++ map ingest tables.ingests) contents (ingest row)
      (Contains-append_right plain (map ingest tables.ingests) (ingest row) (in_map ingest tables.ingests row c)))

  -- content of the store, in the full mode, is one of its things
  pub full_in : (row : ContentRow) → Contains tables.content row → Contains (things records) (content Full row)
  full_in row c = Contains-append_left (plain ++ map ingest tables.ingests ++ contents) snapshots (content Full row) (Contains-append_right (plain ++ map ingest tables.ingests) contents (content Full row)
      (Contains-append_left (map (content Full) tables.content) (map (content Flat) tables.content) (content Full row) (in_map (content Full) tables.content row c)))

  -- content of the store, in the flat mode, is one of its things
  pub flat_in : (row : ContentRow) → Contains tables.content row → Contains (things records) (content Flat row)
  flat_in row c = Contains-append_left (plain ++ map ingest tables.ingests ++ contents) snapshots (content Flat row) (Contains-append_right (plain ++ map ingest tables.ingests) contents (content Flat row)
      (Contains-append_right (map (content Full) tables.content) (map (content Flat) tables.content) (content Flat row) (in_map (content Flat) tables.content row c)))

  -- a snapshot of the store, in the full mode, is one of its things
  pub full_snap_in : (row : SnapRow) → Contains tables.snapshots row → Contains (things records) (snapshot Full row)
  full_snap_in row c = Contains-append_right (plain ++ map ingest tables.ingests ++ contents) snapshots (snapshot Full row)
      (Contains-append_left (map (snapshot Full) tables.snapshots) (map (snapshot Flat) tables.snapshots) (snapshot Full row) (in_map (snapshot Full) tables.snapshots row c))

  -- a snapshot of the store, in the flat mode, is one of its things
  pub flat_snap_in : (row : SnapRow) → Contains tables.snapshots row → Contains (things records) (snapshot Flat row)
  flat_snap_in row c = Contains-append_right (plain ++ map ingest tables.ingests ++ contents) snapshots (snapshot Flat row)
      (Contains-append_right (map (snapshot Full) tables.snapshots) (map (snapshot Flat) tables.snapshots) (snapshot Flat row) (in_map (snapshot Flat) tables.snapshots row c))

  module _ (at : ℤ) (p q : Thing → Bool) (tp : TellsReached records at p) (tq : TellsReached records at q) where
    agree : (thing : Thing) → Contains (things records) thing → p thing ≡ q thing
    agree = tests_agree records at p q tp tq

    same_content : filter (content_stays p) tables.content ≡ filter (content_stays q) tables.content
    same_content = same_kept (content_stays p) (content_stays q) tables.content (λ row c i. agree (content Full row) (full_in row c) i || agree (content Flat row) (flat_in row c) i)

    same_snapshots : filter (snapshot_stays p) tables.snapshots ≡ filter (snapshot_stays q) tables.snapshots
    same_snapshots = same_kept (snapshot_stays p) (snapshot_stays q) tables.snapshots (λ row c i. agree (snapshot Full row) (full_snap_in row c) i || agree (snapshot Flat row) (flat_snap_in row c) i)

    same_ingests : filter (ingest_stays p) tables.ingests ≡ filter (ingest_stays q) tables.ingests
    same_ingests = same_kept (ingest_stays p) (ingest_stays q) tables.ingests (λ row c. agree (ingest row) (ingest_in row c))

    pub same_records : collected_records at p records ≡ collected_records at q records
    same_records = λ i. record (collected_records at p records) { tables = record (collected_tables p records.profile at tables) { content = same_content i; ingests = same_ingests i; snapshots = same_snapshots i } }

    pub same_scanned : filter (λ thing. is_scanned thing && p thing) (things records) ≡ filter (λ thing. is_scanned thing && q thing) (things records)
    same_scanned = same_kept (λ thing. is_scanned thing && p thing) (λ thing. is_scanned thing && q thing) (things records) (λ thing c i. is_scanned thing && agree thing c i)

    pub same_removed : removed_of at p records ≡ removed_of at q records
    same_removed = λ i. record (removed_of at p records) {
      content = map (λ row. (row.ns, row.digest)) (same_kept (λ row. not (content_stays p row)) (λ row. not (content_stays q row)) tables.content (λ row c j. not (agree (content Full row) (full_in row c) j || agree (content Flat row) (flat_in row c) j)) i);
      ingests = map (λ row. (row.ns, row.name)) (same_kept (λ row. not (ingest_stays p row)) (λ row. not (ingest_stays q row)) tables.ingests (λ row c j. not (agree (ingest row) (ingest_in row c) j)) i);
      snapshots = map (λ row. (row.key.ns, row.key.snapshotter, row.key.name)) (same_kept (λ row. not (snapshot_stays p row)) (λ row. not (snapshot_stays q row)) tables.snapshots (λ row c j. not (agree (snapshot Full row) (full_snap_in row c) j || agree (snapshot Flat row) (flat_snap_in row c) j)) i);
    }

-- two collections of a store at one moment, with the same failures, leave one store
pub one_state : (state : State) (at : ℤ) (failed : BackNames) (r s : Report) (m n : State) → Collects state at failed r m → Collects state at failed s n → m ≡ n
one_state state at failed r s m n c d =
    let same = same_records state.records at c.reached d.reached c.tells d.tells in
    c.state_is ∙ (λ i. record { records = same i; backends = collected_backends (same i).tables failed state.backends }) ∙ sym d.state_is

-- two collections of a store at one moment, with the same failures, give one report
pub one_report : (state : State) (at : ℤ) (failed : BackNames) (r s : Report) (m n : State) → Collects state at failed r m → Collects state at failed s n → r ≡ s
one_report state at failed r s m n c d =
    let same = same_records state.records at c.reached d.reached c.tells d.tells in
    c.report_is ∙ (λ i. record (report_of state at c.reached failed false) {
      backend = removed_objects (same i).tables failed state.backends;
      kept = kept_of (same i);
      removed = same_removed state.records at c.reached d.reached c.tells d.tells i;
      scanned = length (same_scanned state.records at c.reached d.reached c.tells d.tells i);
    }) ∙ sym d.report_is

-- two reports of a dry run at one moment are equal
pub one_plan : (state : State) (at : ℤ) (r s : Report) → Plans state at r → Plans state at s → r ≡ s
one_plan state at r s c d =
    let same = same_records state.records at c.reached d.reached c.tells d.tells in
    c.report_is ∙ (λ i. record (report_of state at c.reached no_objects true) {
      backend = removed_objects (same i).tables no_objects state.backends;
      kept = kept_of (same i);
      removed = same_removed state.records at c.reached d.reached c.tells d.tells i;
      scanned = length (same_scanned state.records at c.reached d.reached c.tells d.tells i);
    }) ∙ sym d.report_is
