-- The tables and leases that a collection leaves are sound: a snapshot that stays keeps its parent.
use Rattle.std.proofs.Common.{◌≡◌, ◌<◌, Bool, true, false, not, List, [], ◌∷◌, refl, sym, ap, ◌∙◌, subst, ℤ, inl, inr}
use Rattle.std.specs.Prelude.{All, Contains, filter, Option, Some, None, IfSome, IsTrue, bytes_eq, ◌&&◌, ◌||◌, ◌==◌}
use Rattle.std.specs.List.{list_any}
use Rattle.std.specs.Option.{option_map_or}
use Rattle.std.proofs.lemmas.Bool.{and_parts, and_from, or_cases, or_left, or_right}
use Rattle.std.proofs.lemmas.List.Elements.{All-filter, All-contains}
use Rattle.std.proofs.lemmas.List.Kept.{AllPairs-filter}
use Rattle.std.proofs.lemmas.Slice.Eq.{bytes_eq-Decides}
use Rattle.meta_types.specs.Text.{Text}
use Rattle.meta_types.specs.Keys.{Key, is_key, row_at}
use Rattle.meta_types.specs.Rows.{Records, image_key, content_key, ingest_key, snap_key}
use Rattle.meta_types.specs.Paths.{Thing, snapshot, has_edge, is_parent, is_snapshot, is_label_ref, image_stays, TellsReached}
use Rattle.meta_types.specs.Collected.{content_stays, snapshot_stays, ingest_stays, collected_records}
use Rattle.meta_types.specs.Ops.Snapshots.{is_committed, parent_row}
use Rattle.meta_types.specs.Sound.{AreRows, parent_of, HasParent, AreNumbered, AreTables}
use Rattle.meta_types.specs.declared.rows.ImageRow.{ImageRow}
use Rattle.meta_types.specs.declared.rows.ContentRow.{ContentRow}
use Rattle.meta_types.specs.declared.rows.IngestRow.{IngestRow}
use Rattle.meta_types.specs.declared.rows.SnapRow.{SnapRow}
use Rattle.meta_types.specs.declared.resource.Mode.{Mode}
use Rattle.meta_types.specs.declared.resource.Mode.TheVariants.{Full, Flat}
use Rattle.meta_types.proofs.Once.{full_snap_in, flat_snap_in}
use Rattle.meta_types.proofs.Filtered.{in_order_filtered}
use Rattle.meta_types.proofs.ListSearches.{no_none, found_is, found_again, row_is_found, all_left}

-- rows that a test keeps are sound
pub rows_filtered : {Row : Type 0} (key_of : Row → Key) (ns_of : Row → Text) (p : Row → Bool) (namespaces : List Text) (rows : List Row) → AreRows key_of ns_of namespaces rows → AreRows key_of ns_of namespaces (filter p rows)
rows_filtered key_of ns_of p namespaces rows s = record {
  in_order = in_order_filtered key_of p rows s.in_order;
  named = All-filter p (λ row. IsTrue (list_any (bytes_eq (ns_of row)) namespaces)) rows s.named;
}

-- ---- parents

-- the parent's row is of the namespace and snapshotter of the row, and has the name
pub record IsAbove (rows : List SnapRow) (row : SnapRow) (name : Text) (above : SnapRow) : Type 0 where
  pub there : Contains rows above
  pub ns : row.key.ns ≡ above.key.ns
  pub snapshotter : row.key.snapshotter ≡ above.key.snapshotter
  pub named : name ≡ above.key.name

abbrev parent_key : SnapRow → Text → Key
parent_key row name = row.key.ns ∷ row.key.snapshotter ∷ name ∷ []

-- the row of a key has its texts
pub above_is : (rows : List SnapRow) (row : SnapRow) (name : Text) (above : SnapRow) → row_at snap_key (parent_key row name) rows ≡ Some above → IsAbove rows row name above
above_is rows row name above e =
    let found = found_is (λ other. is_key (parent_key row name) (snap_key other)) rows above (sym (row_is_found snap_key (parent_key row name) rows) ∙ e) in
    let ns = and_parts (bytes_eq row.key.ns above.key.ns) (bytes_eq row.key.snapshotter above.key.snapshotter && (bytes_eq name above.key.name && true)) found.1 in
    let snapshotter = and_parts (bytes_eq row.key.snapshotter above.key.snapshotter) (bytes_eq name above.key.name && true) ns.1 in
    record {
      there = found.0;
      ns = (bytes_eq-Decides row.key.ns above.key.ns).0 ns.0;
      snapshotter = (bytes_eq-Decides row.key.snapshotter above.key.snapshotter).0 snapshotter.0;
      named = (bytes_eq-Decides name above.key.name).0 (and_parts (bytes_eq name above.key.name) true snapshotter.1).0;
    }

module _ (row : SnapRow) (name : Text) (e : row.parent ≡ Some name) (rows : List SnapRow) (above : SnapRow) (is : IsAbove rows row name above) where
  -- the parent has the snapshotter and the name that the row gives, so it
  -- is the parent in either mode
  match_up : (bytes_eq above.key.snapshotter row.key.snapshotter && bytes_eq above.key.name name) ≡ true
  match_up = and_from (bytes_eq above.key.snapshotter row.key.snapshotter) (bytes_eq above.key.name name)
      ((bytes_eq-Decides above.key.snapshotter row.key.snapshotter).1 (sym is.snapshotter)) ((bytes_eq-Decides above.key.name name).1 (sym is.named))

  parent_up : (mode : Mode) → is_parent row mode (snapshot mode above) ≡ true
  parent_up Full = ap (λ (o : Option Text). option_map_or (λ (n : Text). is_snapshot row.key.snapshotter n Full (snapshot Full above)) o false) e ∙ match_up
  parent_up Flat = ap (λ (o : Option Text). option_map_or (λ (n : Text). is_snapshot row.key.snapshotter n Flat (snapshot Flat above)) o false) e ∙ match_up

  -- and is of the namespace
  same_ns : bytes_eq row.key.ns above.key.ns ≡ true
  same_ns = (bytes_eq-Decides row.key.ns above.key.ns).1 is.ns

  -- the row references its parent, in either mode
  pub edge_up : (mode : Mode) → has_edge (snapshot mode row) (snapshot mode above) ≡ true
  edge_up Full = and_from (bytes_eq row.key.ns above.key.ns) (is_parent row Full (snapshot Full above) || is_label_ref row.labels (snapshot Full above)) same_ns
      (or_left (is_parent row Full (snapshot Full above)) (is_label_ref row.labels (snapshot Full above)) (parent_up Full))
  edge_up Flat = and_from (bytes_eq row.key.ns above.key.ns) (is_parent row Flat (snapshot Flat above)) same_ns (parent_up Flat)

module _ (records : Records) (at : ℤ) (reached : Thing → Bool) (tells : TellsReached records at reached) where
  abbrev rows : List SnapRow
  rows = records.tables.snapshots

  abbrev left : List SnapRow
  left = filter (snapshot_stays reached) rows

  -- the parent of a row that stays does
  parent_stays : (row : SnapRow) (name : Text) → row.parent ≡ Some name → (above : SnapRow) → IsAbove rows row name above → Contains rows row → snapshot_stays reached row ≡ true → snapshot_stays reached above ≡ true
  parent_stays row name e above is c h = elim (or_cases (reached (snapshot Full row)) (reached (snapshot Flat row)) h) [
    | inl full ↦ (
        let r = (tells.each (snapshot Full row) (full_snap_in records row c)).0 full in
        let there = full_snap_in records above is.there in
        or_left (reached (snapshot Full above)) (reached (snapshot Flat above)) ((tells.each (snapshot Full above) there).1 (snapshot Full row ∷ r.0, (there, edge_up row name e rows above is Full, r.1))))
    | inr flat ↦ (
        let r = (tells.each (snapshot Flat row) (flat_snap_in records row c)).0 flat in
        let there = flat_snap_in records above is.there in
        or_right (reached (snapshot Full above)) (reached (snapshot Flat above)) ((tells.each (snapshot Flat above) there).1 (snapshot Flat row ∷ r.0, (there, edge_up row name e rows above is Flat, r.1))))
  ]

  -- so it is the parent among those left
  pub same_parent : (row : SnapRow) → Contains rows row → snapshot_stays reached row ≡ true → HasParent rows row → parent_of left row ≡ parent_of rows row
  same_parent row c h has = go row.parent refl has
    where
      go : (o : Option Text) → row.parent ≡ o → IfSome o (λ name. (above : SnapRow) × (parent_of rows row ≡ Some above) × IsTrue (is_committed above.kind) × (above.number < row.number))
          → parent_row left row.key.ns row.key.snapshotter o ≡ parent_row rows row.key.ns row.key.snapshotter o
      go None e has = refl
      go (Some name) e has =
          let there : row_at snap_key (parent_key row name) rows ≡ Some has.0 = sym (ap (parent_row rows row.key.ns row.key.snapshotter) e) ∙ has.1 in
          let is = above_is rows row name has.0 there in
          let stays = parent_stays row name e has.0 is c h in
          let test : SnapRow → Bool = λ other. is_key (parent_key row name) (snap_key other) in
          row_is_found snap_key (parent_key row name) left
          ∙ found_again test (snapshot_stays reached) rows has.0 (sym (row_is_found snap_key (parent_key row name) rows) ∙ there) stays
          ∙ sym there

  -- and stands among them
  pub parent_left : (row : SnapRow) (above : SnapRow) → parent_of left row ≡ Some above → Contains left above × (row.key.snapshotter ≡ above.key.snapshotter)
  parent_left row above = go row.parent
    where
      go : (o : Option Text) → parent_row left row.key.ns row.key.snapshotter o ≡ Some above → Contains left above × (row.key.snapshotter ≡ above.key.snapshotter)
      go None e = no_none above e
      go (Some name) e = (let is = above_is left row name above e in (is.there, is.snapshotter))

  -- so the row has its parent among those left
  has_parent : (row : SnapRow) → Contains rows row → snapshot_stays reached row ≡ true → HasParent rows row → HasParent left row
  has_parent row c h has = subst (λ (o : Option SnapRow). IfSome row.parent (λ name. (above : SnapRow) × (o ≡ Some above) × IsTrue (is_committed above.kind) × (above.number < row.number))) (sym (same_parent row c h has)) has

  -- numbers of some of the rows are apart as those of all
  numbered_left : AreNumbered rows records.tables.ingests → AreNumbered left (filter (ingest_stays reached) records.tables.ingests)
  numbered_left s = record {
    parents = all_left (HasParent left) (snapshot_stays reached) rows (λ row c h. has_parent row c h (All-contains (HasParent rows) rows row s.parents c));
    snapshots_apart = AllPairs-filter (λ (a : SnapRow) (b : SnapRow). IsTrue (not (a.number == b.number))) (snapshot_stays reached) rows s.snapshots_apart;
    ingests_apart = AllPairs-filter (λ (a : IngestRow) (b : IngestRow). IsTrue (not (a.number == b.number))) (ingest_stays reached) records.tables.ingests s.ingests_apart;
    apart = all_left (λ (snap : SnapRow). All (λ (begun : IngestRow). IsTrue (not (snap.number == begun.number))) (filter (ingest_stays reached) records.tables.ingests)) (snapshot_stays reached) rows
        (λ row c h. All-filter (ingest_stays reached) (λ (begun : IngestRow). IsTrue (not (row.number == begun.number))) records.tables.ingests
        (All-contains (λ (snap : SnapRow). All (λ (begun : IngestRow). IsTrue (not (snap.number == begun.number))) records.tables.ingests) rows row s.apart c));
  }

  -- each table left is a filter of a sound one
  pub tables_left : AreTables records.tables → AreTables (collected_records at reached records).tables
  tables_left s = record {
    namespaces = s.namespaces;
    images = rows_filtered image_key (λ (row : ImageRow). row.ns) (image_stays records.profile at) records.tables.namespaces records.tables.images s.images;
    containers = s.containers;
    content = rows_filtered content_key (λ (row : ContentRow). row.ns) (content_stays reached) records.tables.namespaces records.tables.content s.content;
    ingests = rows_filtered ingest_key (λ (row : IngestRow). row.ns) (ingest_stays reached) records.tables.namespaces records.tables.ingests s.ingests;
    snapshots = rows_filtered snap_key (λ (row : SnapRow). row.key.ns) (snapshot_stays reached) records.tables.namespaces rows s.snapshots;
    numbered = numbered_left s.numbered;
  }
