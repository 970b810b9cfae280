-- The tables with another list in place of one, and with other namespaces.
use Rattle.std.proofs.Common.{◌≡◌, ◌∙◌, Bool, true, false, List, [], ◌∷◌, refl, sym, subst, arith}
use Rattle.std.specs.Prelude.{All, Result, Ok, Err, OnOk, OnErr, IsTrue, bytes_eq}
use Rattle.std.specs.List.{list_any}
use Rattle.std.proofs.lemmas.Bool.{both_ways, or_parts, false_from_ne_true}
use Rattle.std.proofs.lemmas.Slice.Eq.{bytes_eq-Decides}
use Rattle.std.proofs.lemmas.List.Elements.{All-cons}
use Rattle.object_tables.specs.Calls.{AreInOrder, kept}
use Rattle.object_tables.proofs.Ordering.{order_kept}
use Rattle.object_tables.proofs.RowsKept.{all_kept}
use Rattle.object_tables.proofs.OrderStays.{names_row}
use Rattle.row_tables.proofs.Entries.{was_free}
use Rattle.meta_types.specs.Text.{Text}
use Rattle.meta_types.specs.Keys.{Key, has_row, add_row, remove_row, are_in_order, is_before}
use Rattle.meta_types.specs.Rows.{Tables, snap_key, ingest_key, image_key, container_key, content_key, namespace_key}
use Rattle.meta_types.specs.Changes.{has_namespace, is_in_use}
use Rattle.meta_types.specs.Sound.{AreRows, AreNumbered, AreTables}
use Rattle.meta_types.specs.Faults.{Refuses, least_of}
use Rattle.meta_types.specs.declared.fault.Fault.{Fault}
use Rattle.meta_types.specs.declared.rows.ImageRow.{ImageRow}
use Rattle.meta_types.specs.declared.rows.ContainerRow.{ContainerRow}
use Rattle.meta_types.specs.declared.rows.ContentRow.{ContentRow}
use Rattle.meta_types.specs.declared.rows.IngestRow.{IngestRow}
use Rattle.meta_types.specs.declared.rows.SnapRow.{SnapRow}
use Rattle.meta_types.proofs.KeepsSound.{rows_among, any_added, any_removed, no_text}
use Rattle.meta_types.proofs.Ordered.{in_order_added, in_order_removed}

-- the row's namespace is there afterwards too
abbrev StaysNamed : {Row : Type 0} → (Row → Text) → List Text → List Text → Row → Type 0
StaysNamed ns_of old new row =
    list_any (bytes_eq (ns_of row)) old ≡ true → list_any (bytes_eq (ns_of row)) new ≡ true

abbrev Remains : {Row : Type 0} → (Row → Text) → Text → List Text → Row → Type 0
Remains ns_of gone namespaces row =
    StaysNamed ns_of namespaces (remove_row namespace_key (gone ∷ []) namespaces) row

-- the rows of a namespace that is used by none of them
pub unused : {Row : Type 0} (ns_of : Row → Text) (gone : Text) (namespaces : List Text)
    (rows : List Row) → list_any (λ row. bytes_eq gone (ns_of row)) rows ≡ false
    → All (Remains ns_of gone namespaces) rows
unused ns_of gone namespaces [] h = λ k d lt. absurd (omega arith)
unused ns_of gone namespaces (row ∷ rows) h =
    let parts = or_parts (bytes_eq gone (ns_of row))
    (list_any (λ other. bytes_eq gone (ns_of other)) rows) h in
    All-cons (Remains ns_of gone namespaces) row rows
    (any_removed gone (ns_of row) namespaces (swapped gone (ns_of row) parts.0))
    (unused ns_of gone namespaces rows parts.1)
  where
    swapped : (a b : Text) → bytes_eq a b ≡ false → bytes_eq b a ≡ false
    swapped a b h = false_from_ne_true (bytes_eq b a)
        (λ t. both_ways (bytes_eq a b) h
        ((bytes_eq-Decides a b).1 (sym ((bytes_eq-Decides b a).0 t))))

-- rows whose mark is set
pub rows_kept : {Row : Type 0} (key_of : Row → Key) (ns_of : Row → Text) (namespaces : List Text)
    (marks : List Bool) (rows : List Row) → AreRows key_of ns_of namespaces rows
    → AreRows key_of ns_of namespaces (kept marks rows)
rows_kept key_of ns_of namespaces marks rows s = record {
  in_order = order_kept key_of marks rows s.in_order;
  named = all_kept (λ row. IsTrue (list_any (bytes_eq (ns_of row)) namespaces)) marks rows s.named;
}

module _ (tables : Tables) (s : AreTables tables) where
  -- ---- one list is another

  pub other_images : (rows : List ImageRow)
      → AreRows image_key (λ (row : ImageRow). row.ns) tables.namespaces rows
      → AreTables (record tables { images = rows })
  other_images rows new =
      record {
        namespaces = s.namespaces;
        images = new;
        containers = s.containers;
        content = s.content;
        ingests = s.ingests;
        snapshots = s.snapshots;
        numbered = s.numbered;
      }

  pub other_containers : (rows : List ContainerRow)
      → AreRows container_key (λ (row : ContainerRow). row.ns) tables.namespaces rows
      → AreTables (record tables { containers = rows })
  other_containers rows new =
      record {
        namespaces = s.namespaces;
        images = s.images;
        containers = new;
        content = s.content;
        ingests = s.ingests;
        snapshots = s.snapshots;
        numbered = s.numbered;
      }

  pub other_content : (rows : List ContentRow)
      → AreRows content_key (λ (row : ContentRow). row.ns) tables.namespaces rows
      → AreTables (record tables { content = rows })
  other_content rows new =
      record {
        namespaces = s.namespaces;
        images = s.images;
        containers = s.containers;
        content = new;
        ingests = s.ingests;
        snapshots = s.snapshots;
        numbered = s.numbered;
      }

  pub other_ingests : (rows : List IngestRow)
      → AreRows ingest_key (λ (row : IngestRow). row.ns) tables.namespaces rows
      → AreNumbered tables.snapshots rows → AreTables (record tables { ingests = rows })
  other_ingests rows new numbered =
      record {
        namespaces = s.namespaces;
        images = s.images;
        containers = s.containers;
        content = s.content;
        ingests = new;
        snapshots = s.snapshots;
        numbered = numbered;
      }

  pub other_snapshots : (rows : List SnapRow)
      → AreRows snap_key (λ (row : SnapRow). row.key.ns) tables.namespaces rows
      → AreNumbered rows tables.ingests → AreTables (record tables { snapshots = rows })
  other_snapshots rows new numbered =
      record {
        namespaces = s.namespaces;
        images = s.images;
        containers = s.containers;
        content = s.content;
        ingests = s.ingests;
        snapshots = new;
        numbered = numbered;
      }

  -- ---- namespaces

  pub other_namespaces : (new : List Text) → IsTrue (are_in_order namespace_key new)
      → All (StaysNamed (λ (row : ImageRow). row.ns) tables.namespaces new) tables.images
      → All (StaysNamed (λ (row : ContainerRow). row.ns) tables.namespaces new) tables.containers
      → All (StaysNamed (λ (row : ContentRow). row.ns) tables.namespaces new) tables.content
      → All (StaysNamed (λ (row : IngestRow). row.ns) tables.namespaces new) tables.ingests
      → All (StaysNamed (λ (row : SnapRow). row.key.ns) tables.namespaces new) tables.snapshots
      → AreTables (record tables { namespaces = new })
  other_namespaces new order images containers content ingests snapshots = record {
    namespaces = order;
    images = rows_among image_key (λ (row : ImageRow). row.ns) tables.namespaces new tables.images
        images s.images;
    containers = rows_among container_key (λ (row : ContainerRow). row.ns) tables.namespaces new
        tables.containers containers s.containers;
    content = rows_among content_key (λ (row : ContentRow). row.ns) tables.namespaces new
        tables.content content s.content;
    ingests = rows_among ingest_key (λ (row : IngestRow). row.ns) tables.namespaces new
        tables.ingests ingests s.ingests;
    snapshots = rows_among snap_key (λ (row : SnapRow). row.key.ns) tables.namespaces new
        tables.snapshots snapshots s.snapshots;
    numbered = s.numbered;
  }

  -- the tables stay sound if a namespace that isn't there is added
  pub namespace_added : (ns : Text) → has_namespace tables ns ≡ false
      → AreTables (record tables { namespaces = add_row namespace_key ns tables.namespaces })
  namespace_added ns free =
      let stays : (text : Text) → list_any (bytes_eq text) tables.namespaces ≡ true
      → list_any (bytes_eq text) (add_row namespace_key ns tables.namespaces) ≡ true =
      λ text h. any_added (bytes_eq text) (λ a b. is_before (namespace_key a) (namespace_key b)) ns
      tables.namespaces h in
      other_namespaces (add_row namespace_key ns tables.namespaces)
      (in_order_added namespace_key ns tables.namespaces s.namespaces
      (no_text ns tables.namespaces free))
      (λ k d lt. stays _) (λ k d lt. stays _) (λ k d lt. stays _) (λ k d lt. stays _)
      (λ k d lt. stays _)

  -- a namespace more, or as before
  pub namespace_grown : (ns : Text) (new : List Text) (r : Result (Unit {0}) Fault)
      → Refuses r
      (least_of false false (has_row namespace_key (ns ∷ []) tables.namespaces) false)
      → OnOk r (new ≡ add_row namespace_key ns tables.namespaces)
      → OnErr r (new ≡ tables.namespaces) → AreTables (record tables { namespaces = new })
  namespace_grown ns new (Ok u) fault ok err =
      let there = has_row namespace_key (ns ∷ []) tables.namespaces in
      subst (λ (names : List Text). AreTables (record tables { namespaces = names })) (sym ok)
      (namespace_added ns (names_row ns tables.namespaces ∙ was_free (Ok u) there fault))
  namespace_grown ns new (Err e) fault ok err =
      subst (λ (names : List Text). AreTables (record tables { namespaces = names })) (sym err) s

  -- the tables stay sound if a namespace that isn't in use is removed
  pub namespace_removed : (ns : Text) → is_in_use tables ns ≡ false
      → AreTables
      (record tables { namespaces = remove_row namespace_key (ns ∷ []) tables.namespaces })
  namespace_removed ns free =
      let snapshots =
      or_parts _ (list_any (λ (row : SnapRow). bytes_eq ns row.key.ns) tables.snapshots) free in
      let ingests = or_parts _ (list_any (λ (row : IngestRow). bytes_eq ns row.ns) tables.ingests)
      snapshots.0 in
      let content = or_parts _ (list_any (λ (row : ContentRow). bytes_eq ns row.ns) tables.content)
      ingests.0 in
      let both = or_parts (list_any (λ (row : ImageRow). bytes_eq ns row.ns) tables.images)
      (list_any (λ (row : ContainerRow). bytes_eq ns row.ns) tables.containers) content.0 in
      other_namespaces (remove_row namespace_key (ns ∷ []) tables.namespaces)
      (in_order_removed namespace_key (ns ∷ []) tables.namespaces s.namespaces)
      (unused (λ (row : ImageRow). row.ns) ns tables.namespaces tables.images both.0)
      (unused (λ (row : ContainerRow). row.ns) ns tables.namespaces tables.containers both.1)
      (unused (λ (row : ContentRow). row.ns) ns tables.namespaces tables.content content.1)
      (unused (λ (row : IngestRow). row.ns) ns tables.namespaces tables.ingests ingests.1)
      (unused (λ (row : SnapRow). row.key.ns) ns tables.namespaces tables.snapshots snapshots.1)

-- so rows are in order
pub tables_in_order : (tables : Tables) → AreTables tables → AreInOrder tables
tables_in_order tables s = record {
  namespaces = s.namespaces;
  images = s.images.in_order;
  containers = s.containers.in_order;
  content = s.content.in_order;
  ingests = s.ingests.in_order;
  snapshots = s.snapshots.in_order;
}

-- where there is no row, all is sound
pub no_rows : AreTables (record {
  namespaces = [];
  images = [];
  containers = [];
  content = [];
  ingests = [];
  snapshots = [];
})
no_rows = record {
  namespaces = refl;
  images = record { in_order = refl; named = λ k d lt. absurd (omega arith) };
  containers = record { in_order = refl; named = λ k d lt. absurd (omega arith) };
  content = record { in_order = refl; named = λ k d lt. absurd (omega arith) };
  ingests = record { in_order = refl; named = λ k d lt. absurd (omega arith) };
  snapshots = record { in_order = refl; named = λ k d lt. absurd (omega arith) };
  numbered = record {
    parents = λ k d lt. absurd (omega arith);
    snapshots_apart = λ i j d lt within. absurd (omega arith);
    ingests_apart = λ i j d lt within. absurd (omega arith);
    apart = λ k d lt. absurd (omega arith);
  };
}
