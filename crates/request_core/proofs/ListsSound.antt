-- A state with another list in place of one is sound. None of it speaks of code.
use Rattle.std.proofs.Common.{◌≡◌, ℕ, Bool, true, false, List, [], ◌∷◌, Option, Some, None, refl, inl, inr}
use Rattle.std.specs.Prelude.{IsTrue, bytes_eq}
use Rattle.std.specs.List.{list_any}
use Rattle.std.proofs.lemmas.Bool.{cases_Bool}
use Rattle.std.proofs.lemmas.Slice.Eq.{bytes_eq-Decides}
use Rattle.meta_types.specs.Text.{Text}
use Rattle.meta_types.specs.Keys.{add_row, remove_row, is_before}
use Rattle.meta_types.specs.Resources.{resource_key, held}
use Rattle.meta_types.specs.Rows.{State, LeaseRow, BackSnap, namespace_key, content_key, lease_key}
use Rattle.meta_types.specs.Changes.{with_images, with_containers, with_leases, put_blob, hold_under, release_under}
use Rattle.meta_types.specs.Faults.{least_of}
use Rattle.meta_types.specs.Ops.{Outcome, least_fault}
use Rattle.meta_types.specs.Sound.{AreRows, AreTables, HaveBlobs, HaveObjects, IsSound}
use Rattle.meta_types.specs.declared.rows.ImageRow.{ImageRow}
use Rattle.meta_types.specs.declared.rows.ContainerRow.{ContainerRow}
use Rattle.meta_types.specs.declared.rows.ContentRow.{ContentRow}
use Rattle.meta_types.specs.declared.rows.IngestRow.{IngestRow}
use Rattle.meta_types.specs.declared.rows.SnapRow.{SnapRow}
use Rattle.meta_types.specs.declared.resource.Resource.{Resource}
use Rattle.meta_types.proofs.Ordered.{in_order_added}
use Rattle.meta_types.proofs.KeepsSound.{all_added, rows_changed, any_added, added_any, no_text}

-- ---- which tests failed

pub fine : (invalid missing there forbidden : Bool)
    → least_of invalid missing there forbidden ≡ None
    → (invalid ≡ false) × (missing ≡ false) × (there ≡ false) × (forbidden ≡ false)
fine true m t d h = absurd cc
fine false true t d h = absurd cc
fine false false true d h = absurd cc
fine false false false true h = absurd cc
fine false false false false h = (refl, refl, refl, refl)

-- where no fault applies, no test failed
pub none_applies : (o : Outcome) → least_fault o ≡ None
    → (o.invalid ≡ false) × (o.missing ≡ false) × (o.there ≡ false) × (o.forbidden ≡ false)
none_applies o h = fine o.invalid o.missing o.there o.forbidden h

-- ---- one list is another

module _ (state : State) (s : IsSound state) where
  pub sound_images : (rows : List ImageRow)
      → AreTables (record state.records.tables { images = rows }) → IsSound (with_images state rows)
  sound_images rows tables =
      record { tables = tables; leases = s.leases; stored = s.stored; backed = s.backed }

  pub sound_containers : (rows : List ContainerRow)
      → AreTables (record state.records.tables { containers = rows })
      → IsSound (with_containers state rows)
  sound_containers rows tables =
      record { tables = tables; leases = s.leases; stored = s.stored; backed = s.backed }

  pub sound_leases : (rows : List LeaseRow)
      → AreRows lease_key (λ (row : LeaseRow). row.ns) state.records.tables.namespaces rows
      → IsSound (with_leases state rows)
  sound_leases rows new =
      record { tables = s.tables; leases = new; stored = s.stored; backed = s.backed }

  -- content with its blobs
  pub sound_content : (rows : List ContentRow) (blobs : List Text)
      → AreTables (record state.records.tables { content = rows }) → HaveBlobs rows blobs
      → IsSound (record state {
        records = record state.records { tables = record state.records.tables { content = rows } };
        backends = record state.backends { blobs = blobs };
      })
  sound_content rows blobs tables stored =
      record { tables = tables; leases = s.leases; stored = stored; backed = s.backed }

  -- ingests with their objects
  pub sound_ingests : (rows : List IngestRow) (next : ℕ) (begun : List ℕ)
      → AreTables (record state.records.tables { ingests = rows })
      → HaveObjects state.records.tables.snapshots rows next state.backends.snapshots begun
      → IsSound (record {
        records = record state.records {
          tables = record state.records.tables { ingests = rows };
          next = next;
        };
        backends = record state.backends { ingests = begun };
      })
  sound_ingests rows next begun tables backed =
      record { tables = tables; leases = s.leases; stored = s.stored; backed = backed }

  -- snapshots with their objects
  pub sound_snapshots : (rows : List SnapRow) (next : ℕ) (snaps : List BackSnap)
      → AreTables (record state.records.tables { snapshots = rows })
      → HaveObjects rows state.records.tables.ingests next snaps state.backends.ingests
      → IsSound (record {
        records = record state.records {
          tables = record state.records.tables { snapshots = rows };
          next = next;
        };
        backends = record state.backends { snapshots = snaps };
      })
  sound_snapshots rows next snaps tables backed =
      record { tables = tables; leases = s.leases; stored = s.stored; backed = backed }

-- ---- blobs and leases

-- each row has its blob, one more too
pub still_stored : (rows : List ContentRow) (row : ContentRow) (blobs : List Text)
    → HaveBlobs rows blobs → HaveBlobs (add_row content_key row rows) (put_blob row.digest blobs)
still_stored rows row blobs s = elim (cases_Bool (list_any (bytes_eq row.digest) blobs)) [
  | inl t ↦ rw t (record {
    held = all_added content_key (IsStored blobs) row t rows s.held;
    in_order = s.in_order;
  })
  | inr f ↦ rw f (record {
    held = all_added content_key (IsStored (add_row namespace_key row.digest blobs)) row
        (added_any (bytes_eq row.digest) before row.digest blobs same) rows
        (λ k d lt. any_added _ before row.digest blobs (s.held k d lt));
    in_order =
        in_order_added namespace_key row.digest blobs s.in_order (no_text row.digest blobs f);
  })
]
  where
    IsStored : List Text → ContentRow → Type 0
    IsStored among other = IsTrue (list_any (bytes_eq other.digest) among)

    before : Text → Text → Bool
    before a b = is_before (namespace_key a) (namespace_key b)

    same : bytes_eq row.digest row.digest ≡ true
    same = (bytes_eq-Decides row.digest row.digest).1 refl

-- what a lease holds is no part of it
pub leases_held : (namespaces : List Text) (ns : Text) (lease : Option Text) (resource : Resource)
    (leases : List LeaseRow) → AreRows lease_key (λ (row : LeaseRow). row.ns) namespaces leases
    → AreRows lease_key (λ (row : LeaseRow). row.ns) namespaces (hold_under ns lease resource leases)
leases_held namespaces ns None resource leases s = s
leases_held namespaces ns (Some id) resource leases s =
    rows_changed lease_key (λ (row : LeaseRow). row.ns) namespaces (ns ∷ id ∷ [])
    (λ row. record row { resources = held resource row.resources }) (λ row. refl) (λ row. refl)
    leases s

-- nor what it drops
pub leases_released : (namespaces : List Text) (ns : Text) (lease : Option Text)
    (resource : Resource)
    (leases : List LeaseRow) → AreRows lease_key (λ (row : LeaseRow). row.ns) namespaces leases
    → AreRows lease_key (λ (row : LeaseRow). row.ns) namespaces
    (release_under ns lease resource leases)
leases_released namespaces ns None resource leases s = s
leases_released namespaces ns (Some id) resource leases s =
    rows_changed lease_key (λ (row : LeaseRow). row.ns) namespaces (ns ∷ id ∷ [])
    (λ row. record row {
      resources = remove_row resource_key (resource_key resource) row.resources;
    })
    (λ row. refl) (λ row. refl) leases s
