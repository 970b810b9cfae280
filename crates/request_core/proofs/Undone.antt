-- What is taken out again leaves what was there.
use Rattle.std.proofs.Common.{◌≡◌, true, false, List, [], ◌∷◌, Option, Some, None, refl, ap, inl, inr}
use Rattle.std.specs.Prelude.{if◌then◌else◌}
use Rattle.std.proofs.lemmas.Bool.{cases_Bool}
use Rattle.meta_types.specs.Text.{Text}
use Rattle.meta_types.specs.Keys.{Key, is_key, is_before, has_row, add_row, remove_row}
use Rattle.meta_types.specs.Resources.{resource_key}
use Rattle.meta_types.specs.Changes.{hold_in_lease, release_in_lease, lease_holds, hold_under, release_under, is_new_to}
use Rattle.meta_types.specs.Rows.{LeaseRow, Tables, content_key, ingest_key, lease_key}
use Rattle.meta_types.specs.declared.rows.ContentRow.{ContentRow}
use Rattle.meta_types.specs.declared.rows.IngestRow.{IngestRow}
use Rattle.meta_types.specs.declared.resource.Resource.{Resource}
use Rattle.object_tables.proofs.RowsKept.{key_itself}

module _ {Row : Type 0} (key_of : Row → Key) where
  no_later : (key : Key) (row : Row) (rows : List Row) → has_row key_of key (row ∷ rows) ≡ false → (is_key key (key_of row) ≡ false) × (has_row key_of key rows ≡ false)
  no_later key row rows h = elim (cases_Bool (is_key key (key_of row))) [
    | inl t ↦ absurd (cc (rw t at h))
    | inr f ↦ (f, rw f at h)
  ]

  -- a row that was added where none of its key was is taken out again
  pub removed_added : (row : Row) (rows : List Row) → has_row key_of (key_of row) rows ≡ false → remove_row key_of (key_of row) (add_row key_of row rows) ≡ rows
  removed_added row [] free = rw (key_itself (key_of row)) refl
  removed_added row (next ∷ rows) free = elim (cases_Bool (is_before (key_of row) (key_of next))) [
    | inl t ↦ rw (t, key_itself (key_of row)) refl
    | inr f ↦ (
        let absent = no_later (key_of row) next rows free in
        rw (f, absent.0) (ap (λ (rs : List Row). next ∷ rs) (removed_added row rows absent.1)))
  ]

-- a resource that a lease arrived to hold is dropped again
dropped_held : (key : Key) (resource : Resource) (rows : List LeaseRow) → lease_holds key resource rows ≡ false → release_in_lease key resource (hold_in_lease key resource rows) ≡ rows
dropped_held key resource [] free = refl
dropped_held key resource (row ∷ rows) free = elim (cases_Bool (is_key key (lease_key row))) [
  | inl t ↦ (
      let absent : has_row resource_key (resource_key resource) row.resources ≡ false = rw t at free in
      rw (t, t, absent, removed_added resource_key resource row.resources absent) refl)
  | inr f ↦ (
      let later : lease_holds key resource rows ≡ false = rw f at free in
      rw (f, f) (ap (λ (rs : List LeaseRow). row ∷ rs) (dropped_held key resource rows later)))
]

-- a lease that held it already is as it was
held_again : (key : Key) (resource : Resource) (rows : List LeaseRow) → lease_holds key resource rows ≡ true → hold_in_lease key resource rows ≡ rows
held_again key resource [] there = refl
held_again key resource (row ∷ rows) there = elim (cases_Bool (is_key key (lease_key row))) [
  | inl t ↦ (
      let present : has_row resource_key (resource_key resource) row.resources ≡ true = rw t at there in
      rw (t, present) refl)
  | inr f ↦ (
      let later : lease_holds key resource rows ≡ true = rw f at there in
      rw f (ap (λ (rs : List LeaseRow). row ∷ rs) (held_again key resource rows later)))
]

-- what is done to let a resource go where it was new, and nothing where it wasn't
pub release : (ns : Text) (lease : Option Text) (resource : Resource) (rows : List LeaseRow)
    → (if is_new_to ns lease resource rows then release_under ns lease resource (hold_under ns lease resource rows) else hold_under ns lease resource rows) ≡ rows
release ns None resource rows = refl
release ns (Some id) resource rows = elim (cases_Bool (lease_holds (ns ∷ id ∷ []) resource rows)) [
  | inl t ↦ rw t (held_again (ns ∷ id ∷ []) resource rows t)
  | inr f ↦ rw f (dropped_held (ns ∷ id ∷ []) resource rows f)
]

-- the rows are those before an addition that was taken back
pub content_again : (before added after : Tables) (row : ContentRow) → added ≡ record before { content = add_row content_key row before.content } → after ≡ record added { content = remove_row content_key (content_key row) added.content }
    → has_row content_key (content_key row) before.content ≡ false → after ≡ before
content_again before added after row grown left free = rw (left, grown) (ap (λ (rows : List ContentRow). record before { content = rows }) (removed_added content_key row before.content free))

pub ingests_again : (before added after : Tables) (row : IngestRow) → added ≡ record before { ingests = add_row ingest_key row before.ingests } → after ≡ record added { ingests = remove_row ingest_key (ingest_key row) added.ingests }
    → has_row ingest_key (ingest_key row) before.ingests ≡ false → after ≡ before
ingests_again before added after row grown left free = rw (left, grown) (ap (λ (rows : List IngestRow). record before { ingests = rows }) (removed_added ingest_key row before.ingests free))
