-- What a line is to hold is there, and its lease holds it. None of it speaks of code.
use Rattle.std.proofs.Common.{◌≡◌, ◌∙◌, Bool, true, false, not, List, [], ◌∷◌, Option, Some, None, refl, sym, ap, subst, ◌⊎◌, inl, inr}
use Rattle.std.specs.Prelude.{is_some, option_map, bytes_eq, ◌||◌, ◌&&◌}
use Rattle.std.specs.List.{list_any}
use Rattle.std.specs.Option.{option_map_or}
use Rattle.std.proofs.lemmas.Bool.{cases_Bool, and_parts, or_parts, not-false, both_ways}
use Rattle.meta_types.specs.Text.{Text, is_digest, is_name, is_short_name}
use Rattle.meta_types.specs.Keys.{Key, is_key, row_at, has_row, add_row, remove_row, change_row, is_before}
use Rattle.meta_types.specs.Resources.{resource_key, type_of, id_of, resource_of, held}
use Rattle.meta_types.specs.Rows.{State, LeaseRow, lease_key}
use Rattle.meta_types.specs.Changes.{lease_holds, hold_in_lease, release_in_lease, has_lease}
use Rattle.meta_types.specs.declared.resource.Resource.{Resource}
use Rattle.meta_types.specs.declared.resource.Resource.TheVariants.{Content, Snapshot, Ingest}
use Rattle.meta_types.proofs.KeepsSound.{added_any}
use Rattle.object_tables.proofs.RowsKept.{key_itself, row_removed}
use Rattle.request_core.proofs.ShownRows.{found_changed}

-- ---- rows

module _ {Row : Type 0} (key_of : Row → Key) where
  -- a key has a row where some row has the key
  pub has_any : (key : Key) (rows : List Row)
      → has_row key_of key rows ≡ list_any (λ row. is_key key (key_of row)) rows
  has_any key [] = refl
  has_any key (row ∷ rows) = elim (cases_Bool (is_key key (key_of row))) [
    | inl t ↦ rw t refl
    | inr f ↦ rw f (has_any key rows)
  ]

  -- a row that was added is there
  pub added_there : (row : Row) (rows : List Row)
      → has_row key_of (key_of row) (add_row key_of row rows) ≡ true
  added_there row rows =
      has_any (key_of row) (add_row key_of row rows)
      ∙ added_any (λ other. is_key (key_of row) (key_of other))
      (λ a b. is_before (key_of a) (key_of b)) row rows (key_itself (key_of row))

-- ---- resources

-- what a lease is given it holds
given_there : (resource : Resource) (resources : List Resource)
    → has_row resource_key (resource_key resource) (held resource resources) ≡ true
given_there resource resources =
    elim (cases_Bool (has_row resource_key (resource_key resource) resources)) [
      | inl t ↦ rw t t
      | inr f ↦ rw f (added_there resource_key resource resources)
    ]

-- the texts of a resource that are allowed say that resource
pub said_again : (resource : Resource)
    → is_some (resource_of (type_of resource) (id_of resource)) ≡ true
    → resource_of (type_of resource) (id_of resource) ≡ Some resource
said_again (Content digest) h = elim (cases_Bool (is_digest digest)) [
  | inl t ↦ rw t refl
  | inr f ↦ absurd (cc (rw f at h))
]
said_again (Ingest name) h = elim (cases_Bool (is_name name)) [
  | inl t ↦ rw t refl
  | inr f ↦ absurd (cc (rw f at h))
]
said_again (Snapshot snapshotter name) h =
    elim (cases_Bool (is_short_name snapshotter && is_name name)) [
      | inl t ↦ rw t refl
      | inr f ↦ absurd (cc (rw f at h))
    ]

-- ---- leases

module _ (key : Key) (resource : Resource) where
  -- a lease that is there holds what it is given
  pub holds_given : (leases : List LeaseRow) → has_row lease_key key leases ≡ true
      → lease_holds key resource (hold_in_lease key resource leases) ≡ true
  holds_given leases there =
      ap (λ (found : Option LeaseRow). option_map_or Holds found false)
      (found_changed lease_key key Given (λ row. refl) leases)
      ∙ go (row_at lease_key key leases) there
    where
      Holds : LeaseRow → Bool
      Holds row = has_row resource_key (resource_key resource) row.resources

      Given : LeaseRow → LeaseRow
      Given row = record row { resources = held resource row.resources }

      go : (found : Option LeaseRow) → is_some found ≡ true
          → option_map_or Holds (option_map Given found) false ≡ true
      go None h = absurd (cc h)
      go (Some row) h = given_there resource row.resources

  -- it holds it still where some lease drops another
  pub holds_still : (other : Key) (gone : Resource)
      → is_key (resource_key resource) (resource_key gone) ≡ false
      → (leases : List LeaseRow) → lease_holds key resource leases ≡ true
      → lease_holds key resource (release_in_lease other gone leases) ≡ true
  holds_still other gone apart [] h = absurd (cc h)
  holds_still other gone apart (row ∷ rows) h = elim (cases_Bool (is_key other (lease_key row))) [
    | inl t ↦ elim (cases_Bool (is_key key (lease_key row))) [
      | inl u ↦ (
          let was : has_row resource_key (resource_key resource) row.resources ≡ true = rw u at h in
          rw (t, u) (ap is_some (row_removed resource_key (resource_key resource)
          (resource_key gone) apart row.resources) ∙ was))
      | inr v ↦ (
          let was : lease_holds key resource rows ≡ true = rw v at h in
          rw (t, v) was)
    ]
    | inr f ↦ elim (cases_Bool (is_key key (lease_key row))) [
      | inl u ↦ (
          let was : has_row resource_key (resource_key resource) row.resources ≡ true = rw u at h in
          rw (f, u) was)
      | inr v ↦ (
          let was : lease_holds key resource rows ≡ true = rw v at h in
          rw (f, v) (holds_still other gone apart rows was))
    ]
  ]
