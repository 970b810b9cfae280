-- A removal makes no path.
use Rattle.std.proofs.Common.{◌≡◌, ℤ, List, [], ◌∷◌, ◌++◌, map, refl, subst, inl, inr}
use Rattle.std.specs.Prelude.{Contains, IsTrue}
use Rattle.std.proofs.lemmas.Bool.{cases_Bool}
use Rattle.std.proofs.lemmas.List.Elements.{Contains-append_left, Contains-append_right}
use Rattle.std.proofs.lemmas.List.Elements.{Contains-append_cases}
use Rattle.meta_types.specs.Text.{Text}
use Rattle.meta_types.specs.Keys.{Key, is_key, remove_row}
use Rattle.meta_types.specs.Rows.{Records, State}
use Rattle.meta_types.specs.Rows.{image_key, container_key, lease_key, content_key, ingest_key, snap_key}
use Rattle.meta_types.specs.Paths.{Thing, image, container, lease, ingest, content, snapshot}
use Rattle.meta_types.specs.Paths.{things, in_both_modes, is_root, IsPath}
use Rattle.meta_types.specs.Impacts.{removed}
use Rattle.meta_types.specs.declared.object.Object.{Object}
use Rattle.meta_types.specs.declared.object.Object.TheVariants.{Image, Container, Lease, Held}
use Rattle.meta_types.specs.declared.resource.Resource.TheVariants as R
use Rattle.meta_types.specs.declared.resource.Mode.{Mode}
use Rattle.meta_types.specs.declared.resource.Mode.TheVariants.{Full, Flat}
use Rattle.meta_types.proofs.Members.{here, later, first_or_later}
use Rattle.meta_types.proofs.FilteredNames.{from_map, in_map}

-- ---- lists within others

abbrev Within : {X : Type 0} → List X → List X → Type 0
Within {X} xs ys = (x : X) → Contains xs x → Contains ys x

all : {X : Type 0} (xs : List X) → Within xs xs
all xs x c = c

module _ {X : Type 0} (a b c d : List X) where
  both : Within a b → Within c d → Within (a ++ c) (b ++ d)
  both p q x h = elim (Contains-append_cases a c x h) [
    | inl l ↦ Contains-append_left b d x (p x l)
    | inr r ↦ Contains-append_right b d x (q x r)
  ]

mapped : {X Y : Type 0} (f : X → Y) (xs ys : List X) → Within xs ys → Within (map f xs) (map f ys)
mapped f xs ys p y h =
    let from = from_map f xs y h in
    subst (Contains (map f ys)) from.2 (in_map f ys from.0 (p from.0 from.1))

in_modes : {Row : Type 0} (thing : Mode → Row → Thing) (xs ys : List Row) → Within xs ys
    → Within (in_both_modes thing xs) (in_both_modes thing ys)
in_modes thing xs ys p =
    both (map (thing Full) xs) (map (thing Full) ys) (map (thing Flat) xs) (map (thing Flat) ys)
    (mapped (thing Full) xs ys p) (mapped (thing Flat) xs ys p)

module _ {Row : Type 0} (key_of : Row → Key) (key : Key) where
  within : (rows : List Row) → Within (remove_row key_of key rows) rows
  within [] x h = h
  within (row ∷ rows) x h = elim (cases_Bool (is_key key (key_of row))) [
    | inl t ↦ later row rows x (rw t at h)
    | inr f ↦ elim (first_or_later row (remove_row key_of key rows) x (rw f at h)) [
      | inl e ↦ subst (Contains (row ∷ rows)) e (here row rows)
      | inr c ↦ later row rows x (within rows x c)
    ]
  ]

-- ---- records within others

record AreWithin (a b : Records) : Type 0 where
  images : Within a.tables.images b.tables.images
  containers : Within a.tables.containers b.tables.containers
  leases : Within a.leases b.leases
  ingests : Within a.tables.ingests b.tables.ingests
  content : Within a.tables.content b.tables.content
  snapshots : Within a.tables.snapshots b.tables.snapshots
  profile : a.profile ≡ b.profile

module _ (a b : Records) (at : ℤ) (h : AreWithin a b) where
  things_within : Within (things a) (things b)
  things_within =
      both _ _ _ _ (both _ _ _ _ (both _ _ _ _ (both _ _ _ _ (both _ _ _ _
      (mapped image a.tables.images b.tables.images h.images)
      (mapped container a.tables.containers b.tables.containers h.containers))
      (mapped lease a.leases b.leases h.leases))
      (mapped ingest a.tables.ingests b.tables.ingests h.ingests))
      (in_modes content a.tables.content b.tables.content h.content))
      (in_modes snapshot a.tables.snapshots b.tables.snapshots h.snapshots)

  path_within : (last : Thing) (path : List Thing) → IsPath a at last path → IsPath b at last path
  path_within last [] p =
      (things_within last p.0, subst (λ profile. IsTrue (is_root profile at last)) h.profile p.1)
  path_within last (before ∷ path) p =
      (things_within last p.0, p.1, path_within before path p.2)

-- ---- removals

left_within : (state : State) (ns : Text) (object : Object)
    → AreWithin (removed state ns object).after.records state.records
left_within state ns (Image name) =
    let r = state.records in
    let t = r.tables in
    record {
      images = within image_key (ns ∷ name ∷ []) t.images;
      containers = all t.containers;
      leases = all r.leases;
      ingests = all t.ingests;
      content = all t.content;
      snapshots = all t.snapshots;
      profile = refl;
    }
left_within state ns (Container name) =
    let r = state.records in
    let t = r.tables in
    record {
      images = all t.images;
      containers = within container_key (ns ∷ name ∷ []) t.containers;
      leases = all r.leases;
      ingests = all t.ingests;
      content = all t.content;
      snapshots = all t.snapshots;
      profile = refl;
    }
left_within state ns (Lease id) =
    let r = state.records in
    let t = r.tables in
    record {
      images = all t.images;
      containers = all t.containers;
      leases = within lease_key (ns ∷ id ∷ []) r.leases;
      ingests = all t.ingests;
      content = all t.content;
      snapshots = all t.snapshots;
      profile = refl;
    }
left_within state ns (Held (R.Content digest)) =
    let r = state.records in
    let t = r.tables in
    record {
      images = all t.images;
      containers = all t.containers;
      leases = all r.leases;
      ingests = all t.ingests;
      content = within content_key (ns ∷ digest ∷ []) t.content;
      snapshots = all t.snapshots;
      profile = refl;
    }
left_within state ns (Held (R.Snapshot snapshotter name)) =
    let r = state.records in
    let t = r.tables in
    record {
      images = all t.images;
      containers = all t.containers;
      leases = all r.leases;
      ingests = all t.ingests;
      content = all t.content;
      snapshots = within snap_key (ns ∷ snapshotter ∷ name ∷ []) t.snapshots;
      profile = refl;
    }
left_within state ns (Held (R.Ingest name)) =
    let r = state.records in
    let t = r.tables in
    record {
      images = all t.images;
      containers = all t.containers;
      leases = all r.leases;
      ingests = within ingest_key (ns ∷ name ∷ []) t.ingests;
      content = all t.content;
      snapshots = all t.snapshots;
      profile = refl;
    }

-- a path of the store after a removal is a path of the store before it
pub no_new_path : (state : State) (ns : Text) (object : Object) (at : ℤ)
    → (last : Thing) (path : List Thing)
    → IsPath (removed state ns object).after.records at last path → IsPath state.records at last path
no_new_path state ns object at last path p =
    path_within (removed state ns object).after.records state.records at
    (left_within state ns object) last path p
