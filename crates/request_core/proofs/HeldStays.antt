-- What a lease holds stays as long as the lease does. None of it speaks of code.
use Rattle.std.proofs.Common.{◌≡◌, ◌∙◌, ℤ, Bool, true, false, List, [], ◌∷◌, ◌++◌, map, Option, Some, None, refl, sym, ap, subst, ◌⊎◌, inl, inr}
use Rattle.std.specs.Prelude.{Contains, ◌&&◌, bytes_eq, is_some, IsTrue}
use Rattle.std.specs.List.{list_any}
use Rattle.std.specs.Option.{option_map_or}
use Rattle.std.proofs.lemmas.Bool.{and_parts, and_from, false≢true}
use Rattle.std.proofs.lemmas.Slice.Eq.{bytes_eq-Decides}
use Rattle.std.proofs.lemmas.List.Elements.{Contains-append_left, Contains-append_right}
use Rattle.meta_types.specs.Text.{Text}
use Rattle.meta_types.specs.Keys.{Key, is_key, row_at, has_row}
use Rattle.meta_types.specs.Resources.{resource_key}
use Rattle.meta_types.specs.Rows.{State, Records, LeaseRow, content_key, ingest_key, snap_key, lease_key}
use Rattle.meta_types.specs.Changes.{lease_holds}
use Rattle.meta_types.specs.Paths.{Thing, image, container, lease, ingest, content, snapshot, things, in_both_modes, namespace_of, is_resource, is_same_mode, lease_mode, lease_stays, IsPath, IsReached}
use Rattle.meta_types.specs.Backends.{BackNames}
use Rattle.meta_types.specs.Reports.{Report, Collects}
use Rattle.meta_types.specs.Sound.{IsSound}
use Rattle.meta_types.specs.Shown.{ToHold}
use Rattle.meta_types.specs.Holdings.{has_resource, IsHeld}
use Rattle.meta_types.specs.declared.rows.ContentRow.{ContentRow}
use Rattle.meta_types.specs.declared.rows.SnapRow.{SnapRow}
use Rattle.meta_types.specs.declared.resource.Mode.{Mode}
use Rattle.meta_types.specs.declared.resource.Mode.TheVariants.{Full, Flat}
use Rattle.meta_types.specs.declared.resource.Resource.{Resource}
use Rattle.meta_types.specs.declared.resource.Resource.TheVariants.{Content, Snapshot, Ingest}
use Rattle.meta_types.proofs.Members.{any_from}
use Rattle.meta_types.proofs.FilteredNames.{in_map}
use Rattle.meta_types.proofs.ListSearches.{none_or_some}
use Rattle.meta_types.proofs.Once.{ingest_in, full_in, flat_in, full_snap_in, flat_snap_in}
use Rattle.meta_types.proofs.Promised.{keeps_what_is_reached}
use Rattle.object_tables.proofs.RowsKept.{key_itself, row_is}
use Rattle.request_core.proofs.HeldThere.{has_any}

-- ---- texts and keys

same : (a b : Text) → a ≡ b → bytes_eq a b ≡ true
same a b e = (bytes_eq-Decides a b).1 e

abbrev first_of : Key → Text
first_of [] = []
first_of (text ∷ key) = text

abbrev rest_of : Key → Key
rest_of [] = []
rest_of (text ∷ key) = key

-- resources of one type and one id are one
one_resource : (a b : Resource) → is_key (resource_key a) (resource_key b) ≡ true → a ≡ b
one_resource (Content a) (Content b) e =
    ap Content ((bytes_eq-Decides a b).0 (and_parts (bytes_eq a b) true e).0)
one_resource (Content a) (Snapshot t b) e = absurd cc
one_resource (Content a) (Ingest b) e = absurd cc
one_resource (Snapshot s a) (Content b) e = absurd cc
one_resource (Snapshot s a) (Snapshot t b) e =
    let both = and_parts (bytes_eq s t) (bytes_eq a b && true) e in
    λ i. Snapshot ((bytes_eq-Decides s t).0 both.0 i)
    ((bytes_eq-Decides a b).0 (and_parts (bytes_eq a b) true both.1).0 i)
one_resource (Snapshot s a) (Ingest b) e = absurd cc
one_resource (Ingest a) (Content b) e = absurd cc
one_resource (Ingest a) (Snapshot t b) e = absurd cc
one_resource (Ingest a) (Ingest b) e =
    ap Ingest ((bytes_eq-Decides a b).0 (and_parts (bytes_eq a b) true e).0)

-- ---- rows

module _ {Row : Type 0} (key_of : Row → Key) where
  -- a key that is there has a row
  pub row_there : (key : Key) (rows : List Row) → has_row key_of key rows ≡ true
      → (row : Row) × (row_at key_of key rows ≡ Some row)
  row_there key rows h = elim (none_or_some (row_at key_of key rows)) [
    | inl none ↦ absurd (false≢true (sym (ap is_some none) ∙ h))
    | inr some ↦ some
  ]

  -- a row that stands among them is there
  stands_there : (key : Key) (rows : List Row) (row : Row) → Contains rows row
      → key ≡ key_of row → has_row key_of key rows ≡ true
  stands_there key rows row c is =
      has_any key_of key rows
      ∙ any_from (λ other. is_key key (key_of other)) rows row c
      (ap (is_key key) (sym is) ∙ key_itself key)

-- ---- things

mode_self : (mode : Mode) → is_same_mode mode mode ≡ true
mode_self Full = refl
mode_self Flat = refl

module _ (records : Records) where
  lease_in : (row : LeaseRow) → Contains records.leases row
      → Contains (things records) (lease row)
  lease_in row c =
      let images = map image records.tables.images in
      let containers = map container records.tables.containers in
      let leases = map lease records.leases in
      let ingests = map ingest records.tables.ingests in
      let contents = in_both_modes content records.tables.content in
      let snapshots = in_both_modes snapshot records.tables.snapshots in
      Contains-append_left (images ++ containers ++ leases ++ ingests ++ contents) snapshots
      (lease row)
      (Contains-append_left (images ++ containers ++ leases ++ ingests) contents (lease row)
      (Contains-append_left (images ++ containers ++ leases) ingests (lease row)
      (Contains-append_right (images ++ containers) leases (lease row)
      (in_map lease records.leases row c))))

  content_in : (mode : Mode) (row : ContentRow) → Contains records.tables.content row
      → Contains (things records) (content mode row)
  content_in Full row c = full_in records row c
  content_in Flat row c = flat_in records row c

  snapshot_in : (mode : Mode) (row : SnapRow) → Contains records.tables.snapshots row
      → Contains (things records) (snapshot mode row)
  snapshot_in Full row c = full_snap_in records row c
  snapshot_in Flat row c = flat_snap_in records row c

-- ---- a path from the lease

module _ (records : Records) (ns id : Text) (resource : Resource) (row : LeaseRow) (at : ℤ)
    (found : row_at lease_key (ns ∷ id ∷ []) records.leases ≡ Some row)
    (held : lease_holds (ns ∷ id ∷ []) resource records.leases ≡ true)
    (stays : lease_stays at row ≡ true) where
  is_row : Contains records.leases row × ((ns ∷ id ∷ []) ≡ lease_key row)
  is_row = row_is lease_key (ns ∷ id ∷ []) records.leases row found

  abbrev Holds : Option LeaseRow → Bool
  Holds o =
      option_map_or (λ (r : LeaseRow). has_row resource_key (resource_key resource) r.resources) o
      false

  holds : has_row resource_key (resource_key resource) row.resources ≡ true
  holds = ap Holds (sym found) ∙ held

  references_it : (thing : Thing) → is_resource resource (lease_mode row) thing ≡ true
      → list_any (λ r. is_resource r (lease_mode row) thing) row.resources ≡ true
  references_it thing test =
      let one = row_there resource_key (resource_key resource) row.resources holds in
      let is = row_is resource_key (resource_key resource) row.resources one.0 one.1 in
      let one_of : resource ≡ one.0 = one_resource resource one.0
      (ap (is_key (resource_key resource)) (sym is.1) ∙ key_itself (resource_key resource)) in
      any_from (λ r. is_resource r (lease_mode row) thing) row.resources one.0 is.0
      (subst (λ (r : Resource). is_resource r (lease_mode row) thing ≡ true) one_of test)

  reached : (thing : Thing) → Contains (things records) thing → ns ≡ namespace_of thing
      → is_resource resource (lease_mode row) thing ≡ true → IsReached records at thing
  reached thing c of test = (
    lease row ∷ [],
    (
      c,
      and_from (bytes_eq row.ns (namespace_of thing))
          (list_any (λ r. is_resource r (lease_mode row) thing) row.resources)
          (same row.ns (namespace_of thing) (sym (ap first_of is_row.1) ∙ of))
          (references_it thing test),
      (lease_in records row is_row.0, stays),
    ),
  )

-- ---- what is held stays

module _ (state : State) (ns id : Text) (row : LeaseRow) (at : ℤ) (failed : BackNames)
    (report : Report) (new : State) (sound : IsSound state)
    (found : row_at lease_key (ns ∷ id ∷ []) state.records.leases ≡ Some row)
    (stays : lease_stays at row ≡ true) (collects : Collects state at failed report new) where
  stays_there : (resource : Resource) → has_resource state ns resource ≡ true
      → lease_holds (ns ∷ id ∷ []) resource state.records.leases ≡ true
      → has_resource new ns resource ≡ true
  stays_there (Content digest) there held =
      let key = ns ∷ digest ∷ [] in
      let one = row_there content_key key state.records.tables.content there in
      let is = row_is content_key key state.records.tables.content one.0 one.1 in
      let mode = lease_mode row in
      let path = reached state.records ns id (Content digest) row at found held stays
      (content mode one.0) (content_in state.records mode one.0 is.0) (ap first_of is.1)
      (and_from (is_same_mode mode mode) (bytes_eq one.0.digest digest) (mode_self mode)
      (same one.0.digest digest (sym (ap (λ (k : Key). first_of (rest_of k)) is.1)))) in
      stands_there content_key key new.records.tables.content one.0
      ((keeps_what_is_reached state at failed report new sound collects).content_rows mode one.0
      is.0 path).0 is.1
  stays_there (Snapshot snapshotter name) there held =
      let key = ns ∷ snapshotter ∷ name ∷ [] in
      let one = row_there snap_key key state.records.tables.snapshots there in
      let is = row_is snap_key key state.records.tables.snapshots one.0 one.1 in
      let mode = lease_mode row in
      let path = reached state.records ns id (Snapshot snapshotter name) row at found held stays
      (snapshot mode one.0) (snapshot_in state.records mode one.0 is.0) (ap first_of is.1)
      (and_from (is_same_mode mode mode && bytes_eq one.0.key.snapshotter snapshotter)
      (bytes_eq one.0.key.name name)
      (and_from (is_same_mode mode mode) (bytes_eq one.0.key.snapshotter snapshotter)
      (mode_self mode)
      (same one.0.key.snapshotter snapshotter
      (sym (ap (λ (k : Key). first_of (rest_of k)) is.1))))
      (same one.0.key.name name
      (sym (ap (λ (k : Key). first_of (rest_of (rest_of k))) is.1)))) in
      stands_there snap_key key new.records.tables.snapshots one.0
      ((keeps_what_is_reached state at failed report new sound collects).snapshot_rows mode one.0
      is.0 path).0 is.1
  stays_there (Ingest name) there held =
      let key = ns ∷ name ∷ [] in
      let one = row_there ingest_key key state.records.tables.ingests there in
      let is = row_is ingest_key key state.records.tables.ingests one.0 one.1 in
      let path = reached state.records ns id (Ingest name) row at found held stays
      (ingest one.0) (ingest_in state.records one.0 is.0) (ap first_of is.1)
      (same one.0.name name (sym (ap (λ (k : Key). first_of (rest_of k)) is.1))) in
      stands_there ingest_key key new.records.tables.ingests one.0
      ((keeps_what_is_reached state at failed report new sound collects).ingest_rows one.0
      is.0 path).0 is.1

-- each collection at which the lease hasn't expired keeps what it holds
pub what_is_held_stays : (state : State) (object : ToHold) (row : LeaseRow) (at : ℤ)
    (failed : BackNames) (report : Report) (new : State) → IsSound state → IsHeld state object
    → row_at lease_key (object.ns ∷ object.lease ∷ []) state.records.leases ≡ Some row
    → IsTrue (lease_stays at row) → Collects state at failed report new
    → IsTrue (has_resource new object.ns object.resource)
what_is_held_stays state object row at failed report new sound held found stays collects =
    stays_there state object.ns object.lease row at failed report new sound found stays collects
    object.resource held.there held.held
