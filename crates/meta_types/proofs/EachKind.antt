-- What a collection does to each kind of rows and objects.
use Rattle.std.proofs.Common.{◌≡◌, ◌∙◌, ℕ, Bool, true, false, not, List, [], ◌∷◌, map, length, refl, sym, ap, subst, inl, inr, ℤ}
use Rattle.std.specs.Prelude.{Contains, filter, bytes_eq, IsTrue, ◌↔◌, ◌||◌, ◌&&◌, ◌==◌}
use Rattle.std.specs.List.{list_any}
use Rattle.std.proofs.lemmas.Bool.{or_cases, or_left, both_ways, false_from_ne_true}
use Rattle.meta_types.specs.Text.{Text}
use Rattle.meta_types.specs.Rows.{Records, State, Tables, BackSnap, LeaseRow, content_key, ingest_key, snap_key, image_key, lease_key}
use Rattle.meta_types.specs.Keys.{Key, are_in_order}
use Rattle.meta_types.specs.Paths.{Thing, ingest, content, snapshot, image_stays, lease_stays, IsReached, TellsReached}
use Rattle.meta_types.specs.Backends.{BackNames, no_objects, owns_blob, owns_snapshot, owns_ingest, object_name, is_named, is_ancestor_of_one, ancestors_of, blob_stays, ingest_object_stays, snapshot_object_stays, goes_before}
use Rattle.meta_types.specs.Collected.{content_stays, snapshot_stays, ingest_stays, collected, collected_records}
use Rattle.meta_types.specs.Reports.{Report, report_of}
use Rattle.meta_types.specs.Sound.{IsSound}
use Rattle.meta_types.specs.EachKind.{Divides, CollectsRows, CollectsObjects, IsCollected, ACollectionDividesTheRows, ACollectionDividesAll, ADryRunTellsWhatACollectionWould}
use Rattle.meta_types.specs.declared.rows.ImageRow.{ImageRow}
use Rattle.meta_types.specs.declared.rows.ContentRow.{ContentRow}
use Rattle.meta_types.specs.declared.rows.IngestRow.{IngestRow}
use Rattle.meta_types.specs.declared.rows.SnapRow.{SnapRow}
use Rattle.meta_types.specs.declared.resource.Mode.{Mode}
use Rattle.meta_types.specs.declared.resource.Mode.TheVariants.{Full, Flat}
use Rattle.meta_types.proofs.Members.{in_filter, from_filter}
use Rattle.meta_types.proofs.FilteredNames.{from_map, in_map}
use Rattle.meta_types.proofs.OneRowPerKey.{one_row}
use Rattle.meta_types.proofs.Once.{ingest_in, full_in, flat_in, full_snap_in, flat_snap_in, same_scanned}
use Rattle.meta_types.proofs.Promised.{reached_content, reached_snapshot, content_name, ingest_name, snapshot_name, content_names, ingest_names, snapshot_names}
use Rattle.meta_types.proofs.Sorted.{in_ordered, ordered_has}

not_true : (b : Bool) → not b ≡ true → b ≡ false
not_true true h = sym h
not_true false h = refl

-- ---- a filter divides

module _ {Row Name : Type 0} (name_of : Row → Name) (Stays : Row → Type 0) (stays : Row → Bool) (rows : List Row) where
  -- the test tells which rows stay
  abbrev pub Decides : Type 0
  Decides = (row : Row) → Contains rows row → IsTrue (stays row) ↔ Stays row

  -- rows of one name stay or go alike
  abbrev pub Alike : Type 0
  Alike = (a b : Row) → Contains rows a → Contains rows b → name_of a ≡ name_of b → stays a ≡ stays b

  -- the names are those of the rows that don't stay
  abbrev pub Names : List Name → Type 0
  Names gone = (name : Name) → Contains gone name ↔ ((row : Row) × Contains rows row × (stays row ≡ false) × (name_of row ≡ name))

  pub divides : (gone : List Name) → Decides → Alike → Names gone
      → Divides name_of Stays rows (filter stays rows) gone
  divides gone tells alike names = record {
    kept = λ row. (
      (λ c. let both = from_filter stays rows row c in (both.0, (tells row both.0).0 both.1)),
      (λ h. in_filter stays rows row h.0 ((tells row h.0).1 h.1)),
    );
    named = λ name. (
      (λ c. let one = (names name).0 c in (one.0, one.1, (λ s. both_ways (stays one.0) one.2 ((tells one.0 one.1).1 s)), one.3)),
      (λ h. (names name).1 (h.0, h.1, false_from_ne_true (stays h.0) (λ yes. h.2 ((tells h.0 h.1).0 yes)), h.3)),
    );
    apart = λ row c gone_too.
        let both = from_filter stays rows row c in
        let one = (names (name_of row)).0 gone_too in
        both_ways (stays row) (sym (alike one.0 row one.1 both.0 one.3) ∙ one.2) both.1;
  }

  -- the names of a filter
  pub filtered : Names (map name_of (filter (λ (row : Row). not (stays row)) rows))
  filtered name = (
    (λ c.
        let found = from_map name_of (filter (λ (row : Row). not (stays row)) rows) name c in
        let both = from_filter (λ (row : Row). not (stays row)) rows found.0 found.1 in
        (found.0, both.0, not_true (stays found.0) both.1, found.2)),
    (λ h. subst (Contains (map name_of (filter (λ (row : Row). not (stays row)) rows))) h.3
        (in_map name_of (filter (λ (row : Row). not (stays row)) rows) h.0 (in_filter (λ (row : Row). not (stays row)) rows h.0 h.1 (ap not h.2)))),
  )

-- rows that stand in the order of their keys
alike_keys : {Row Name : Type 0} (key_of : Row → Key) (name_of : Row → Name) (same : (a b : Row) → name_of a ≡ name_of b → key_of a ≡ key_of b) (stays : Row → Bool) (rows : List Row)
    → are_in_order key_of rows ≡ true → (a b : Row) → Contains rows a → Contains rows b → name_of a ≡ name_of b → stays a ≡ stays b
alike_keys key_of name_of same stays rows o a b in_a in_b e = ap stays (one_row key_of rows o a b in_a in_b (same a b e))

-- things that are their own names
plain : {X : Type 0} (stays : X → Bool) (xs : List X) → (x : X) → Contains (filter (λ (y : X). not (stays y)) xs) x ↔ ((y : X) × Contains xs y × (stays y ≡ false) × (y ≡ x))
plain stays xs x = (
  (λ c. let both = from_filter (λ y. not (stays y)) xs x c in (x, both.0, not_true (stays x) both.1, refl)),
  (λ h. subst (Contains (filter (λ y. not (stays y)) xs)) h.3 (in_filter (λ y. not (stays y)) xs h.0 h.1 (ap not h.2))),
)

abbrev pub image_name : ImageRow → Text × Text
image_name row = (row.ns, row.name)

abbrev pub lease_name : LeaseRow → Text × Text
lease_name row = (row.ns, row.id)

image_names : (a b : ImageRow) → image_name a ≡ image_name b → image_key a ≡ image_key b
image_names a b e = ap (λ (n : Text × Text). n.0 ∷ n.1 ∷ []) e

lease_names : (a b : LeaseRow) → lease_name a ≡ lease_name b → lease_key a ≡ lease_key b
lease_names a b e = ap (λ (n : Text × Text). n.0 ∷ n.1 ∷ []) e

-- ---- rows

module _ (state : State) (at : ℤ) (failed : BackNames) (reached : Thing → Bool) (dry : Bool) (tells : TellsReached state.records at reached) where
  abbrev records : Records
  records = state.records

  tells_content : (row : ContentRow) → Contains records.tables.content row → IsTrue (content_stays reached row) ↔ ((mode : Mode) × IsReached records at (content mode row))
  tells_content row c = (
    (λ h. elim (or_cases (reached (content Full row)) (reached (content Flat row)) h) [
      | inl full ↦ (Full, (tells.each (content Full row) (full_in records row c)).0 full)
      | inr flat ↦ (Flat, (tells.each (content Flat row) (flat_in records row c)).0 flat)
    ]),
    (λ r. reached_content records at reached tells r.0 row c r.1),
  )

  tells_snapshot : (row : SnapRow) → Contains records.tables.snapshots row → IsTrue (snapshot_stays reached row) ↔ ((mode : Mode) × IsReached records at (snapshot mode row))
  tells_snapshot row c = (
    (λ h. elim (or_cases (reached (snapshot Full row)) (reached (snapshot Flat row)) h) [
      | inl full ↦ (Full, (tells.each (snapshot Full row) (full_snap_in records row c)).0 full)
      | inr flat ↦ (Flat, (tells.each (snapshot Flat row) (flat_snap_in records row c)).0 flat)
    ]),
    (λ r. reached_snapshot records at reached tells r.0 row c r.1),
  )

  pub rows : IsSound state → CollectsRows state at (report_of state at reached failed dry) (collected state at reached failed)
  rows s = record {
    content = divides content_name (λ (row : ContentRow). (mode : Mode) × IsReached records at (content mode row)) (content_stays reached) records.tables.content _ tells_content
        (alike_keys content_key content_name content_names (content_stays reached) records.tables.content s.tables.content.in_order)
        (filtered content_name (λ (row : ContentRow). (mode : Mode) × IsReached records at (content mode row)) (content_stays reached) records.tables.content);
    snapshots = divides snapshot_name (λ (row : SnapRow). (mode : Mode) × IsReached records at (snapshot mode row)) (snapshot_stays reached) records.tables.snapshots _ tells_snapshot
        (alike_keys snap_key snapshot_name snapshot_names (snapshot_stays reached) records.tables.snapshots s.tables.snapshots.in_order)
        (filtered snapshot_name (λ (row : SnapRow). (mode : Mode) × IsReached records at (snapshot mode row)) (snapshot_stays reached) records.tables.snapshots);
    ingests = divides ingest_name (λ (row : IngestRow). IsReached records at (ingest row)) (ingest_stays reached) records.tables.ingests _ (λ row c. tells.each (ingest row) (ingest_in records row c))
        (alike_keys ingest_key ingest_name ingest_names (ingest_stays reached) records.tables.ingests s.tables.ingests.in_order)
        (filtered ingest_name (λ (row : IngestRow). IsReached records at (ingest row)) (ingest_stays reached) records.tables.ingests);
    images = divides image_name (λ (row : ImageRow). IsTrue (image_stays records.profile at row)) (image_stays records.profile at) records.tables.images _ (λ row c. ((λ h. h), (λ h. h)))
        (alike_keys image_key image_name image_names (image_stays records.profile at) records.tables.images s.tables.images.in_order)
        (filtered image_name (λ (row : ImageRow). IsTrue (image_stays records.profile at row)) (image_stays records.profile at) records.tables.images);
    leases = divides lease_name (λ (row : LeaseRow). IsTrue (lease_stays at row)) (lease_stays at) records.leases _ (λ row c. ((λ h. h), (λ h. h)))
        (alike_keys lease_key lease_name lease_names (lease_stays at) records.leases s.leases.in_order)
        (filtered lease_name (λ (row : LeaseRow). IsTrue (lease_stays at row)) (lease_stays at) records.leases);
    containers = refl;
    namespaces = refl;
    next = refl;
    profile = (refl, refl);
    counted = refl;
    scanned = λ other telling. ap length (same_scanned records at reached other tells telling);
    ignored = (refl, refl);
  }

-- ---- objects, where nothing failed

only_first : (a b c : Bool) → b ≡ false → c ≡ false → (a || b || c) ≡ true → a ≡ true
only_first true b c hb hc h = refl
only_first false true c hb hc h = absurd (both_ways true hb refl)
only_first false false true hb hc h = absurd (both_ways true hc refl)
only_first false false false hb hc h = absurd (both_ways false refl h)

first_of_two : (a : Bool) → (a || false) ≡ true → a ≡ true
first_of_two true h = refl
first_of_two false h = absurd (both_ways false refl h)

first_holds : (a b : Bool) → a ≡ true → (a || b) ≡ true
first_holds a b h = or_left a b h

-- no removal that failed stands below anything
nothing_below : (q : BackSnap → Bool) (shards : List BackSnap) → list_any (λ one. false && q one) shards ≡ false
nothing_below q [] = refl
nothing_below q (one ∷ shards) = nothing_below q shards

module _ (state : State) (at : ℤ) (reached : Thing → Bool) (dry : Bool) where
  abbrev left : Tables
  left = (collected_records at reached state.records).tables

  abbrev shards : List BackSnap
  shards = state.backends.snapshots

  abbrev stays : BackSnap → Bool
  stays = snapshot_object_stays left shards no_objects

  none_below : (snap : BackSnap) → is_ancestor_of_one shards [] snap ≡ false
  none_below snap = nothing_below (λ one. list_any (is_named (object_name snap)) (ancestors_of shards one)) shards

  only_owner : (snap : BackSnap) → stays snap ≡ true → owns_snapshot left snap ≡ true
  only_owner snap h = only_first (owns_snapshot left snap) false (is_ancestor_of_one shards [] snap) refl (none_below snap) h

  owner_keeps : (snap : BackSnap) → owns_snapshot left snap ≡ true → stays snap ≡ true
  owner_keeps snap h = rw h refl

  same_owner : (a b : BackSnap) → object_name a ≡ object_name b → owns_snapshot left a ≡ owns_snapshot left b
  same_owner a b same = ap (λ (name : Text × ℕ). list_any (λ row. bytes_eq row.key.snapshotter name.0 && row.number == name.1) left.snapshots) same

  stays_is : (snap : BackSnap) → stays snap ≡ owns_snapshot left snap
  stays_is snap = go (stays snap) (owns_snapshot left snap) (only_owner snap) (owner_keeps snap)
    where
      go : (a b : Bool) → (a ≡ true → b ≡ true) → (b ≡ true → a ≡ true) → a ≡ b
      go true b f g = sym (f refl)
      go false true f g = g refl
      go false false f g = refl

  pub objects : CollectsObjects state (report_of state at reached no_objects dry) (collected state at reached no_objects)
  objects = record {
    blobs = divides (λ (digest : Text). digest) (λ (digest : Text). IsTrue (owns_blob left digest)) (blob_stays left no_objects) state.backends.blobs _
        (λ digest c. (first_of_two (owns_blob left digest), first_holds (owns_blob left digest) false))
        (λ a b in_a in_b e. ap (blob_stays left no_objects) e)
        (plain (blob_stays left no_objects) state.backends.blobs);
    snapshots = divides object_name (λ (snap : BackSnap). IsTrue (owns_snapshot left snap)) stays shards _
        (λ snap c. (only_owner snap, owner_keeps snap))
        (λ a b in_a in_b e. stays_is a ∙ same_owner a b e ∙ sym (stays_is b))
        named_snapshots;
    ingests = divides (λ (number : ℕ). number) (λ (number : ℕ). IsTrue (owns_ingest left number)) (ingest_object_stays left no_objects) state.backends.ingests _
        (λ number c. (first_of_two (owns_ingest left number), first_holds (owns_ingest left number) false))
        (λ a b in_a in_b e. ap (ingest_object_stays left no_objects) e)
        (plain (ingest_object_stays left no_objects) state.backends.ingests);
    none_failed = refl;
  }
    where
      goes : BackSnap → Bool
      goes snap = not (snapshot_object_stays left shards no_objects snap)

      named_snapshots : (name : Text × ℕ) → Contains (report_of state at reached no_objects dry).backend.snapshots name ↔ ((snap : BackSnap) × Contains shards snap × (stays snap ≡ false) × (object_name snap ≡ name))
      named_snapshots name = (
        (λ c.
            let found = from_map object_name _ name c in
            let both = from_filter goes shards found.0 (in_ordered (goes_before shards) (filter goes shards) found.0 found.1) in
            (found.0, both.0, not_true (stays found.0) both.1, found.2)),
        (λ h. subst (Contains (report_of state at reached no_objects dry).backend.snapshots) h.3
            (in_map object_name _ h.0 (ordered_has (goes_before shards) (filter goes shards) h.0 (in_filter goes shards h.0 h.1 (ap not h.2))))),
      )

-- whatever removals failed, a collection of a sound store keeps and names the rows as the
-- definitions say
pub divides_the_rows : ACollectionDividesTheRows
divides_the_rows state at failed report new s c =
    subst (λ (n : State). CollectsRows state at report n) (sym c.state_is)
    (subst (λ (r : Report). CollectsRows state at r (collected state at c.reached failed)) (sym c.report_is) (rows state at failed c.reached false c.tells s))

-- if no removal failed, a collection of a sound store keeps and names the objects so too
pub divides_all : ACollectionDividesAll
divides_all state at report new s c =
    subst (λ (n : State). IsCollected state at false report n) (sym c.state_is)
    (subst (λ (r : Report). IsCollected state at false r (collected state at c.reached no_objects)) (sym c.report_is)
    (record { rows = rows state at no_objects c.reached false c.tells s; objects = objects state at c.reached false; is_dry = refl }))

-- a dry run of a sound store reports what a collection without a failure would do
pub tells_what_a_collection_would : ADryRunTellsWhatACollectionWould
tells_what_a_collection_would state at report s p = (
  collected state at p.reached no_objects,
  subst (λ (r : Report). IsCollected state at true r (collected state at p.reached no_objects)) (sym p.report_is)
      (record { rows = rows state at no_objects p.reached true p.tells s; objects = objects state at p.reached true; is_dry = refl }),
)
