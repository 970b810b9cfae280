-- A collection keeps what is reached and removes what isn't.
use Rattle.std.proofs.Common.{◌≡◌, Bool, true, false, not, [], ◌∷◌, refl, sym, ap, subst, ℤ}
use Rattle.std.specs.Prelude.{Contains, bytes_eq}
use Rattle.std.specs.List.{list_any}
use Rattle.std.proofs.lemmas.Bool.{or_left, or_right, both_ways, false_from_ne_true}
use Rattle.meta_types.specs.Text.{Text}
use Rattle.meta_types.specs.Rows.{Records, State, content_key, ingest_key, snap_key}
use Rattle.meta_types.specs.Paths.{Thing, ingest, content, snapshot, things, IsReached, TellsReached}
use Rattle.meta_types.specs.Backends.{BackNames, owns_blob, blob_stays}
use Rattle.meta_types.specs.Collected.{content_stays, snapshot_stays, ingest_stays, collected, collected_records}
use Rattle.meta_types.specs.Reports.{Report, Collects, report_of}
use Rattle.meta_types.specs.Sound.{IsSound}
use Rattle.meta_types.specs.Promises.{KeepsWhatIsReached, RemovesWhatIsNotReached}
use Rattle.meta_types.specs.declared.rows.ContentRow.{ContentRow}
use Rattle.meta_types.specs.declared.rows.IngestRow.{IngestRow}
use Rattle.meta_types.specs.declared.rows.SnapRow.{SnapRow}
use Rattle.meta_types.specs.declared.resource.Mode.{Mode}
use Rattle.meta_types.specs.declared.resource.Mode.TheVariants.{Full, Flat}
use Rattle.meta_types.proofs.Members.{in_filter, from_filter}
use Rattle.meta_types.proofs.Once.{ingest_in, full_in, flat_in, full_snap_in, flat_snap_in}
use Rattle.meta_types.proofs.FilteredNames.{not_named, gone_and_named}

-- ---- names are keys

-- the name of a content row in a report
abbrev pub content_name : ContentRow → Text × Text
content_name row = (row.ns, row.digest)

-- the name of an ingest in a report
abbrev pub ingest_name : IngestRow → Text × Text
ingest_name row = (row.ns, row.name)

-- the name of a snapshot in a report
abbrev pub snapshot_name : SnapRow → Text × Text × Text
snapshot_name row = (row.key.ns, row.key.snapshotter, row.key.name)

-- content rows with one name have one key
pub content_names : (a b : ContentRow) → content_name a ≡ content_name b → content_key a ≡ content_key b
content_names a b e = ap (λ (n : Text × Text). n.0 ∷ n.1 ∷ []) e

-- ingests with one name have one key
pub ingest_names : (a b : IngestRow) → ingest_name a ≡ ingest_name b → ingest_key a ≡ ingest_key b
ingest_names a b e = ap (λ (n : Text × Text). n.0 ∷ n.1 ∷ []) e

-- snapshots with one name have one key
pub snapshot_names : (a b : SnapRow) → snapshot_name a ≡ snapshot_name b → snap_key a ≡ snap_key b
snapshot_names a b e = ap (λ (n : Text × Text × Text). n.0 ∷ n.1 ∷ n.2 ∷ []) e

-- ---- the test tells

module _ (records : Records) (at : ℤ) (reached : Thing → Bool) (tells : TellsReached records at reached) where
  -- a row that a path leads to stays
  pub reached_content : (mode : Mode) (row : ContentRow) → Contains records.tables.content row → IsReached records at (content mode row) → content_stays reached row ≡ true
  reached_content Full row c r = or_left (reached (content Full row)) (reached (content Flat row)) ((tells.each (content Full row) (full_in records row c)).1 r)
  reached_content Flat row c r = or_right (reached (content Full row)) (reached (content Flat row)) ((tells.each (content Flat row) (flat_in records row c)).1 r)

  -- a snapshot that a path leads to, in either mode, stays
  pub reached_snapshot : (mode : Mode) (row : SnapRow) → Contains records.tables.snapshots row → IsReached records at (snapshot mode row) → snapshot_stays reached row ≡ true
  reached_snapshot Full row c r = or_left (reached (snapshot Full row)) (reached (snapshot Flat row)) ((tells.each (snapshot Full row) (full_snap_in records row c)).1 r)
  reached_snapshot Flat row c r = or_right (reached (snapshot Full row)) (reached (snapshot Flat row)) ((tells.each (snapshot Flat row) (flat_snap_in records row c)).1 r)

  -- a row that no path leads to doesn't
  pub not_told : (thing : Thing) → Contains (things records) thing → (IsReached records at thing → ⊥) → reached thing ≡ false
  not_told thing c none = false_from_ne_true (reached thing) (λ yes. none ((tells.each thing c).0 yes))

  -- content that no path leads to, in either mode, doesn't stay
  pub unreached_content : (row : ContentRow) → Contains records.tables.content row → ((mode : Mode) → IsReached records at (content mode row) → ⊥) → content_stays reached row ≡ false
  unreached_content row c none = rw (not_told (content Full row) (full_in records row c) (none Full), not_told (content Flat row) (flat_in records row c) (none Flat)) refl

  -- a snapshot that no path leads to, in either mode, doesn't stay
  pub unreached_snapshot : (row : SnapRow) → Contains records.tables.snapshots row → ((mode : Mode) → IsReached records at (snapshot mode row) → ⊥) → snapshot_stays reached row ≡ false
  unreached_snapshot row c none = rw (not_told (snapshot Full row) (full_snap_in records row c) (none Full), not_told (snapshot Flat row) (flat_snap_in records row c) (none Flat)) refl

-- ---- the two promises, of the store and the report that the definition computes

module _ (state : State) (at : ℤ) (failed : BackNames) (reached : Thing → Bool) (tells : TellsReached state.records at reached) where
  keeps : IsSound state → KeepsWhatIsReached state at (report_of state at reached failed false) (collected state at reached failed)
  keeps s = record {
    content_rows = λ mode row c r.
        let stays = reached_content state.records at reached tells mode row c r in (
          in_filter (content_stays reached) state.records.tables.content row c stays,
          not_named content_key content_name content_names (content_stays reached) state.records.tables.content s.tables.content.in_order row c stays,
        );
    snapshot_rows = λ mode row c r.
        let stays = reached_snapshot state.records at reached tells mode row c r in (
          in_filter (snapshot_stays reached) state.records.tables.snapshots row c stays,
          not_named snap_key snapshot_name snapshot_names (snapshot_stays reached) state.records.tables.snapshots s.tables.snapshots.in_order row c stays,
        );
    ingest_rows = λ row c r.
        let stays = (tells.each (ingest row) (ingest_in state.records row c)).1 r in (
          in_filter (ingest_stays reached) state.records.tables.ingests row c stays,
          not_named ingest_key ingest_name ingest_names (ingest_stays reached) state.records.tables.ingests s.tables.ingests.in_order row c stays,
        );
    blobs = λ digest c owned.
        let left = (collected_records at reached state.records).tables in
        let stays = or_left (owns_blob left digest) (list_any (bytes_eq digest) failed.blobs) owned in (
          in_filter (blob_stays left failed) state.backends.blobs digest c stays,
          λ gone. both_ways (not (blob_stays left failed digest)) (ap not stays) (from_filter (λ d. not (blob_stays left failed d)) state.backends.blobs digest gone).1,
        );
  }

  removes : RemovesWhatIsNotReached state at (report_of state at reached failed false) (collected state at reached failed)
  removes = record {
    content_rows = λ row c none. gone_and_named content_key content_name content_names (content_stays reached) state.records.tables.content row c (unreached_content state.records at reached tells row c none);
    snapshot_rows = λ row c none. gone_and_named snap_key snapshot_name snapshot_names (snapshot_stays reached) state.records.tables.snapshots row c (unreached_snapshot state.records at reached tells row c none);
    ingest_rows = λ row c none. gone_and_named ingest_key ingest_name ingest_names (ingest_stays reached) state.records.tables.ingests row c (not_told state.records at reached tells (ingest row) (ingest_in state.records row c) none);
    blobs = λ digest c free none.
        let left = (collected_records at reached state.records).tables in
        let goes : blob_stays left failed digest ≡ false = rw (free, none) refl in (
          (λ stayed. both_ways (blob_stays left failed digest) goes (from_filter (blob_stays left failed) state.backends.blobs digest stayed).1),
          in_filter (λ d. not (blob_stays left failed d)) state.backends.blobs digest c (ap not goes),
        );
  }

-- a collection of a sound store keeps each row that a path leads to, and each blob that remaining
-- content owns
pub keeps_what_is_reached : (state : State) (at : ℤ) (failed : BackNames) (report : Report) (new : State) → IsSound state → Collects state at failed report new → KeepsWhatIsReached state at report new
keeps_what_is_reached state at failed report new s c =
    subst (λ (n : State). KeepsWhatIsReached state at report n) (sym c.state_is)
    (subst (λ (r : Report). KeepsWhatIsReached state at r (collected state at c.reached failed)) (sym c.report_is) (keeps state at failed c.reached c.tells s))

-- a collection removes each row that no path leads to, and each blob that no remaining content
-- owns, unless its removal failed
pub removes_what_is_not_reached : (state : State) (at : ℤ) (failed : BackNames) (report : Report) (new : State) → Collects state at failed report new → RemovesWhatIsNotReached state at report new
removes_what_is_not_reached state at failed report new c =
    subst (λ (n : State). RemovesWhatIsNotReached state at report n) (sym c.state_is)
    (subst (λ (r : Report). RemovesWhatIsNotReached state at r (collected state at c.reached failed)) (sym c.report_is) (removes state at failed c.reached c.tells))
