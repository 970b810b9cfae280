-- What rows own stays in the backend, and what none owns goes: the promises on snapshots and on the
-- objects of ingests.
use Rattle.std.proofs.Common.{◌≡◌, ℕ, Bool, true, false, not, List, refl, sym, ap, ◌∙◌, subst, ℤ}
use Rattle.std.specs.Prelude.{filter, bytes_eq, ◌&&◌, ◌==◌}
use Rattle.std.specs.List.{list_any}
use Rattle.std.proofs.lemmas.Bool.{or_left, both_ways}
use Rattle.meta_types.specs.Text.{Text}
use Rattle.meta_types.specs.Rows.{Tables, State, BackSnap}
use Rattle.meta_types.specs.Paths.{Thing}
use Rattle.meta_types.specs.Backends.{BackNames, is_named, object_name, is_ancestor_of_one, goes_before, owns_snapshot, owns_ingest, snapshot_object_stays, ingest_object_stays}
use Rattle.meta_types.specs.Collected.{collected, collected_records}
use Rattle.meta_types.specs.Reports.{Report, Collects, report_of}
use Rattle.meta_types.specs.Promises.{KeepsOwnedObjects, RemovesUnownedObjects}
use Rattle.meta_types.proofs.Members.{in_filter, from_filter}
use Rattle.meta_types.proofs.FilteredNames.{from_map, in_map}
use Rattle.meta_types.proofs.ListSearches.{first_of}
use Rattle.meta_types.proofs.Sorted.{in_ordered, ordered_has}

module _ (state : State) (at : ℤ) (failed : BackNames) (reached : Thing → Bool) where
  abbrev tables : Tables
  tables = (collected_records at reached state.records).tables

  abbrev shards : List BackSnap
  shards = state.backends.snapshots

  abbrev stays : BackSnap → Bool
  stays = snapshot_object_stays tables shards failed

  abbrev goes : BackSnap → Bool
  goes snap = not (stays snap)

  abbrev is_failed : BackSnap → Bool
  is_failed snap = list_any (λ name. is_named name snap) failed.snapshots

  abbrev begun_stays : ℕ → Bool
  begun_stays = ingest_object_stays tables failed

  -- what is owned stays
  owned_stays : (snap : BackSnap) → owns_snapshot tables snap ≡ true → stays snap ≡ true
  owned_stays snap owns = first_of (owns_snapshot tables snap) (is_failed snap) (is_ancestor_of_one shards failed.snapshots snap) owns

  -- the owner of a name is that of each snapshot of the name
  same_owner : (a b : BackSnap) → object_name a ≡ object_name b → owns_snapshot tables a ≡ owns_snapshot tables b
  same_owner a b same = ap (λ (name : Text × ℕ). list_any (λ row. bytes_eq row.key.snapshotter name.0 && row.number == name.1) tables.snapshots) same

  pub keeps : KeepsOwnedObjects state (report_of state at reached failed false) (collected state at reached failed)
  keeps = record {
    snapshots = λ snap c owns. (
      in_filter stays shards snap c (owned_stays snap owns),
      λ gone.
          let named = from_map object_name _ (object_name snap) gone in
          let there = from_filter goes shards named.0 (in_ordered (goes_before shards) (filter goes shards) named.0 named.1) in
          both_ways (stays named.0) (not_true (stays named.0) there.1) (owned_stays named.0 (same_owner named.0 snap named.2 ∙ owns)),
    );
    ingests = λ number c owns.
        let held = or_left (owns_ingest tables number) (list_any (λ other. other == number) failed.ingests) owns in (
          in_filter begun_stays state.backends.ingests number c held,
          λ gone. both_ways (begun_stays number) (not_true (begun_stays number) (from_filter (λ n. not (begun_stays n)) state.backends.ingests number gone).1) held,
        );
  }
    where
      not_true : (b : Bool) → not b ≡ true → b ≡ false
      not_true true h = sym h
      not_true false h = refl

  pub removes : RemovesUnownedObjects state (report_of state at reached failed false) (collected state at reached failed)
  removes = record {
    snapshots = λ snap c free none below.
        let out : stays snap ≡ false = rw (free, none, below) refl in (
          λ left. both_ways (stays snap) out (from_filter stays shards snap left).1,
          in_map object_name _ snap (ordered_has (goes_before shards) (filter goes shards) snap (in_filter goes shards snap c (ap not out))),
        );
    ingests = λ number c free none.
        let out : begun_stays number ≡ false = rw (free, none) refl in (
          λ left. both_ways (begun_stays number) out (from_filter begun_stays state.backends.ingests number left).1,
          in_filter (λ n. not (begun_stays n)) state.backends.ingests number c (ap not out),
        );
  }

-- a collection keeps each backend snapshot and ingest's object that a remaining row owns, and
-- doesn't report it as removed
pub owned_objects_stay : (state : State) (at : ℤ) (failed : BackNames) (report : Report) (new : State) → Collects state at failed report new → KeepsOwnedObjects state report new
owned_objects_stay state at failed report new c =
    subst (λ (n : State). KeepsOwnedObjects state report n) (sym c.state_is)
    (subst (λ (r : Report). KeepsOwnedObjects state r (collected state at c.reached failed)) (sym c.report_is) (keeps state at failed c.reached))

-- a collection removes and reports those that no remaining row owns, but for failed removals and
-- what is above them
pub unowned_objects_go : (state : State) (at : ℤ) (failed : BackNames) (report : Report) (new : State) → Collects state at failed report new → RemovesUnownedObjects state report new
unowned_objects_go state at failed report new c =
    subst (λ (n : State). RemovesUnownedObjects state report n) (sym c.state_is)
    (subst (λ (r : Report). RemovesUnownedObjects state r (collected state at c.reached failed)) (sym c.report_is) (removes state at failed c.reached))
