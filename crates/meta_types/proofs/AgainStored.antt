-- A second collection changes nothing: neither rows nor backend objects.
use Rattle.std.proofs.Common.{◌≡◌, Bool, true, false, not, List, [], refl, sym, ap, ◌∙◌, subst, ℤ}
use Rattle.std.specs.Prelude.{filter, map, bytes_eq, ◌||◌, ◌&&◌, ◌==◌}
use Rattle.std.specs.List.{list_any}
use Rattle.std.proofs.lemmas.List.Elements.{filter_agree}
use Rattle.meta_types.specs.Keys.{in_order}
use Rattle.meta_types.specs.Rows.{State, Tables, BackLists, BackSnap}
use Rattle.meta_types.specs.Paths.{Thing, TellsReached}
use Rattle.meta_types.specs.Backends.{BackNames, no_objects, owns_snapshot, is_named, object_name, ancestors_of, is_ancestor_of_one, blob_stays, ingest_object_stays, snapshot_object_stays, collected_backends, removed_objects, goes_before}
use Rattle.meta_types.specs.Collected.{collected_records, collected}
use Rattle.meta_types.specs.Reports.{Report, Collects, report_of, kept_of}
use Rattle.meta_types.specs.Promises.{ChangesNothing}
use Rattle.meta_types.proofs.NoFailure.{no_failure}
use Rattle.meta_types.proofs.Once.{same_records, one_state, one_report}
use Rattle.meta_types.proofs.Filtered.{none_passes, filter_again, none_goes}
use Rattle.meta_types.proofs.Again.{tells_left, again, no_row_is_gone}

-- ---- backend objects

-- without failures a snapshot's object stays where it is owned
unfailed : (tables : Tables) (shards : List BackSnap) (snap : BackSnap) → snapshot_object_stays tables shards no_objects snap ≡ owns_snapshot tables snap
unfailed tables shards snap = go (owns_snapshot tables snap) (is_ancestor_of_one shards [] snap) (none_passes (λ one. list_any (λ name. is_named name one) [] && list_any (is_named (object_name snap)) (ancestors_of shards one)) (λ one. refl) shards)
  where
    go : (b x : Bool) → x ≡ false → (b || false || x) ≡ b
    go true x e = refl
    go false x e = e

module _ (tables : Tables) (back : BackLists) where
  abbrev left : BackLists
  left = collected_backends tables no_objects back

  abbrev stays : BackSnap → Bool
  stays = snapshot_object_stays tables back.snapshots no_objects

  -- so the test is the same where fewer snapshots are there
  same_test : (snap : BackSnap) → snapshot_object_stays tables left.snapshots no_objects snap ≡ stays snap
  same_test snap = unfailed tables left.snapshots snap ∙ sym (unfailed tables back.snapshots snap)

  -- the objects that stay stay again
  objects_again : collected_backends tables no_objects left ≡ left
  objects_again = λ i. record {
    blobs = filter_again (blob_stays tables no_objects) back.blobs i;
    snapshots = (filter_agree (snapshot_object_stays tables left.snapshots no_objects) stays same_test left.snapshots ∙ filter_again stays back.snapshots) i;
    ingests = filter_again (ingest_object_stays tables no_objects) back.ingests i;
  }

  -- and none goes
  gone : filter (λ snap. not (snapshot_object_stays tables left.snapshots no_objects snap)) left.snapshots ≡ []
  gone = filter_agree (λ snap. not (snapshot_object_stays tables left.snapshots no_objects snap)) (λ snap. not (stays snap)) (λ snap. ap not (same_test snap)) left.snapshots ∙ none_goes stays back.snapshots

  no_object_is_gone : removed_objects tables no_objects left ≡ no_objects
  no_object_is_gone = λ i. record {
    blobs = none_goes (blob_stays tables no_objects) back.blobs i;
    ingests = none_goes (ingest_object_stays tables no_objects) back.ingests i;
    snapshots = map object_name (in_order (goes_before left.snapshots) (gone i));
  }

-- ---- the second collection

module _ (state : State) (at : ℤ) (reached : Thing → Bool) (tells : TellsReached state.records at reached) where
  abbrev mid : State
  mid = collected state at reached no_objects

  -- the second collection with the test of the first
  pub second : Collects mid at no_objects (report_of mid at reached no_objects false) (collected mid at reached no_objects)
  second = record {
    reached = reached;
    tells = tells_left state.records at reached tells;
    may_fail = no_failure (collected_records at reached mid.records).tables mid.backends;
    state_is = refl;
    report_is = refl;
  }

  -- member by member
  pub nothing_changes : ChangesNothing (report_of state at reached no_objects false) (report_of mid at reached no_objects false) mid (collected mid at reached no_objects)
  nothing_changes =
      let same = again state.records at reached in
      record {
        same_store = (λ i. record { records = same i; backends = collected_backends (same i).tables no_objects mid.backends })
            ∙ (λ i. record { records = mid.records; backends = objects_again mid.records.tables state.backends i });
        no_row_goes = no_row_is_gone state.records at reached;
        no_object_goes = (λ i. removed_objects (same i).tables no_objects mid.backends) ∙ no_object_is_gone mid.records.tables state.backends;
        same_kept = ap kept_of same;
      }

  -- nothing goes in it, so nothing can fail to
  pub none_fails : (failed : BackNames) (s : Report) (new : State) → Collects mid at failed s new → failed ≡ no_objects
  none_fails failed s new d =
      let same = same_records mid.records at d.reached reached d.tells (tells_left state.records at reached tells) ∙ again state.records at reached in
      let none : removed_objects (collected_records at d.reached mid.records).tables no_objects mid.backends ≡ no_objects =
      (λ i. removed_objects (same i).tables no_objects mid.backends) ∙ no_object_is_gone mid.records.tables state.backends in
      let blobs = d.may_fail.blobs ∙ ap (λ (n : BackNames). filter (λ digest. list_any (bytes_eq digest) failed.blobs) n.blobs) none in
      let ingests = d.may_fail.ingests ∙ ap (λ (n : BackNames). filter (λ number. list_any (λ other. other == number) failed.ingests) n.ingests) none in
      let snapshots = d.may_fail.snapshots ∙ ap (λ (n : BackNames). filter (λ name. list_any (λ other. bytes_eq other.0 name.0 && other.1 == name.1) failed.snapshots) n.snapshots) none in
      λ i. record { blobs = blobs i; ingests = ingests i; snapshots = snapshots i }

-- what the second collection gives and leaves is what one with the test of the first does
pub a_second_collection_changes_nothing : (state : State) (at : ℤ) (failed : BackNames) (r s : Report) (middle new : State) → Collects state at no_objects r middle → Collects middle at failed s new → ChangesNothing r s middle new
a_second_collection_changes_nothing state at failed r s middle new c d =
    let left : State = collected state at c.reached no_objects in
    let moved : Collects left at failed s new = subst (λ (m : State). Collects m at failed s new) c.state_is d in
    let again : Collects left at no_objects s new = subst (λ (f : BackNames). Collects left at f s new) (none_fails state at c.reached c.tells failed s new moved) moved in
    let two = second state at c.reached c.tells in
    let same_new = one_state left at no_objects s (report_of left at c.reached no_objects false) new (collected left at c.reached no_objects) again two in
    let same_report = one_report left at no_objects s (report_of left at c.reached no_objects false) new (collected left at c.reached no_objects) again two in
    let none = nothing_changes state at c.reached c.tells in
    record {
      same_store = same_new ∙ none.same_store ∙ sym c.state_is;
      no_row_goes = ap (λ (t : Report). t.removed) same_report ∙ none.no_row_goes;
      no_object_goes = ap (λ (t : Report). t.backend) same_report ∙ none.no_object_goes;
      same_kept = ap (λ (t : Report). t.kept) same_report ∙ none.same_kept ∙ sym (ap (λ (t : Report). t.kept) c.report_is);
    }
