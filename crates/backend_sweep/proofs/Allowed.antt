-- What the plan of a sound store names may be swept.
use Rattle.std.proofs.Common.{◌≡◌, ℕ, ◌<◌, Bool, true, false, not, sym, ap, ◌∙◌, subst, refl, ℤ, length}
use Rattle.std.specs.Prelude.{Contains, Option, IfSome, IsTrue, filter, bytes_eq, ◌==◌}
use Rattle.std.specs.List.{list_any}
use Rattle.std.proofs.lemmas.Bool.{and_parts, both_ways}
use Rattle.std.proofs.lemmas.Bool.Decides.{Decides-eqb}
use Rattle.std.proofs.lemmas.Slice.Eq.{bytes_eq-Decides}
use Rattle.std.proofs.lemmas.List.Elements.{All-contains}
use Rattle.meta_types.specs.Text.{Text}
use Rattle.meta_types.specs.Rows.{Records, BackLists, State, BackSnap}
use Rattle.meta_types.specs.Backends.{no_objects, is_named, owns_snapshot, snapshot_object_stays, is_ancestor_of_one}
use Rattle.meta_types.specs.Collected.{collected_records}
use Rattle.meta_types.specs.Sound.{IsSound}
use Rattle.meta_types.proofs.Members.{from_filter, found_by_any}
use Rattle.meta_types.proofs.ListSearches.{first_of}
use Rattle.meta_types.proofs.Falling.{one_object}
use Rattle.meta_types.proofs.ObjectsAfter.{back_parent_left}
use Rattle.table_sweep.specs.declared.planning.Plan.{Plan}
use Rattle.backend_sweep.specs.Shards.{IsAbove}
use Rattle.backend_sweep.specs.Backed.{MaySweep}
use Rattle.backend_sweep.specs.Planned.{IsPlanOf, IsPlanned}
use Rattle.backend_sweep.proofs.SweptBackends.{goes_by_is}

module _ (state : State) (at : ℤ) (plan : Plan) (p : IsPlanOf state.records (length state.records.tables.namespaces) state.backends at plan) (s : IsSound state) where
  -- the records that are left
  abbrev left : Records
  left = collected_records at p.reached state.records

  -- of what stays without failures, some row owns each
  owned : (above : BackSnap) → snapshot_object_stays left.tables state.backends.snapshots no_objects above ≡ true → owns_snapshot left.tables above ≡ true
  owned above h = owns (owns_snapshot left.tables above) (goes_by_is left.tables state.backends.snapshots above) h
    where
      owns : (own : Bool) → not (snapshot_object_stays left.tables state.backends.snapshots no_objects above) ≡ not own → snapshot_object_stays left.tables state.backends.snapshots no_objects above ≡ true → own ≡ true
      owns true e h = refl
      owns false e h = absurd (both_ways (not (snapshot_object_stays left.tables state.backends.snapshots no_objects above)) (ap not h) e)

  -- what the tables that are left own has an owned parent
  owned_above : (snap above : BackSnap) → Contains state.backends.snapshots snap → Contains state.backends.snapshots above → IsAbove above snap → owns_snapshot left.tables snap ≡ true → owns_snapshot left.tables above ≡ true
  owned_above snap above cs ca up own =
      let all = state.backends.snapshots in
      let stays : BackSnap → Bool = snapshot_object_stays left.tables all no_objects in
      let here : stays snap ≡ true = first_of (owns_snapshot left.tables snap) (list_any (λ (name : Text × ℕ). is_named name snap) no_objects.snapshots) (is_ancestor_of_one all no_objects.snapshots snap) own in
      let found = subst (λ (o : Option ℕ). IfSome o (λ number. IsTrue (list_any (is_named (snap.snapshotter, number)) (filter stays all)) × (number < snap.number))) up.1
      (back_parent_left state at no_objects p.reached p.tells s snap cs here) in
      let one = found_by_any (is_named (snap.snapshotter, above.number)) (filter stays all) found.0 in
      let both = from_filter stays all one.0 one.1 in
      let names = and_parts (bytes_eq one.0.snapshotter snap.snapshotter) (one.0.number == above.number) one.2 in
      let same : one.0 ≡ above = one_object all s.backed.objects_in_order one.0 above both.0 ca ((bytes_eq-Decides one.0.snapshotter snap.snapshotter).0 names.0 ∙ sym up.0) ((Decides-eqb one.0.number above.number).0 names.1) in
      owned above (ap stays (sym same) ∙ both.1)

  falls_above : (snap above : BackSnap) → Contains state.backends.snapshots snap → Contains state.backends.snapshots above → IsAbove above snap → above.number < snap.number
  falls_above snap above cs ca up =
      (subst (λ (o : Option ℕ). IfSome o (λ number. IsTrue (list_any (is_named (snap.snapshotter, number)) state.backends.snapshots) × (number < snap.number))) up.1
      (All-contains (λ (one : BackSnap). IfSome one.parent (λ number. IsTrue (list_any (is_named (one.snapshotter, number)) state.backends.snapshots) × (number < one.number))) state.backends.snapshots snap s.backed.back_parents cs)).1

  by_state : MaySweep state.backends plan.report.backend
  by_state = record {
    tables = left.tables;
    are = ap (λ report. report.backend) p.report_is;
    closed = owned_above;
    falls = falls_above;
    ordered = s.backed.objects_in_order;
    blobs_ordered = s.stored.in_order;
    ingests_ordered = s.backed.begun_in_order;
  }

-- the plan's names may be swept
pub may_sweep : (back : BackLists) (plan : Plan) → IsPlanned back plan
    → MaySweep back plan.report.backend
may_sweep back plan p = subst (λ (b : BackLists). MaySweep b plan.report.backend) p.held (by_state p.state p.at plan p.plan_is p.sound)
