-- Where no fault refuses a line whose lease is to hold what it names, that is there, and held. None
-- of it speaks of code.
use Rattle.std.proofs.Common.{◌≡◌, ◌∙◌, Bool, true, false, not, List, [], ◌∷◌, Option, Some, None, refl, sym, ap, subst, inl, inr}
use Rattle.std.specs.Prelude.{is_some, is_none, bytes_eq, ◌||◌, ◌&&◌}
use Rattle.std.specs.Option.{option_map_or}
use Rattle.std.proofs.lemmas.Bool.{cases_Bool, and_parts, or_parts, not-false, both_ways}
use Rattle.std.proofs.lemmas.Slice.Eq.{bytes_eq-Decides}
use Rattle.meta_types.specs.Text.{Text, is_name, is_short_name}
use Rattle.meta_types.specs.Keys.{is_key, row_at, has_row, remove_row}
use Rattle.meta_types.specs.Labels.{LabelList, labels_of}
use Rattle.meta_types.specs.Data.{data_of}
use Rattle.meta_types.specs.Resources.{resource_key, type_of, id_of, resource_of}
use Rattle.meta_types.specs.Rows.{State, LeaseRow, content_key, ingest_key, snap_key, lease_key}
use Rattle.meta_types.specs.Changes.{all_of, has_namespace, has_lease, lease_holds, hold_in_lease, hold_under, release_under, with_leases}
use Rattle.meta_types.specs.Faults.{least_of}
use Rattle.meta_types.specs.Ops.{Outcome, lacks, least_fault}
use Rattle.meta_types.specs.Ops.Snapshots.{committed, new_snap_findings, prepares}
use Rattle.meta_types.specs.Requests.{outcome}
use Rattle.meta_types.specs.Steps.{after}
use Rattle.meta_types.specs.Shown.{ToHold, held_by, hold_of, is_there, holds_there, object_to_hold, request_done, takes_words, words_fault}
use Rattle.meta_types.specs.Holdings.{has_resource, IsHeld}
use Rattle.meta_types.specs.declared.rows.SnapRow.{SnapRow}
use Rattle.meta_types.specs.declared.rows.SnapKind.{SnapKind}
use Rattle.meta_types.specs.declared.rows.SnapKind.TheVariants.{Active, View, Committed}
use Rattle.meta_types.specs.declared.resource.Resource.{Resource}
use Rattle.meta_types.specs.declared.resource.Resource.TheVariants.{Content, Snapshot, Ingest}
use Rattle.meta_types.specs.declared.request.ContentAdd.{ContentAdd}
use Rattle.meta_types.specs.declared.request.IngestCommit.{IngestCommit}
use Rattle.meta_types.specs.declared.request.SnapAdd.{SnapAdd}
use Rattle.meta_types.specs.declared.request.SnapCommit.{SnapCommit}
use Rattle.meta_types.specs.declared.request.Request.{Request}
use Rattle.meta_types.specs.declared.request.Request.TheVariants as Q
use Rattle.meta_types.proofs.ListSearches.{some_is, no_none}
use Rattle.request_core.proofs.HeldThere.{added_there, said_again, holds_given, holds_still}
use Rattle.request_core.proofs.ListsSound.{fine, none_applies}

-- ---- the object and its lease

module _ (state : State) (object : ToHold) where
  -- an object that is named is of this namespace, and is this
  pub is_of : (ns : Text) (lease : Option Text) (resource : Resource)
      → held_by ns lease resource ≡ Some object
      → (object.ns ≡ ns) × (object.resource ≡ resource)
  is_of ns None resource is = no_none object is
  is_of ns (Some id) resource is =
      let one : record { ns = ns; lease = id; resource = resource } ≡ object =
      some_is (record { ns = ns; lease = id; resource = resource }) object is in (
        ap (λ (o : ToHold). o.ns) (sym one),
        ap (λ (o : ToHold). o.resource) (sym one),
      )

  -- the lease that is named is there, so it holds what it is given
  held_after : (ns : Text) (lease : Option Text) (resource : Resource)
      → held_by ns lease resource ≡ Some object → lacks state ns lease ≡ false
      → lease_holds (object.ns ∷ object.lease ∷ []) object.resource
      (hold_under ns lease resource state.records.leases)
      ≡ true
  held_after ns None resource is there = no_none object is
  held_after ns (Some id) resource is there =
      subst (λ (o : ToHold). lease_holds (o.ns ∷ o.lease ∷ []) o.resource
      (hold_under ns (Some id) resource state.records.leases) ≡ true)
      (some_is (record { ns = ns; lease = id; resource = resource }) object is)
      (holds_given (ns ∷ id ∷ []) resource state.records.leases
      (not-false (has_lease state ns id)
      (or_parts (not (has_namespace state.records.tables ns)) (not (has_lease state ns id))
      there).1))

  -- it holds it still where another lease, if one is named, drops something else
  still : (ns : Text) (dropped_by : Option Text) (gone : Resource)
      → is_key (resource_key object.resource) (resource_key gone) ≡ false
      → (leases : List LeaseRow)
      → lease_holds (object.ns ∷ object.lease ∷ []) object.resource leases ≡ true
      → lease_holds (object.ns ∷ object.lease ∷ []) object.resource
      (release_under ns dropped_by gone leases)
      ≡ true
  still ns None gone apart leases h = h
  still ns (Some other) gone apart leases h =
      holds_still (object.ns ∷ object.lease ∷ []) object.resource (ns ∷ other ∷ []) gone apart
      leases h

  -- ---- what each request makes

  content_made : (asked : ContentAdd) → object_to_hold (Q.ContentAdd asked) ≡ Some object
      → least_fault (outcome state (Q.ContentAdd asked)) ≡ None
      → IsHeld (outcome state (Q.ContentAdd asked)).after object
  content_made asked is none =
      let free = none_applies (outcome state (Q.ContentAdd asked)) none in
      let digest = asked.content.digest in
      let of = is_of asked.content.ns asked.lease (Content digest) is in
      record {
        there = rw (of.0, of.1) (added_there content_key (record {
          ns = asked.content.ns;
          digest = digest;
          labels = labels_of asked.labels;
          extra = data_of asked.extra;
        }) state.records.tables.content);
        held = held_after asked.content.ns asked.lease (Content digest) is free.1;
      }

  ingest_made : (asked : IngestCommit) → object_to_hold (Q.IngestCommit asked) ≡ Some object
      → least_fault (outcome state (Q.IngestCommit asked)) ≡ None
      → IsHeld (outcome state (Q.IngestCommit asked)).after object
  ingest_made asked is none =
      let free = none_applies (outcome state (Q.IngestCommit asked)) none in
      let ns = asked.ingest.ns in
      let of = is_of ns asked.lease (Content asked.digest) is in
      let key = ns ∷ asked.ingest.name ∷ [] in
      let there = or_parts (lacks state ns asked.lease)
      (is_none (row_at ingest_key key state.records.tables.ingests)) free.1 in
      record {
        there = rw (of.0, of.1) (added_there content_key (record {
          ns = ns;
          digest = asked.digest;
          labels = labels_of asked.labels;
          extra = data_of asked.extra;
        }) state.records.tables.content);
        held = still ns asked.dropped_by (Ingest asked.ingest.name) (rw of.1 refl)
            (hold_under ns asked.lease (Content asked.digest) state.records.leases)
            (held_after ns asked.lease (Content asked.digest) is there.0);
      }

  snapshot_made : (kind : SnapKind) (asked : SnapAdd)
      → object_to_hold (Q.SnapPrepare asked) ≡ Some object
      → least_fault (prepares state kind asked) ≡ None
      → IsHeld (prepares state kind asked).after object
  snapshot_made kind asked is none =
      let free = none_applies (prepares state kind asked) none in
      let snap = asked.snapshot in
      let resource = Snapshot snap.snapshotter snap.name in
      let of = is_of snap.ns asked.lease resource is in
      let found = new_snap_findings snap.ns snap.snapshotter snap.name asked.parent
      state.records.tables.snapshots in
      let there = or_parts (lacks state snap.ns asked.lease) found.missing free.1 in
      record {
        there = rw (of.0, of.1) (added_there snap_key (record {
          key = record { ns = snap.ns; snapshotter = snap.snapshotter; name = snap.name };
          kind = kind;
          parent = asked.parent;
          number = state.records.next;
          labels = labels_of asked.labels;
          extra = data_of asked.extra;
        }) state.records.tables.snapshots);
        held = held_after snap.ns asked.lease resource is there.0;
      }

  commit_made : (asked : SnapCommit) → object_to_hold (Q.SnapCommit asked) ≡ Some object
      → least_fault (outcome state (Q.SnapCommit asked)) ≡ None
      → IsHeld (outcome state (Q.SnapCommit asked)).after object
  commit_made asked is none =
      let free = none_applies (outcome state (Q.SnapCommit asked)) none in
      let snap = asked.snapshot in
      let resource = Snapshot snap.snapshotter asked.name in
      let of = is_of snap.ns asked.lease resource is in
      let rows = state.records.tables.snapshots in
      let found = row_at snap_key (snap.ns ∷ snap.snapshotter ∷ snap.name ∷ []) rows in
      let there = or_parts (lacks state snap.ns asked.lease) (is_none found) free.1 in
      let row = row_of found there.1 in
      record {
        there = rw (of.0, of.1) (is_committed_there snap.ns snap.snapshotter snap.name asked.name
            (labels_of asked.labels) (data_of asked.extra) rows row.0 row.1);
        held = still snap.ns asked.dropped_by (Snapshot snap.snapshotter snap.name)
            (rw of.1 (apart snap.ns snap.snapshotter asked.name snap.name rows free.2 row.0 row.1))
            (hold_under snap.ns asked.lease resource state.records.leases)
            (held_after snap.ns asked.lease resource is there.0);
      }
    where
      row_of : (o : Option SnapRow) → is_none o ≡ false → (row : SnapRow) × (o ≡ Some row)
      row_of None h = absurd cc
      row_of (Some row) h = (row, refl)

      is_committed_there : (ns snapshotter key name : Text) (labels : LabelList) (extra : Text)
          (rows : List SnapRow) (row : SnapRow)
          → row_at snap_key (ns ∷ snapshotter ∷ key ∷ []) rows ≡ Some row
          → has_row snap_key (ns ∷ snapshotter ∷ name ∷ [])
          (committed ns snapshotter key name labels extra rows)
          ≡ true
      is_committed_there ns snapshotter key name labels extra rows row found =
          rw found (added_there snap_key (record row {
            key = record { ns = ns; snapshotter = snapshotter; name = name };
            kind = Committed;
            labels = labels;
            extra = extra;
          }) (remove_row snap_key (ns ∷ snapshotter ∷ key ∷ []) rows))

      apart : (ns snapshotter name key : Text) (rows : List SnapRow)
          → has_row snap_key (ns ∷ snapshotter ∷ name ∷ []) rows ≡ false → (row : SnapRow)
          → row_at snap_key (ns ∷ snapshotter ∷ key ∷ []) rows ≡ Some row
          → is_key (resource_key (Snapshot snapshotter name))
          (resource_key (Snapshot snapshotter key))
          ≡ false
      apart ns snapshotter name key rows free row found = elim (cases_Bool (bytes_eq name key)) [
        | inl t ↦ absurd (both_ways (has_row snap_key (ns ∷ snapshotter ∷ name ∷ []) rows) free
            (ap (λ text. has_row snap_key (ns ∷ snapshotter ∷ text ∷ []) rows)
            ((bytes_eq-Decides name key).0 t)
            ∙ ap is_some found))
        | inr f ↦ (
            let itself : bytes_eq snapshotter snapshotter ≡ true =
            (bytes_eq-Decides snapshotter snapshotter).1 refl in
            rw (itself, f) refl)
      ]

  -- of the five requests that may name a lease
  made : (request : Request) → object_to_hold request ≡ Some object
      → least_fault (outcome state request) ≡ None → IsHeld (outcome state request).after object
  made (Q.ContentAdd asked) is none = content_made asked is none
  made (Q.IngestCommit asked) is none = ingest_made asked is none
  made (Q.SnapPrepare asked) is none = snapshot_made Active asked is none
  made (Q.SnapView asked) is none = snapshot_made View asked is none
  made (Q.SnapCommit asked) is none = commit_made asked is none
  made (Q.NsAdd ns) is none = no_none object is
  made (Q.NsRemove ns) is none = no_none object is
  made Q.NsList is none = no_none object is
  made (Q.ImageAdd a) is none = no_none object is
  made (Q.ImageTarget a) is none = no_none object is
  made (Q.ImageSet a) is none = no_none object is
  made (Q.ImageRemove a) is none = no_none object is
  made (Q.ImageGet a) is none = no_none object is
  made (Q.ImageList a) is none = no_none object is
  made (Q.ImageLabel a b) is none = no_none object is
  made (Q.ContainerAdd a) is none = no_none object is
  made (Q.ContainerSet a) is none = no_none object is
  made (Q.ContainerRemove a) is none = no_none object is
  made (Q.ContainerGet a) is none = no_none object is
  made (Q.ContainerList a) is none = no_none object is
  made (Q.ContainerLabel a b) is none = no_none object is
  made (Q.ContentSet a b) is none = no_none object is
  made (Q.ContentRemove a b) is none = no_none object is
  made (Q.ContentGet a) is none = no_none object is
  made (Q.ContentLabel a b) is none = no_none object is
  made (Q.ContentList a) is none = no_none object is
  made (Q.IngestBegin a) is none = no_none object is
  made (Q.IngestOpen a) is none = no_none object is
  made (Q.IngestAbort a b) is none = no_none object is
  made (Q.IngestGet a) is none = no_none object is
  made (Q.IngestList a) is none = no_none object is
  made (Q.SnapSet a b) is none = no_none object is
  made (Q.SnapRemove a b) is none = no_none object is
  made (Q.SnapGet a) is none = no_none object is
  made (Q.SnapLabel a b) is none = no_none object is
  made (Q.SnapList a b) is none = no_none object is
  made (Q.SnapSnapshotters a) is none = no_none object is
  made (Q.LeaseAdd a) is none = no_none object is
  made (Q.LeaseSet a b) is none = no_none object is
  made (Q.LeaseRemove a) is none = no_none object is
  made (Q.LeaseGet a) is none = no_none object is
  made (Q.LeaseLabel a b) is none = no_none object is
  made (Q.LeaseList a) is none = no_none object is
  made (Q.LeaseHold a) is none = no_none object is
  made (Q.LeaseDrop a) is none = no_none object is
  made (Q.LeaseResources a) is none = no_none object is
  made (Q.Profile a) is none = no_none object is

  -- ---- objects that exist

  -- each of them is refused as there already where its object exists
  pub there_is : (request : Request) → object_to_hold request ≡ Some object
      → (outcome state request).there ≡ has_resource state object.ns object.resource
  there_is (Q.ContentAdd asked) is =
      let of = is_of asked.content.ns asked.lease (Content asked.content.digest) is in
      rw (of.0, of.1) refl
  there_is (Q.IngestCommit asked) is =
      let of = is_of asked.ingest.ns asked.lease (Content asked.digest) is in
      rw (of.0, of.1) refl
  there_is (Q.SnapPrepare asked) is =
      let snap = asked.snapshot in
      let of = is_of snap.ns asked.lease (Snapshot snap.snapshotter snap.name) is in
      rw (of.0, of.1) refl
  there_is (Q.SnapView asked) is =
      let snap = asked.snapshot in
      let of = is_of snap.ns asked.lease (Snapshot snap.snapshotter snap.name) is in
      rw (of.0, of.1) refl
  there_is (Q.SnapCommit asked) is =
      let snap = asked.snapshot in
      let of = is_of snap.ns asked.lease (Snapshot snap.snapshotter asked.name) is in
      rw (of.0, of.1) refl
  there_is (Q.NsAdd ns) is = no_none object is
  there_is (Q.NsRemove ns) is = no_none object is
  there_is Q.NsList is = no_none object is
  there_is (Q.ImageAdd a) is = no_none object is
  there_is (Q.ImageTarget a) is = no_none object is
  there_is (Q.ImageSet a) is = no_none object is
  there_is (Q.ImageRemove a) is = no_none object is
  there_is (Q.ImageGet a) is = no_none object is
  there_is (Q.ImageList a) is = no_none object is
  there_is (Q.ImageLabel a b) is = no_none object is
  there_is (Q.ContainerAdd a) is = no_none object is
  there_is (Q.ContainerSet a) is = no_none object is
  there_is (Q.ContainerRemove a) is = no_none object is
  there_is (Q.ContainerGet a) is = no_none object is
  there_is (Q.ContainerList a) is = no_none object is
  there_is (Q.ContainerLabel a b) is = no_none object is
  there_is (Q.ContentSet a b) is = no_none object is
  there_is (Q.ContentRemove a b) is = no_none object is
  there_is (Q.ContentGet a) is = no_none object is
  there_is (Q.ContentLabel a b) is = no_none object is
  there_is (Q.ContentList a) is = no_none object is
  there_is (Q.IngestBegin a) is = no_none object is
  there_is (Q.IngestOpen a) is = no_none object is
  there_is (Q.IngestAbort a b) is = no_none object is
  there_is (Q.IngestGet a) is = no_none object is
  there_is (Q.IngestList a) is = no_none object is
  there_is (Q.SnapSet a b) is = no_none object is
  there_is (Q.SnapRemove a b) is = no_none object is
  there_is (Q.SnapGet a) is = no_none object is
  there_is (Q.SnapLabel a b) is = no_none object is
  there_is (Q.SnapList a b) is = no_none object is
  there_is (Q.SnapSnapshotters a) is = no_none object is
  there_is (Q.LeaseAdd a) is = no_none object is
  there_is (Q.LeaseSet a b) is = no_none object is
  there_is (Q.LeaseRemove a) is = no_none object is
  there_is (Q.LeaseGet a) is = no_none object is
  there_is (Q.LeaseLabel a b) is = no_none object is
  there_is (Q.LeaseList a) is = no_none object is
  there_is (Q.LeaseHold a) is = no_none object is
  there_is (Q.LeaseDrop a) is = no_none object is
  there_is (Q.LeaseResources a) is = no_none object is
  there_is (Q.Profile a) is = no_none object is

  -- the texts of a hold that are allowed say the resource
  pub hold_after : least_fault (outcome state (hold_of object)) ≡ None
      → (outcome state (hold_of object)).after
      ≡ with_leases state (hold_in_lease (object.ns ∷ object.lease ∷ []) object.resource
      state.records.leases)
  hold_after none =
      let free = none_applies (outcome state (hold_of object)) none in
      let texts = not_none (is_some (resource_of (type_of object.resource) (id_of object.resource)))
      (is_short_name object.ns) (is_name object.lease) free.0 in
      ap (λ (found : Option Resource). with_leases state (option_map_or
      (λ resource. hold_in_lease (object.ns ∷ object.lease ∷ []) resource state.records.leases)
      found state.records.leases)) (said_again object.resource texts)
    where
      not_none : (a b c : Bool) → not (all_of (b ∷ c ∷ a ∷ [])) ≡ false → a ≡ true
      not_none true b c h = refl
      not_none false true true h = absurd cc
      not_none false true false h = absurd cc
      not_none false false c h = absurd cc

  -- the lease then holds the object
  hold_there : least_fault (outcome state (hold_of object)) ≡ None
      → has_resource state object.ns object.resource ≡ true
      → IsHeld (outcome state (hold_of object)).after object
  hold_there none there =
      let free = none_applies (outcome state (hold_of object)) none in
      let key = object.ns ∷ object.lease ∷ [] in
      subst (λ (s : State). IsHeld s object) (sym (hold_after none)) (record {
        there = same_there object.resource there;
        held = holds_given key object.resource state.records.leases
            (not-false (has_row lease_key key state.records.leases) free.1);
      })
    where
      same_there : (resource : Resource) → has_resource state object.ns resource ≡ true
          → has_resource (with_leases state (hold_in_lease (object.ns ∷ object.lease ∷ [])
          object.resource state.records.leases)) object.ns resource
          ≡ true
      same_there (Content digest) h = h
      same_there (Snapshot snapshotter name) h = h
      same_there (Ingest name) h = h

-- ---- the line

-- a request that no fault refuses is done
done_after : (state : State) (request : Request) (object : ToHold)
    → least_fault (outcome state request) ≡ None → IsHeld (outcome state request).after object
    → IsHeld (after state request) object
done_after state request object none held = rw none held

-- a line that no fault refuses asks for a request that none refuses
pub no_fault : (takes : Bool) (o : Outcome)
    → least_of (not takes || o.invalid) o.missing o.there o.forbidden ≡ None → least_fault o ≡ None
no_fault takes o none =
    let free = fine (not takes || o.invalid) o.missing o.there o.forbidden none in
    let invalid = (or_parts (not takes) o.invalid free.0).1 in
    rw (invalid, free.1, free.2, free.3) refl

-- where the fault is "there already", the object exists
pub object_there : (state : State) (request : Request) (object : ToHold)
    → object_to_hold request ≡ Some object → is_there state request ≡ true
    → has_resource state object.ns object.resource ≡ true
object_there state request object is there =
    let o = outcome state request in
    sym (there_is state object request is)
    ∙ (and_parts (not o.invalid && not o.missing) o.there there).1

-- if no fault refuses a line whose lease is to hold an object, the object is there afterwards, and
-- the lease holds it
pub what_is_there_is_held : (state : State) (request : Request) (object : ToHold)
    (answer there : Option Text) → object_to_hold request ≡ Some object
    → words_fault state request answer there ≡ None
    → IsHeld (after state (request_done state request there)) object
what_is_there_is_held state request object answer there is none =
    let takes = takes_words request answer there in
    elim (cases_Bool (holds_there state request there)) [
      | inl t ↦ (
          let hold : request_done state request there ≡ hold_of object = rw (t, is) refl in
          let free : least_fault (outcome state (hold_of object)) ≡ None =
          no_fault takes (outcome state (hold_of object))
          (ap (λ (r : Request). let o = outcome state r in
          least_of (not takes || o.invalid) o.missing o.there o.forbidden) (sym hold)
          ∙ none) in
          subst (λ (r : Request). IsHeld (after state r) object) (sym hold)
          (done_after state (hold_of object) object free
          (hold_there state object free (object_there state request object is
          (and_parts (is_some there) (is_there state request) t).1))))
      | inr f ↦ (
          let same : request_done state request there ≡ request = rw f refl in
          let free : least_fault (outcome state request) ≡ None =
          no_fault takes (outcome state request)
          (ap (λ (r : Request). let o = outcome state r in
          least_of (not takes || o.invalid) o.missing o.there o.forbidden) (sym same)
          ∙ none) in
          subst (λ (r : Request). IsHeld (after state r) object) (sym same)
          (done_after state request object free (made state object request is free)))
    ]
