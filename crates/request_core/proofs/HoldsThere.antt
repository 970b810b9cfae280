-- A line whose lease is to hold an object that exists: its answer, and its row.
use Rattle.std.proofs.Common.{◌≡◌, ◌∙◌, Bool, true, false, not, List, [], ◌∷◌, Option, Some, None, refl, sym, ap, subst, ◌⊎◌, inl, inr}
use Rattle.std.specs.Prelude.{◌&&◌, is_some, is_none, option_map, Result, Ok, Err}
use Rattle.std.specs.Option.{option_map_or}
use Rattle.std.specs.Result.{IsErrAnd}
use Rattle.std.proofs.lemmas.Bool.{cases_Bool, and_parts, and_from, both_ways, not-false}
use Rattle.meta_types.specs.Text.{Text, is_digest, is_name, is_short_name}
use Rattle.meta_types.specs.Keys.{row_at}
use Rattle.meta_types.specs.Rows.{State, LeaseRow, content_key, ingest_key, snap_key}
use Rattle.meta_types.specs.Changes.{all_of, hold_in_lease, is_allowed_if, with_leases}
use Rattle.meta_types.specs.Data.{is_data}
use Rattle.meta_types.specs.Labels.{are_labels}
use Rattle.meta_types.specs.Ops.Snapshots.{prepares}
use Rattle.meta_types.specs.Faults.{least_of}
use Rattle.meta_types.specs.Ops.{Outcome, least_fault}
use Rattle.meta_types.specs.Requests.{outcome}
use Rattle.meta_types.specs.Shown.{ToHold, held_by, hold_of, is_there, holds_there, object_to_hold, plain_row, request_done, row_shown, shown_row, snapshot_shown}
use Rattle.meta_types.specs.Holdings.{has_resource}
use Rattle.meta_types.specs.declared.fault.Fault.{Fault}
use Rattle.meta_types.specs.declared.fault.Fault.TheVariants.{InvalidArgument, NotFound, AlreadyExists, FailedPrecondition, BadLine, TooLong, OutOfMemory, NoWorker, BackendFailed, ReadFailed, WriteFailed, Mismatch}
use Rattle.meta_types.specs.declared.object.Object.TheVariants.{Held}
use Rattle.meta_types.specs.Sound.{IsSound}
use Rattle.meta_types.specs.declared.reply.Reply.{Reply}
use Rattle.meta_types.specs.declared.reply.Reply.TheVariants.{Done}
use Rattle.meta_types.specs.declared.resource.Resource.{Resource}
use Rattle.meta_types.specs.declared.resource.Resource.TheVariants.{Content, Snapshot, Ingest}
use Rattle.meta_types.specs.declared.shown_row.ShownRow.{ShownRow}
use Rattle.meta_types.specs.declared.reply.ReplyRow.TheVariants as W
use Rattle.meta_types.specs.declared.rows.ContentRow.{ContentRow}
use Rattle.meta_types.specs.declared.rows.IngestRow.{IngestRow}
use Rattle.meta_types.specs.declared.rows.SnapKind.{SnapKind}
use Rattle.meta_types.specs.declared.rows.SnapKind.TheVariants.{Active, View}
use Rattle.meta_types.specs.declared.request.ContentAdd.{ContentAdd}
use Rattle.meta_types.specs.declared.request.IngestCommit.{IngestCommit}
use Rattle.meta_types.specs.declared.request.SnapAdd.{SnapAdd}
use Rattle.meta_types.specs.declared.request.SnapCommit.{SnapCommit}
use Rattle.meta_types.specs.declared.request.LeaseResource.{LeaseResource}
use Rattle.meta_types.specs.declared.request.Request.{Request}
use Rattle.meta_types.specs.declared.request.Request.TheVariants as Q
use Rattle.meta_types.proofs.ListSearches.{no_none, none_or_some, some_is}
use Rattle.request_core.specs.Follows.{Store, Answers, AnswersExactly, Fails, plain}
use Rattle.request_core.specs.declared.refusal.Refusal.{Refusal}
use Rattle.request_core.specs.Foreseen.{LooksThere, Shows, TellsDone, TellsRow, TellsThere, there_of}
use Rattle.request_core.proofs.EachRequest.{step_sound}
use Rattle.request_core.proofs.Following.{answers_plainly, answers_quiet, answers_sound}
use Rattle.request_core.proofs.ListsSound.{none_applies}
use Rattle.request_core.proofs.ThereHeld.{hold_after, is_of, object_there, there_is}

-- ---- tests

-- "there already" is the least fault
there_least : (o : Outcome) → (not o.invalid && not o.missing && o.there) ≡ true
    → least_fault o ≡ Some AlreadyExists
there_least o h = go o.invalid o.missing o.there o.forbidden h
  where
    go : (i m t f : Bool) → (not i && not m && t) ≡ true → least_of i m t f ≡ Some AlreadyExists
    go true m t f h = absurd cc
    go false true t f h = absurd cc
    go false false true f h = refl
    go false false false f h = absurd cc

-- and the other way
least_there : (o : Outcome) → least_fault o ≡ Some AlreadyExists
    → (not o.invalid && not o.missing && o.there) ≡ true
least_there o h = go o.invalid o.missing o.there o.forbidden h
  where
    go : (i m t f : Bool) → least_of i m t f ≡ Some AlreadyExists → (not i && not m && t) ≡ true
    go true m t f h = absurd cc
    go false true t f h = absurd cc
    go false false true f h = refl
    go false false false true h = absurd cc
    go false false false false h = absurd cc

module _ (state : State) (request : Request) (there : Option Text) where
  -- a request that no fault refuses is done itself
  pub free_done : least_fault (outcome state request) ≡ None → holds_there state request there ≡
      false
  free_done none = elim (cases_Bool (holds_there state request there)) [
    | inl t ↦ no_none AlreadyExists (sym none ∙ there_least (outcome state request)
        (and_parts (is_some there) (is_there state request) t).1)
    | inr f ↦ f
  ]

  itself : holds_there state request there ≡ false → request_done state request there ≡ request
  itself f = rw f refl

  -- one that is refused since what it makes is there is a hold
  pub hold_done : least_fault (outcome state request) ≡ Some AlreadyExists → is_some there ≡ true
      → (holds_there state request there ≡ true)
      × (request_done state request there
      ≡ option_map_or hold_of (object_to_hold request) request)
  hold_done least given =
      let holds : holds_there state request there ≡ true =
      and_from (is_some there) (is_there state request) given
      (least_there (outcome state request) least) in
      (holds, rw holds refl)

-- ---- answers

-- a reply is that of the request itself
pub reply_done : (old : Store) (request : Request) (there : Option Text) (reply : Reply)
    (new : Store)
    → Answers old request (Ok reply) new
    → Answers old (request_done old.state request there) (Ok reply) new
    × (holds_there old.state request there ≡ false)
unfolding Answers
reply_done old request there reply new a =
    let f = free_done old.state request there a.0 in (
      subst (λ (r : Request). Answers old r (Ok reply) new)
          (sym (itself old.state request there f)) a,
      f,
    )

-- what is refused by another fault than that it is there, isn't there
fails_done : (fault : Fault) (given : Bool) (least other : Option Fault)
    → (fault ≡ AlreadyExists → given ≡ false) → given ≡ true → least ≡ Some AlreadyExists
    → Fails fault least → Fails fault other
fails_done InvalidArgument given least other only is there f = absurd (cc (f, there))
fails_done NotFound given least other only is there f = absurd (cc (f, there))
fails_done AlreadyExists given least other only is there f = absurd (both_ways given (only refl) is)
fails_done FailedPrecondition given least other only is there f = absurd (cc (f, there))
fails_done OutOfMemory given least other only is there f = tt
fails_done BackendFailed given least other only is there f = absurd (cc (f, there))
fails_done BadLine given least other only is there f = absurd f
fails_done TooLong given least other only is there f = absurd f
fails_done NoWorker given least other only is there f = absurd f
fails_done ReadFailed given least other only is there f = absurd f
fails_done WriteFailed given least other only is there f = absurd f
fails_done (Mismatch place) given least other only is there f = absurd f

-- so is a refusal, unless the object exists and is to be held
pub refusal_done : (old : Store) (request : Request) (there : Option Text) (fault : Fault)
    (new : Store) → (fault ≡ AlreadyExists → is_some there ≡ false)
    → Answers old request (Err fault) new
    → Answers old (request_done old.state request there) (Err fault) new
unfolding Answers
refusal_done old request there fault new only a =
    elim (cases_Bool (holds_there old.state request there)) [
      | inl t ↦ (
          let both = and_parts (is_some there) (is_there old.state request) t in (
            fails_done fault (is_some there) (least_fault (outcome old.state request))
                (least_fault (outcome old.state (request_done old.state request there))) only both.0
                (there_least (outcome old.state request) both.1) a.0,
            a.1,
          ))
      | inr f ↦ subst (λ (r : Request). Answers old r (Err fault) new)
          (sym (itself old.state request there f)) a
    ]

-- where what is made is there, the lease holds it, from the store as it was
pub there_done : (old mid : Store) (request : Request) (there : Option Text)
    (r : Result Reply Fault) (new : Store) → Answers old request (Err AlreadyExists) mid
    → is_some there ≡ true
    → Answers mid (option_map_or hold_of (object_to_hold request) request) r new
    → Answers old (request_done old.state request there) r new
    × (holds_there old.state request there ≡ true)
unfolding Answers
there_done old mid request there r new a given b =
    let done = hold_done old.state request there a.0 given in (
      subst (λ (q : Request). Answers old q r new) (sym done.1)
          (subst (λ (s : Store). Answers s
          (option_map_or hold_of (object_to_hold request) request) r
          new) a.1 b),
      done.0,
    )

-- ---- holds

-- a request that memory refuses is one that any fault may refuse
pub memory_answers : (old : Store) (request : Request) (r : Result Reply Fault) (fault : Fault)
    → IsErrAnd r (λ other. other ≡ fault) → fault ≡ OutOfMemory → Answers old request r old
unfolding Answers
memory_answers old request (Ok reply) fault same is = absurd same
memory_answers old request (Err other) fault same is = rw (same ∙ is) (tt, refl)

is_hold : (found : Option ToHold) (request asked : Request)
    → Some asked ≡ option_map hold_of found → option_map_or hold_of found request ≡ asked
is_hold None request asked h = absurd cc
is_hold (Some object) request asked h = some_is (hold_of object) asked (sym h)

no_hold : (found : Option ToHold) → None ≡ option_map hold_of found → found ≡ None
no_hold None h = refl
no_hold (Some object) h = absurd cc

-- a request that names no lease stays refused, since what it makes is there
pub nothing_held : (old : Store) (request : Request)
    → None ≡ option_map hold_of (object_to_hold request)
    → least_fault (outcome old.state request) ≡ Some AlreadyExists
    → Answers old (option_map_or hold_of (object_to_hold request) request) (Err AlreadyExists) old
unfolding Answers
nothing_held old request none there = rw (no_hold (object_to_hold request) none) (there, refl)

module _ (old : Store) (request : Request) (asked : LeaseResource) (r : Result Reply Refusal)
    (new : Store) (a : AnswersExactly old (Q.LeaseHold asked) r new) where
  -- a hold answers as the request that it is
  pub hold_answers : Some (Q.LeaseHold asked) ≡ option_map hold_of (object_to_hold request)
      → Answers old (option_map_or hold_of (object_to_hold request) request) (plain r) new
  hold_answers is =
      subst (λ (q : Request). Answers old q (plain r) new)
      (sym (is_hold (object_to_hold request) request (Q.LeaseHold asked) is))
      (answers_plainly old (Q.LeaseHold asked) r new a)

  pub hold_quiet : (plain r ≡ Ok Done) ⊎ (new.state ≡ old.state)
  hold_quiet =
      answers_quiet old (Q.LeaseHold asked) (plain r) new
      (answers_plainly old (Q.LeaseHold asked) r new a)

  pub hold_sound : IsSound old.state → IsSound new.state
  hold_sound sound =
      answers_sound old (Q.LeaseHold asked) (plain r) new
      (answers_plainly old (Q.LeaseHold asked) r new a) sound
      (step_sound old.state (Q.LeaseHold asked) sound)

-- ---- rows

-- the row of a request is the one that its lease is to hold
pub named_is : (state : State) (object : ToHold) (request : Request)
    → object_to_hold request ≡ Some object
    → row_shown state request ≡ shown_row state object.ns (Held object.resource)
named_is state object (Q.ContentAdd asked) is =
    let of = is_of state object asked.content.ns asked.lease (Content asked.content.digest) is in
    λ i. shown_row state (sym of.0 i) (Held (sym of.1 i))
named_is state object (Q.IngestCommit asked) is =
    let of = is_of state object asked.ingest.ns asked.lease (Content asked.digest) is in
    λ i. shown_row state (sym of.0 i) (Held (sym of.1 i))
named_is state object (Q.SnapPrepare asked) is =
    let snap = asked.snapshot in
    let of = is_of state object snap.ns asked.lease (Snapshot snap.snapshotter snap.name) is in
    λ i. shown_row state (sym of.0 i) (Held (sym of.1 i))
named_is state object (Q.SnapView asked) is =
    let snap = asked.snapshot in
    let of = is_of state object snap.ns asked.lease (Snapshot snap.snapshotter snap.name) is in
    λ i. shown_row state (sym of.0 i) (Held (sym of.1 i))
named_is state object (Q.SnapCommit asked) is =
    let snap = asked.snapshot in
    let of = is_of state object snap.ns asked.lease (Snapshot snap.snapshotter asked.name) is in
    λ i. shown_row state (sym of.0 i) (Held (sym of.1 i))
named_is state object (Q.NsAdd ns) is = no_none object is
named_is state object (Q.NsRemove ns) is = no_none object is
named_is state object Q.NsList is = no_none object is
named_is state object (Q.ImageAdd a) is = no_none object is
named_is state object (Q.ImageTarget a) is = no_none object is
named_is state object (Q.ImageSet a) is = no_none object is
named_is state object (Q.ImageRemove a) is = no_none object is
named_is state object (Q.ImageGet a) is = no_none object is
named_is state object (Q.ImageList a) is = no_none object is
named_is state object (Q.ImageLabel a b) is = no_none object is
named_is state object (Q.ContainerAdd a) is = no_none object is
named_is state object (Q.ContainerSet a) is = no_none object is
named_is state object (Q.ContainerRemove a) is = no_none object is
named_is state object (Q.ContainerGet a) is = no_none object is
named_is state object (Q.ContainerList a) is = no_none object is
named_is state object (Q.ContainerLabel a b) is = no_none object is
named_is state object (Q.ContentSet a b) is = no_none object is
named_is state object (Q.ContentRemove a b) is = no_none object is
named_is state object (Q.ContentGet a) is = no_none object is
named_is state object (Q.ContentLabel a b) is = no_none object is
named_is state object (Q.ContentList a) is = no_none object is
named_is state object (Q.IngestBegin a) is = no_none object is
named_is state object (Q.IngestOpen a) is = no_none object is
named_is state object (Q.IngestAbort a b) is = no_none object is
named_is state object (Q.IngestGet a) is = no_none object is
named_is state object (Q.IngestList a) is = no_none object is
named_is state object (Q.SnapSet a b) is = no_none object is
named_is state object (Q.SnapRemove a b) is = no_none object is
named_is state object (Q.SnapGet a) is = no_none object is
named_is state object (Q.SnapLabel a b) is = no_none object is
named_is state object (Q.SnapList a b) is = no_none object is
named_is state object (Q.SnapSnapshotters a) is = no_none object is
named_is state object (Q.LeaseAdd a) is = no_none object is
named_is state object (Q.LeaseSet a b) is = no_none object is
named_is state object (Q.LeaseRemove a) is = no_none object is
named_is state object (Q.LeaseGet a) is = no_none object is
named_is state object (Q.LeaseLabel a b) is = no_none object is
named_is state object (Q.LeaseList a) is = no_none object is
named_is state object (Q.LeaseHold a) is = no_none object is
named_is state object (Q.LeaseDrop a) is = no_none object is
named_is state object (Q.LeaseResources a) is = no_none object is
named_is state object (Q.Profile a) is = no_none object is

-- a value is there where one of it is
same_some : {A B : Type 0} (f : A → B) (o : Option A) → is_some (option_map f o) ≡ is_some o
same_some f None = refl
same_some f (Some a) = refl

module _ (state : State) (ns : Text) where
  -- a row that is shown is there
  shown_there : (resource : Resource) (row : ShownRow)
      → shown_row state ns (Held resource) ≡ Some row → has_resource state ns resource ≡ true
  shown_there (Content digest) row h =
      sym (same_some (λ (r : ContentRow). plain_row (W.Content r))
      (row_at content_key (ns ∷ digest ∷ []) state.records.tables.content)) ∙ ap is_some h
  shown_there (Snapshot snapshotter name) row h =
      sym (same_some (snapshot_shown state.records.tables.snapshots)
      (row_at snap_key (ns ∷ snapshotter ∷ name ∷ []) state.records.tables.snapshots))
      ∙ ap is_some h
  shown_there (Ingest name) row h =
      sym (same_some (λ (r : IngestRow). plain_row (W.Ingest r))
      (row_at ingest_key (ns ∷ name ∷ []) state.records.tables.ingests)) ∙ ap is_some h

  -- one that isn't, isn't
  none_there : (resource : Resource) → shown_row state ns (Held resource) ≡ None
      → has_resource state ns resource ≡ false
  none_there (Content digest) h =
      sym (same_some (λ (r : ContentRow). plain_row (W.Content r))
      (row_at content_key (ns ∷ digest ∷ []) state.records.tables.content)) ∙ ap is_some h
  none_there (Snapshot snapshotter name) h =
      sym (same_some (snapshot_shown state.records.tables.snapshots)
      (row_at snap_key (ns ∷ snapshotter ∷ name ∷ []) state.records.tables.snapshots))
      ∙ ap is_some h
  none_there (Ingest name) h =
      sym (same_some (λ (r : IngestRow). plain_row (W.Ingest r))
      (row_at ingest_key (ns ∷ name ∷ []) state.records.tables.ingests)) ∙ ap is_some h

  -- it stays as it is where a lease holds something more
  shown_still : (resource : Resource) (leases : List LeaseRow)
      → shown_row (with_leases state leases) ns (Held resource) ≡ shown_row state ns (Held resource)
  shown_still (Content digest) leases = refl
  shown_still (Snapshot snapshotter name) leases = refl
  shown_still (Ingest name) leases = refl

module _ (state : State) (request : Request) (there : Option Text) where
  valid_there : is_there state request ≡ true → (outcome state request).invalid ≡ false
  valid_there h = go (outcome state request).invalid
      (and_parts (not (outcome state request).invalid) (not (outcome state request).missing)
      (and_parts (not (outcome state request).invalid && not (outcome state request).missing)
      (outcome state request).there h).0).0
    where
      go : (b : Bool) → not b ≡ true → b ≡ false
      go false h = refl
      go true h = absurd cc

  -- the row that is there is shown
  pub found_shown : (row : ShownRow) → TellsThere state request (Some row)
      → TellsDone state request there (Some row)
  found_shown row tells = λ none. elim (cases_Bool (holds_there state request there)) [
    | inl t ↦ (
        let is = (and_parts (is_some there) (is_there state request) t).1 in
        elim (none_or_some (object_to_hold request)) [
          | inl lost ↦ no_none row (ap (there_of state) (sym lost) ∙ tells (valid_there is))
          | inr one ↦ (
              let found : shown_row state one.0.ns (Held one.0.resource) ≡ Some row =
              ap (there_of state) (sym one.1) ∙ tells (valid_there is) in
              let done : request_done state request there ≡ hold_of one.0 = rw (t, one.1) refl in
              let free : least_fault (outcome state (hold_of one.0)) ≡ None =
              ap (λ (r : Request). least_fault (outcome state r)) (sym done) ∙ none in
              ap (λ (r : Request). row_shown (outcome state r).after request) done
              ∙ named_is (outcome state (hold_of one.0)).after one.0 request one.1
              ∙ ap (λ (s : State). shown_row s one.0.ns (Held one.0.resource))
              (hold_after state one.0 free)
              ∙ shown_still state one.0.ns one.0.resource (hold_in_lease
              (one.0.ns ∷ one.0.lease ∷ []) one.0.resource state.records.leases)
              ∙ found)
        ])
    | inr f ↦ (
        let same = itself state request there f in
        let free : least_fault (outcome state request) ≡ None =
        ap (λ (r : Request). least_fault (outcome state r)) (sym same) ∙ none in
        let tests = none_applies (outcome state request) free in
        elim (none_or_some (object_to_hold request)) [
          | inl lost ↦ no_none row (ap (there_of state) (sym lost) ∙ tells tests.0)
          | inr one ↦ absurd (both_ways (outcome state request).there tests.2
              (there_is state one.0 request one.1
              ∙ shown_there state one.0.ns one.0.resource row
              (ap (there_of state) (sym one.1) ∙ tells tests.0)))
        ])
  ]

  -- where none is there, the one that is made
  pub made_shown : (shown : Option ShownRow) → TellsThere state request None
      → TellsRow state request shown → TellsDone state request there shown
  made_shown shown tells row = λ none. elim (cases_Bool (holds_there state request there)) [
    | inl t ↦ (
        let is = (and_parts (is_some there) (is_there state request) t).1 in
        elim (none_or_some (object_to_hold request)) [
          | inl lost ↦ (
              let same : request_done state request there ≡ request = rw (t, lost) refl in
              subst (λ (r : Request). least_fault (outcome state r) ≡ None
              → row_shown (outcome state r).after request ≡ shown) (sym same) row none)
          | inr one ↦ absurd (both_ways (has_resource state one.0.ns one.0.resource)
              (none_there state one.0.ns one.0.resource
              (ap (there_of state) (sym one.1) ∙ tells (valid_there is)))
              (object_there state request one.0 one.1 is))
        ])
    | inr f ↦ subst (λ (r : Request). least_fault (outcome state r) ≡ None
        → row_shown (outcome state r).after request ≡ shown)
        (sym (itself state request there f)) row none
  ]

-- without the word `there`, the row of the request
pub plainly_shown : (state : State) (request : Request) (there : Option Text)
    (shown : Option ShownRow) → is_none there ≡ true → TellsRow state request shown
    → TellsDone state request there shown
plainly_shown state request None shown none tells = tells
plainly_shown state request (Some word) shown none tells = absurd cc

-- what is found or not says which
pub either_shown : (state : State) (request : Request) (there : Option Text)
    (found : Option ShownRow) → is_some found ≡ true → TellsThere state request found
    → TellsDone state request there found
either_shown state request there None some tells = absurd cc
either_shown state request there (Some row) some tells = found_shown state request there row tells

pub neither_shown : (state : State) (request : Request) (there : Option Text)
    (found shown : Option ShownRow) → is_some found ≡ false → TellsThere state request found
    → TellsRow state request shown → TellsDone state request there shown
neither_shown state request there None shown none tells row =
    made_shown state request there shown tells row
neither_shown state request there (Some found) shown none tells row = absurd cc

-- ---- texts that are allowed

four_of : (a b c d : Bool) (rest : List Bool) → all_of (a ∷ b ∷ c ∷ d ∷ rest) ≡ true
    → (a ≡ true) × (b ≡ true) × (c ≡ true) × (d ≡ true)
four_of a b c d rest h =
    let first = and_parts a (all_of (b ∷ c ∷ d ∷ rest)) h in
    let second = and_parts b (all_of (c ∷ d ∷ rest)) first.1 in
    let third = and_parts c (all_of (d ∷ rest)) second.1 in
    (first.0, second.0, third.0, (and_parts d (all_of rest) third.1).0)

module _ (state : State) (request : Request) (r : Result (Option ShownRow) Refusal) where
  pub looked_content : (asked : ContentAdd) → request ≡ Q.ContentAdd asked
      → ((is_short_name asked.content.ns ≡ true) × (is_digest asked.content.digest ≡ true)
      → Shows (there_of state (held_by asked.content.ns asked.lease
      (Content asked.content.digest))) r)
      → LooksThere state request r
  looked_content asked is h =
      subst (λ (q : Request). LooksThere state q r) (sym is) (λ valid.
      let texts = four_of (is_short_name asked.content.ns) (is_digest asked.content.digest)
      (are_labels asked.labels) (is_allowed_if is_name asked.lease)
      (is_allowed_if is_data asked.extra ∷ []) (not-false _ valid) in
      h (texts.0, texts.1))

  pub looked_ingest : (asked : IngestCommit) → request ≡ Q.IngestCommit asked
      → ((is_short_name asked.ingest.ns ≡ true) × (is_digest asked.digest ≡ true)
      → Shows (there_of state (held_by asked.ingest.ns asked.lease (Content asked.digest))) r)
      → LooksThere state request r
  looked_ingest asked is h =
      subst (λ (q : Request). LooksThere state q r) (sym is) (λ valid.
      let texts = four_of (is_short_name asked.ingest.ns) (is_name asked.ingest.name)
      (is_digest asked.digest) (are_labels asked.labels)
      (is_allowed_if is_name asked.lease ∷ is_allowed_if is_name asked.dropped_by
      ∷ is_allowed_if is_data asked.extra ∷ []) (not-false _ valid) in
      h (texts.0, texts.2))

  snapshot_texts : (asked : SnapAdd) (kind : SnapKind)
      → ((is_short_name asked.snapshot.ns ≡ true) ×
      (is_short_name asked.snapshot.snapshotter ≡ true)
      × (is_name asked.snapshot.name ≡ true)
      → Shows (there_of state (held_by asked.snapshot.ns asked.lease
      (Snapshot asked.snapshot.snapshotter asked.snapshot.name))) r)
      → (prepares state kind asked).invalid ≡ false
      → Shows (there_of state (held_by asked.snapshot.ns asked.lease
      (Snapshot asked.snapshot.snapshotter asked.snapshot.name))) r
  snapshot_texts asked kind h valid =
      let texts = four_of (is_short_name asked.snapshot.ns)
      (is_short_name asked.snapshot.snapshotter)
      (is_name asked.snapshot.name) (is_allowed_if is_name asked.parent)
      (are_labels asked.labels ∷ is_allowed_if is_name asked.lease
      ∷ is_allowed_if is_data asked.extra ∷ []) (not-false _ valid) in
      h (texts.0, texts.1, texts.2)

  pub looked_prepare : (asked : SnapAdd) → request ≡ Q.SnapPrepare asked
      → ((is_short_name asked.snapshot.ns ≡ true) ×
      (is_short_name asked.snapshot.snapshotter ≡ true)
      × (is_name asked.snapshot.name ≡ true)
      → Shows (there_of state (held_by asked.snapshot.ns asked.lease
      (Snapshot asked.snapshot.snapshotter asked.snapshot.name))) r)
      → LooksThere state request r
  looked_prepare asked is h =
      subst (λ (q : Request). LooksThere state q r) (sym is) (snapshot_texts asked Active h)

  pub looked_view : (asked : SnapAdd) → request ≡ Q.SnapView asked
      → ((is_short_name asked.snapshot.ns ≡ true) ×
      (is_short_name asked.snapshot.snapshotter ≡ true)
      × (is_name asked.snapshot.name ≡ true)
      → Shows (there_of state (held_by asked.snapshot.ns asked.lease
      (Snapshot asked.snapshot.snapshotter asked.snapshot.name))) r)
      → LooksThere state request r
  looked_view asked is h =
      subst (λ (q : Request). LooksThere state q r) (sym is) (snapshot_texts asked View h)

  pub looked_commit : (asked : SnapCommit) → request ≡ Q.SnapCommit asked
      → ((is_short_name asked.snapshot.ns ≡ true) ×
      (is_short_name asked.snapshot.snapshotter ≡ true)
      × (is_name asked.name ≡ true)
      → Shows (there_of state (held_by asked.snapshot.ns asked.lease
      (Snapshot asked.snapshot.snapshotter asked.name))) r)
      → LooksThere state request r
  looked_commit asked is h =
      subst (λ (q : Request). LooksThere state q r) (sym is) (λ valid.
      let texts = four_of (is_short_name asked.snapshot.ns)
      (is_short_name asked.snapshot.snapshotter)
      (is_name asked.snapshot.name) (is_name asked.name)
      (are_labels asked.labels ∷ is_allowed_if is_name asked.lease
      ∷ is_allowed_if is_name asked.dropped_by ∷ is_allowed_if is_data asked.extra ∷ [])
      (not-false _ valid) in
      h (texts.0, texts.1, texts.3))

-- one is looked for where a lease is named
pub given_lease : (state : State) (ns : Text) (lease : Option Text) (id : Text)
    (resource : Resource) (r : Result (Option ShownRow) Refusal) → lease ≡ Some id
    → Shows (shown_row state ns (Held resource)) r
    → Shows (there_of state (held_by ns lease resource)) r
given_lease state ns lease id resource r is h = rw is h
