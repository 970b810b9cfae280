-- Each request answers Done or leaves the state, and keeps a state
-- sound. None of it speaks of code.
use Rattle.std.proofs.Common.{◌≡◌, refl, None, sym, subst, ◌⊎◌, inl, inr}
use Rattle.meta_types.specs.Rows.{State}
use Rattle.meta_types.specs.Ops.{Outcome, least_fault}
use Rattle.meta_types.specs.Requests.{outcome}
use Rattle.meta_types.specs.Sound.{IsSound}
use Rattle.meta_types.specs.declared.reply.Reply.TheVariants.{Done}
use Rattle.meta_types.specs.declared.request.Request.{Request}
use Rattle.meta_types.specs.declared.request.Request.TheVariants.{NsAdd, NsRemove, NsList, ImageAdd, ImageTarget, ImageSet, ImageRemove, ImageGet, ImageList, ImageLabel, ContainerAdd, ContainerSet, ContainerRemove, ContainerGet, ContainerList, ContainerLabel, ContentAdd, ContentSet, ContentRemove, ContentGet, ContentLabel, ContentList, IngestBegin, IngestOpen, IngestCommit, IngestAbort, IngestGet, IngestList, SnapPrepare, SnapView, SnapCommit, SnapSet, SnapRemove, SnapGet, SnapLabel, SnapList, SnapSnapshotters, LeaseAdd, LeaseSet, LeaseRemove, LeaseGet, LeaseLabel, LeaseList, LeaseHold, LeaseDrop, LeaseResources, Profile}
use Rattle.request_core.proofs.StepSound.{after_ns_add, after_ns_remove, after_image_add, after_image_target, after_image_set, after_image_remove, after_image_label, after_container_add, after_container_set, after_container_remove, after_container_label}
use Rattle.request_core.proofs.ContentSound.{after_content_add, after_content_set, after_content_remove, after_content_label, after_lease_add, after_lease_set, after_lease_remove, after_lease_label, after_lease_hold, after_lease_drop, after_profile}
use Rattle.request_core.proofs.IngestsSound.{after_ingest_begin, after_ingest_open, after_ingest_commit, after_ingest_abort}
use Rattle.request_core.proofs.CommitsSound.{after_snap_commit}
use Rattle.request_core.proofs.SnapshotsSound.{after_snap_remove, after_snap_set, after_snap_label}
use Rattle.request_core.proofs.PreparesSound.{after_snap_prepare, after_snap_view}

-- it answers Done, or leaves the state; and where no fault applies, the
-- state that it leaves is sound
record Keeps (state : State) (o : Outcome) : Type 0 where
  pub quiet : (o.reply ≡ Done) ⊎ (o.after ≡ state)
  pub sound : IsSound state → least_fault o ≡ None → IsSound o.after

changes : {state : State} {o : Outcome} → o.reply ≡ Done
    → (IsSound state → least_fault o ≡ None → IsSound o.after) → Keeps state o
changes done sound = record { quiet = inl done; sound = sound }

reads : {state : State} {o : Outcome} → o.after ≡ state → Keeps state o
reads same = record { quiet = inr same; sound = λ s none. subst IsSound (sym same) s }

each_request : (state : State) (request : Request) → Keeps state (outcome state request)
each_request state (NsAdd ns) = changes refl (after_ns_add state ns)
each_request state (NsRemove ns) = changes refl (after_ns_remove state ns)
each_request state NsList = reads refl
each_request state (ImageAdd asked) = changes refl (after_image_add state asked)
each_request state (ImageTarget asked) = changes refl (λ s none. after_image_target state asked s)
each_request state (ImageSet asked) = changes refl (λ s none. after_image_set state asked s)
each_request state (ImageRemove image) = changes refl (λ s none. after_image_remove state image s)
each_request state (ImageGet image) = reads refl
each_request state (ImageList ns) = reads refl
each_request state (ImageLabel image label) =
    changes refl (λ s none. after_image_label state image label s)
each_request state (ContainerAdd asked) = changes refl (after_container_add state asked)
each_request state (ContainerSet asked) =
    changes refl (λ s none. after_container_set state asked s)
each_request state (ContainerRemove container) =
    changes refl (λ s none. after_container_remove state container s)
each_request state (ContainerGet container) = reads refl
each_request state (ContainerList ns) = reads refl
each_request state (ContainerLabel container label) =
    changes refl (λ s none. after_container_label state container label s)
each_request state (ContentAdd asked) = changes refl (after_content_add state asked)
each_request state (ContentSet content update) =
    changes refl (λ s none. after_content_set state content update s)
each_request state (ContentRemove content dropped_by) =
    changes refl (λ s none. after_content_remove state content dropped_by s)
each_request state (ContentGet content) = reads refl
each_request state (ContentLabel content label) =
    changes refl (λ s none. after_content_label state content label s)
each_request state (ContentList ns) = reads refl
each_request state (IngestBegin asked) = changes refl (after_ingest_begin state asked)
each_request state (IngestOpen asked) = changes refl (after_ingest_open state asked)
each_request state (IngestCommit asked) = changes refl (after_ingest_commit state asked)
each_request state (IngestAbort ingest dropped_by) =
    changes refl (λ s none. after_ingest_abort state ingest dropped_by s)
each_request state (IngestGet ingest) = reads refl
each_request state (IngestList ns) = reads refl
each_request state (SnapPrepare asked) = changes refl (after_snap_prepare state asked)
each_request state (SnapView asked) = changes refl (after_snap_view state asked)
each_request state (SnapCommit asked) = changes refl (after_snap_commit state asked)
each_request state (SnapSet snapshot update) =
    changes refl (λ s none. after_snap_set state snapshot update s)
each_request state (SnapRemove snapshot dropped_by) =
    changes refl (after_snap_remove state snapshot dropped_by)
each_request state (SnapGet snapshot) = reads refl
each_request state (SnapLabel snapshot label) =
    changes refl (λ s none. after_snap_label state snapshot label s)
each_request state (SnapList ns snapshotter) = reads refl
each_request state (SnapSnapshotters ns) = reads refl
each_request state (LeaseAdd asked) = changes refl (after_lease_add state asked)
each_request state (LeaseSet lease update) =
    changes refl (λ s none. after_lease_set state lease update s)
each_request state (LeaseRemove lease) = changes refl (λ s none. after_lease_remove state lease s)
each_request state (LeaseGet lease) = reads refl
each_request state (LeaseLabel lease label) =
    changes refl (λ s none. after_lease_label state lease label s)
each_request state (LeaseList ns) = reads refl
each_request state (LeaseHold asked) = changes refl (λ s none. after_lease_hold state asked s)
each_request state (LeaseDrop asked) = changes refl (λ s none. after_lease_drop state asked s)
each_request state (LeaseResources lease) = reads refl
each_request state (Profile v) = changes refl (λ s none. after_profile state v s)

-- a request answers Done, or leaves the store as it was
pub quiet : (state : State) (request : Request)
    → ((outcome state request).reply ≡ Done) ⊎ ((outcome state request).after ≡ state)
quiet state request = (each_request state request).quiet

-- if no fault refuses a request, the request leaves a sound store
pub step_sound : (state : State) (request : Request) → IsSound state
    → least_fault (outcome state request) ≡ None → IsSound (outcome state request).after
step_sound state request = (each_request state request).sound
