-- Each event of a history keeps a state sound. None of it speaks of code.
use Rattle.std.proofs.Common.{◌≡◌, true, false, List, [], ◌∷◌, Option, Some, None, refl, sym, subst}
use Rattle.std.specs.Prelude.{is_some, if◌then◌else◌}
use Rattle.meta_types.specs.Rows.{State}
use Rattle.meta_types.specs.Backends.{BackNames}
use Rattle.meta_types.specs.Ops.{least_fault}
use Rattle.meta_types.specs.Requests.{outcome, removal_outcome}
use Rattle.meta_types.specs.Sound.{IsSound}
use Rattle.meta_types.specs.Steps.{Answer, answered, reported, refused, Event, requested, collect, remove_collect, after}
use Rattle.meta_types.specs.Histories.{Entry, Step, IsLegal, failed_in}
use Rattle.meta_types.specs.declared.fault.Fault.{Fault}
use Rattle.meta_types.specs.declared.request.Request.{Request}
use Rattle.meta_types.specs.declared.request.Removal.{Removal}
use Rattle.meta_types.specs.declared.request.Removal.TheVariants as Removing
use Rattle.meta_types.proofs.SoundAfter.{a_collected_store_is_sound}
use Rattle.request_core.proofs.StepSound.{after_image_remove}
use Rattle.request_core.proofs.ContentSound.{after_lease_remove}
use Rattle.request_core.proofs.EachRequest.{step_sound}

-- what is refused leaves the state as it was
pub request_sound : (state : State) (request : Request) → IsSound state → IsSound (after state request)
request_sound state request s = go (least_fault (outcome state request)) refl
  where
    go : (fault : Option Fault) → least_fault (outcome state request) ≡ fault
        → IsSound (if is_some fault then state else (outcome state request).after)
    go None none = step_sound state request s none
    go (Some fault) some = s

-- a removal by name leaves a sound store, before its collection
pub removal_sound : (state : State) (removal : Removal) → IsSound state
    → IsSound (removal_outcome state removal).after
removal_sound state (Removing.Image image) s = after_image_remove state image s
removal_sound state (Removing.Lease lease) s = after_lease_remove state lease s

-- an event leaves a sound store, whatever failed in it
pub event_sound : (state : State) (event : Event) (failed : BackNames) (answer : Answer)
    (new : State) → IsSound state → Step state event failed answer new → IsSound new
event_sound state (requested request) failed answer new s h =
    subst IsSound (sym h.2) (request_sound state request s)
event_sound state (collect at true workers) failed (reported report) new s h =
    subst IsSound (sym h.3) s
event_sound state (collect at false workers) failed (reported report) new s h =
    a_collected_store_is_sound state at failed report new s h.1
event_sound state (collect at true workers) failed (refused fault) new s h =
    subst IsSound (sym h.2) s
event_sound state (collect at false workers) failed (refused fault) new s h =
    subst IsSound (sym h.2) s
event_sound state (collect at true workers) failed (answered reply) new s h = absurd h
event_sound state (collect at false workers) failed (answered reply) new s h = absurd h
event_sound state (remove_collect removal at workers) failed (reported report) new s h =
    a_collected_store_is_sound (removal_outcome state removal).after at failed report new
    (removal_sound state removal s) h.1
event_sound state (remove_collect removal at workers) failed (refused fault) new s h =
    subst IsSound (sym h.2) s
event_sound state (remove_collect removal at workers) failed (answered reply) new s h = absurd h

-- a history from a sound store ends in a sound store
pub history_sound : (base : State) (log : List Entry) (end : State) → IsSound base
    → IsLegal base log end → IsSound end
history_sound base [] end s h = subst IsSound (sym h) s
history_sound base (entry ∷ log) end s h =
    history_sound h.0 log end
    (event_sound base entry.event (failed_in entry.answer) entry.answer h.0 s h.1) h.2
