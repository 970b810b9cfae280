use Rattle.std.proofs.Common.{◌≡◌, ◌∙◌, ap, refl, rules, sym}
use Rattle.std.specs.Prelude.{Option, Some, option_map}
use Rattle.meta_types.specs.declared.request.LeaseResource.{LeaseResource}
use Rattle.meta_types.specs.declared.request.Request.TheVariants as R
use Rattle.request_core.proofs.HoldsThere.{hold_answers, hold_quiet, hold_sound, memory_answers, nothing_held}
use Rattle.request_core.proofs.state.State.hold_there.Goals as goal

-- memory ran out
pub returns-in_err-hold-clause-step : goal.returns-in_err-hold-clause-step
returns-in_err-hold-clause-step g c =
    memory_answers c.args.self.now _ c.from_residual.result c.in_err-hold.field-0.0
    c.from_residual.ensures.1 c.in_err-hold.ensures.fault

-- no lease is named
pub returns-in-None-clause-step : goal.returns-in-None-clause-step
returns-in-None-clause-step g c =
    nothing_held c.args.self.now c.args.request.now
    (ap (option_map R.LeaseHold) (sym c.in-None.is) ∙ c.in_ok-hold.ensures.ok) c.requires.there

-- the lease holds it
pub returns-in-Some-clause-step : goal.returns-in-Some-clause-step
returns-in-Some-clause-step g c =
    rw c.plain.ensures
    (hold_answers c.args.self.now c.args.request.now c.in-Some.hold _ _ c.lease_hold.ensures
    (ap (option_map R.LeaseHold) (sym c.in-Some.is) ∙ c.in_ok-hold.ensures.ok))

pub returns-in-Some-clause-quiet : goal.returns-in-Some-clause-quiet
returns-in-Some-clause-quiet g c =
    rw c.plain.ensures
    (hold_quiet c.args.self.now c.args.request.now c.in-Some.hold _ _ c.lease_hold.ensures)

pub returns-in-Some-clause-sound : goal.returns-in-Some-clause-sound
returns-in-Some-clause-sound g c =
    hold_sound c.args.self.now c.args.request.now c.in-Some.hold _ _ c.lease_hold.ensures
    c.requires.sound
