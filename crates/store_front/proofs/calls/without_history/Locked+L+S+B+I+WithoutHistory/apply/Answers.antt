use Rattle.std.proofs.Common.{◌+◌, ◌∙◌, sym, ap, subst, refl, false}
use Rattle.meta_types.specs.Steps.{requested}
use Rattle.store_front.specs.Front.{Front}
use Rattle.store_front.specs.KeptAnswers.{kept_reply, Takes, reply_failures}
use Rattle.store_front.proofs.Growth.{takes, fails, counts, not_kept}
use Rattle.store_front.proofs.calls.without_history.Locked+L+S+B+I+WithoutHistory.apply.Goals as goal

-- the request is its step
pub returns-clause-step : goal.returns-clause-step
returns-clause-step g c =
    subst (λ (f : Front). Takes f.store.state (requested c.args.request.now)
    (kept_reply c.apply.result) c.apply.new.self.state)
    c.self.view_is
    (takes c.self.inside.state c.args.request.now c.apply.result c.apply.new.self
    c.apply.ensures.step)

pub returns-clause-fault : goal.returns-clause-fault
returns-clause-fault g c =
    rw (sym (ap (λ (f : Front). f.store) c.self.view_is))
    (fails c.self.inside.state c.args.request.now c.apply.result c.apply.new.self
    c.apply.ensures.step)

pub returns-clause-failures : goal.returns-clause-failures
returns-clause-failures g c =
    counts c.self.inside.state c.args.request.now c.apply.result c.apply.new.self
    c.apply.ensures.step
    ∙ ap (λ (f : Front). f.store.failures + reply_failures c.apply.result) c.self.view_is

-- there is no history
pub invariant_of-self : goal.invariant_of-self
invariant_of-self g c =
    record {
      legal = λ k. not_kept _ false false refl refl k;
      sound = c.apply.ensures.sound;
      opened = c.self.invariant.opened;
      total = c.self.invariant.total;
      few = c.self.invariant.few;
      parts = c.self.invariant.parts;
      none = c.self.invariant.none;
    }
