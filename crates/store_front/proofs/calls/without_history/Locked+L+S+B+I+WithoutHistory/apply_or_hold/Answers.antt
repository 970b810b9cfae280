use Rattle.std.proofs.Common.{◌≡◌, ◌⊎◌, subst, refl, Ok, false}
use Rattle.std.specs.Prelude.{IfOk}
use Rattle.meta_types.specs.Shown.{holds_there, request_done}
use Rattle.meta_types.specs.declared.reply.Reply.TheVariants as P
use Rattle.request_core.specs.Follows.{Answers}
use Rattle.request_core.specs.Foreseen.{reply_of}
use Rattle.store_front.specs.Front.{Front}
use Rattle.store_front.proofs.Growth.{not_kept}
use Rattle.store_front.proofs.calls.without_history.Locked+L+S+B+I+WithoutHistory.apply_or_hold.Goals as goal

-- the store's own answer
pub returns-clause-step : goal.returns-clause-step
returns-clause-step g c =
    subst (λ (f : Front). Answers f.store
    (request_done f.store.state c.args.request.now c.args.there.now)
    (reply_of c.apply_or_hold.result) c.apply_or_hold.new.self)
    c.self.view_is c.apply_or_hold.ensures.step

pub returns-clause-there : goal.returns-clause-there
returns-clause-there g c =
    subst (λ (f : Front). IfOk c.apply_or_hold.result (λ applied. applied.there
    ≡ holds_there f.store.state c.args.request.now c.args.there.now))
    c.self.view_is c.apply_or_hold.ensures.there

pub returns-clause-quiet : goal.returns-clause-quiet
returns-clause-quiet g c =
    subst (λ (f : Front). (reply_of c.apply_or_hold.result ≡ Ok P.Done)
    ⊎ (c.apply_or_hold.new.self.state ≡ f.store.state))
    c.self.view_is c.apply_or_hold.ensures.quiet

-- there is no history
pub invariant_of-self : goal.invariant_of-self
invariant_of-self g c =
    record {
      legal = λ k. not_kept _ false false refl refl k;
      sound = c.apply_or_hold.ensures.sound;
      opened = c.self.invariant.opened;
      total = c.self.invariant.total;
      few = c.self.invariant.few;
      parts = c.self.invariant.parts;
      none = c.self.invariant.none;
    }
