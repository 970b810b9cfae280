use Rattle.std.proofs.Common.{rules, ◌<◌, ◌+◌, ◌∙◌, sym, ap, subst, List}
use Rattle.std.specs.Prelude.{IfErr}
use Rattle.meta_types.specs.Histories.{IsLegal, Entry}
use Rattle.meta_types.specs.Ops.{least_fault}
use Rattle.meta_types.specs.Requests.{outcome}
use Rattle.meta_types.specs.Steps.{requested}
use Rattle.meta_types.specs.declared.request.Request.{Request}
use Rattle.request_core.specs.Follows.{Fails}
use Rattle.store_front.specs.Front.{Front}
use Rattle.store_front.specs.KeptAnswers.{kept_reply, log_after, Takes, reply_failures}
use Rattle.store_front.specs.Parts.{AreOpened}
use Rattle.store_front.proofs.Growth.{step_of, fails_of, failures_of, legal_after, opened_after}
use Rattle.store_front.proofs.calls.apply.Locked+L+S+B+I.apply.Goals as goal

-- the request is its step
pub returns-clause-step : goal.returns-clause-step
returns-clause-step g c =
    let kept = kept_reply c.keep_reply.result in
    let new = c.apply-result.new.self in
    let took = step_of c.self.inside.state c.get.result.now c.apply-result.result
    c.keep_reply.result new c.apply-result.ensures.step c.apply-result.ensures.quiet
    c.keep_reply.ensures.kept in
    subst (λ (f : Front). Takes f.store.state (requested c.args.request) kept new.state)
    c.self.view_is
    (subst (λ (r : Request). Takes c.self.inside.state.state (requested r) kept new.state)
    (c.get.ensures ∙ c.in-Ok.ensures.ok.0) took)

pub returns-clause-fault : goal.returns-clause-fault
returns-clause-fault g c =
    rw (sym (ap (λ (f : Front). f.store) c.self.view_is))
    (subst (λ (r : Request). IfErr c.keep_reply.result
    (λ f. Fails f (least_fault (outcome c.self.inside.state.state r))))
    (c.get.ensures ∙ c.in-Ok.ensures.ok.0)
    (fails_of c.self.inside.state c.get.result.now c.apply-result.result c.keep_reply.result
    c.apply-result.new.self c.apply-result.ensures.step c.keep_reply.ensures.kept))

pub returns-clause-failures : goal.returns-clause-failures
returns-clause-failures g c =
    failures_of c.self.inside.state c.get.result.now c.apply-result.result c.keep_reply.result
    c.apply-result.new.self c.apply-result.ensures.step c.keep_reply.ensures.kept
    ∙ ap (λ (f : Front). f.store.failures + reply_failures c.keep_reply.result) c.self.view_is

-- the history is one entry longer, or as it was
pub invariant_of-self-2 : goal.invariant_of-self-2
invariant_of-self-2 g c =
    let old = c.self.inside in
    let number = c.session.inside.number in
    let event = requested c.args.request in
    let kept = kept_reply c.keep_reply.result in
    let new = c.apply-result.new.self.state in
    let told = step_of old.state c.get.result.now c.apply-result.result c.keep_reply.result
    c.apply-result.new.self c.apply-result.ensures.step c.apply-result.ensures.quiet
    c.keep_reply.ensures.kept in
    let took = subst (λ (r : Request). Takes old.state.state (requested r) kept new)
    (c.get.ensures ∙ c.in-Ok.ensures.ok.0) told in
    let log = c.keep_reply.ensures.log
    ∙ (λ i. log_after (c.make_room.ensures.log i) number (c.in-Ok.ensures.ok.1 i) kept) in
    let here : number < old.opened = search rules in
    record {
      legal = λ k. subst (λ (l : List Entry). IsLegal old.base l new) (sym log)
          (legal_after old.base old.state.state old.log.items number event kept new
          (c.self.invariant.legal k) took);
      sound = c.apply-result.ensures.sound;
      opened = subst (AreOpened old.opened) (sym log)
          (opened_after old.opened number old.log.items event kept c.self.invariant.opened here);
      total = search rules;
      few = c.self.invariant.few;
      parts = c.self.invariant.parts;
      none = c.self.invariant.none;
    }
