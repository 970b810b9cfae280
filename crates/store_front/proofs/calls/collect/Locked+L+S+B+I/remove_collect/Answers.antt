use Rattle.std.proofs.Common.{rules, ◌<◌, ◌∙◌, sym, subst, List}
use Rattle.std.specs.Prelude.{Result}
use Rattle.meta_types.specs.Reports.{Report}
use Rattle.meta_types.specs.Histories.{IsLegal, Entry}
use Rattle.meta_types.specs.Steps.{remove_collect}
use Rattle.meta_types.specs.declared.request.Removal.{Removal}
use Rattle.meta_types.specs.declared.fault.Fault.{Fault}
use Rattle.store_front.specs.KeptAnswers.{kept_report, log_after, Takes}
use Rattle.store_front.specs.Parts.{AreOpened}
use Rattle.store_front.proofs.Growth.{legal_after, opened_after}
use Rattle.store_front.proofs.calls.collect.Locked+L+S+B+I.remove_collect.Goals as goal

-- the history is one entry longer, or as it was
pub invariant_of-self-2 : goal.invariant_of-self-2
invariant_of-self-2 g c =
    let old = c.self.inside in
    let number = c.session.inside.number in
    let event = remove_collect c.args.removal c.args.at.0 c.args.workers in
    let kept = kept_report c.keep_report.result in
    let new = c.run_removal-reports.new.state.state in
    let told = subst (λ (r : Removal). Takes old.state.state
    (remove_collect r c.args.at.0 c.args.workers)
    (kept_report c.run_removal-reports.result) new)
    (c.get-removal.ensures ∙ c.in-Ok.ensures.ok.0) c.run_removal-reports.ensures.step in
    let took = subst (λ (r : Result Report Fault). Takes old.state.state event (kept_report r) new)
    (sym c.keep_report.ensures.same) told in
    let log = c.keep_report.ensures.log
    ∙ (λ i. log_after (c.make_room.ensures.log i) number (c.in-Ok.ensures.ok.1 i) kept) in
    let here : number < old.opened = search rules in
    record {
      legal = λ k. subst (λ (l : List Entry). IsLegal old.base l new) (sym log)
          (legal_after old.base old.state.state old.log.items number event kept new
          (c.self.invariant.legal k) took);
      sound = c.run_removal-reports.ensures.sound;
      opened = subst (AreOpened old.opened) (sym log)
          (opened_after old.opened number old.log.items event kept c.self.invariant.opened here);
      total = search rules;
      few = c.self.invariant.few;
      parts = c.self.invariant.parts;
      none = c.self.invariant.none;
    }
