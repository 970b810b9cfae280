use Rattle.std.proofs.Common.{rules, ◌<◌, ◌∙◌, sym, subst, List}
use Rattle.std.specs.Prelude.{Result}
use Rattle.meta_types.specs.Reports.{Report}
use Rattle.meta_types.specs.Histories.{IsLegal, Entry}
use Rattle.meta_types.specs.Steps.{collect}
use Rattle.meta_types.specs.declared.fault.Fault.{Fault}
use Rattle.store_front.specs.KeptAnswers.{kept_report, log_after, Takes}
use Rattle.store_front.specs.Parts.{AreOpened}
use Rattle.store_front.proofs.Growth.{legal_after, opened_after, not_kept}
use Rattle.store_front.proofs.locked.Locked.collect.Goals as goal

-- the history is one entry longer, or as it was
pub invariant_of-self-2 : goal.invariant_of-self-2
invariant_of-self-2 g c =
    let old = c.self.inside in
    let number = c.session.inside.number in
    let event = collect c.args.at.0 c.args.dry c.args.workers in
    let kept = kept_report c.keep_report.result in
    let took = subst (λ (r : Result Report Fault). Takes old.state.state event (kept_report r) c.run_collect-reports-2.new.state.state) (sym c.keep_report.ensures.same) c.run_collect-reports-2.ensures.step in
    let log = c.keep_report.ensures.log ∙ (λ i. log_after (c.make_room.ensures.log i) number (c.collect-events.ensures i) kept) in
    let here : number < old.opened = search rules in
    record {
      legal = λ k. subst (λ (l : List Entry). IsLegal old.base l c.run_collect-reports-2.new.state.state) (sym log)
          (legal_after old.base old.state.state old.log.items number event kept c.run_collect-reports-2.new.state.state (c.self.invariant.legal k) took);
      sound = c.run_collect-reports-2.ensures.sound;
      opened = subst (AreOpened old.opened) (sym log) (opened_after old.opened number old.log.items event kept c.self.invariant.opened here);
      total = search rules;
      few = c.self.invariant.few;
      parts = c.self.invariant.parts;
      none = c.self.invariant.none;
    }

-- nothing is kept
pub invariant_of-self : goal.invariant_of-self
invariant_of-self g c =
    record {
      legal = λ k. not_kept _ c.KEPT.result g.K.HistoryMode.KEPT c.if-not-KEPT.true c.KEPT.ensures
          k;
      sound = c.run_collect-reports.ensures.sound;
      opened = c.self.invariant.opened;
      total = c.self.invariant.total;
      few = c.self.invariant.few;
      parts = c.self.invariant.parts;
      none = c.self.invariant.none;
    }
