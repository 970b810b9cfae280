use Rattle.std.proofs.Common.{rules, ◌≡◌, ◌∙◌, ◌+◌, [], List, refl, sym, ap, subst, arith, length}
use Rattle.std.specs.Vec.{vec_len}
use Rattle.meta_types.specs.Histories.{Entry, IsLegal}
use Rattle.store_front.specs.Front.{Front}
use Rattle.store_front.specs.Finish.{told_to}
use Rattle.store_front.specs.Parts.{AreOpened}
use Rattle.store_front.proofs.Finishing.{each_refused}
use Rattle.store_front.proofs.ToldAll.{told_all}
use Rattle.store_front.proofs.history.begin_anew.Locked+L+S+B+I.begin_anew.Goals as goal

-- the numbers were wrong, or they weren't
pub returns-in_err-check_sessions-clause-each : goal.returns-in_err-check_sessions-clause-each
returns-in_err-check_sessions-clause-each g c =
    each_refused c.from_residual.result _ c.self.inside.opened c.args.self.now.opened c.deref.result.now c.args.sessions.now c.args.sessions.now
    c.from_residual.ensures.1 (ap (λ (f : Front). f.opened) c.self.view_is) refl c.in_err-check_sessions.ensures.err

-- the sessions were told all that the log had, so the book is empty
pub invariant_of-self : goal.invariant_of-self
invariant_of-self g c =
    let old = c.self.inside in
    let empty : c.replace-log.new.dest.items ≡ [] = ap (λ v. v.items) c.replace-log.ensures.after ∙ c.new.ensures.items in
    let none : vec_len c.replace-log.new.dest ≡ 0 = ap (λ v. vec_len v) c.replace-log.ensures.after ∙ c.new.ensures.len in
    let base : old.state.state ≡ c.replace-base.new.dest = sym (c.replace-base.ensures.after ∙ c.in-Ok.ensures.ok) in
    let told : told_to c.args.sessions.now ≡ length c.deref.result.now = told_all old.opened c.deref.result.now c.args.sessions.now c.in_ok-check_sessions.ensures.all (search rules) c.in_ok-check_sessions.ensures.own in
    let long : length c.deref.result.now ≡ vec_len old.log = ap length c.deref.ensures.value ∙ sym old.log.ok.0 in
    let spent : c.clear_all.new.book.total + told_to c.args.sessions.now ≡ vec_len old.log = c.clear_all.ensures.total ∙ c.self.invariant.total in
    record {
      legal = λ k. subst (λ (l : List Entry). IsLegal c.replace-base.new.dest l old.state.state) (sym empty) base;
      sound = c.self.invariant.sound;
      opened = subst (AreOpened old.opened) (sym empty) (λ k d l. absurd (omega (arith, l)));
      total = omega (arith, none, told, long, spent);
      few = c.self.invariant.few;
      parts = c.self.invariant.parts;
      none = c.self.invariant.none;
    }
