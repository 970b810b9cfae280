use Rattle.std.proofs.Common.{◌∙◌, refl, sym, ap, subst}
use Rattle.std.specs.Prelude.{Err}
use Rattle.meta_types.specs.Histories.{IsLegal}
use Rattle.store_front.specs.Front.{Front}
use Rattle.store_front.specs.SessionEntries.{Course}
use Rattle.store_front.specs.Parts.{AreOpened}
use Rattle.store_front.proofs.Finishing.{each_refused, each_given, own_as, each_as, refused_as}
use Rattle.store_front.proofs.history.cut.Locked+L+S+B+I.finish.Goals as goal

-- the numbers were wrong, or they weren't
pub returns-in-Err-clause-each : goal.returns-in-Err-clause-each
returns-in-Err-clause-each g c =
    each_refused (Err c.in-Err.fault) c.in-Err.fault c.self.inside.opened c.args.self.opened c.deref-2.result.now c.deref.result.now c.args.sessions.items
    refl (ap (λ (f : Front). f.opened) c.self.view_is) c.deref.ensures.value c.in-Err.ensures.err

pub returns-in-Err-clause-err : goal.returns-in-Err-clause-err
returns-in-Err-clause-err g c =
    refused_as (Err c.in-Err.fault) c.in-Err.fault c.self.inside.opened c.args.self.opened c.deref-2.result.now
    c.args.self.log c.deref.result.now c.args.sessions.items refl
    (ap (λ (f : Front). f.opened) c.self.view_is)
    (c.deref-2.ensures.value ∙ ap (λ (f : Front). f.log) c.self.view_is)
    c.deref.ensures.value c.in-Err.ensures.err

pub returns-clause-legal : goal.returns-clause-legal
returns-clause-legal g c =
    subst (λ (h : Course). IsLegal h.base h.log c.args.self.store.state × AreOpened c.args.self.opened h.log) (sym c.into_history.ensures.whole) c.into_history.ensures.legal

pub returns-clause-own : goal.returns-clause-own
returns-clause-own g c =
    own_as c.deref-2.result.now c.args.self.log c.deref.result.now c.args.sessions.items (c.deref-2.ensures.value ∙ ap (λ (f : Front). f.log) c.self.view_is) c.deref.ensures.value c.in_default.ensures.own

pub returns-clause-all : goal.returns-clause-all
returns-clause-all g c =
    each_as c.self.inside.opened c.args.self.opened c.deref.result.now c.args.sessions.items (ap (λ (f : Front). f.opened) c.self.view_is) c.deref.ensures.value c.in_default.ensures.all

pub returns-clause-each : goal.returns-clause-each
returns-clause-each g c = each_given c.into_history.result c.args.self.opened c.args.sessions.items (returns-clause-all g c)
