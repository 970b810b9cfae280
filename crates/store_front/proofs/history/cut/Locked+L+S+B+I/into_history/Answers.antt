use Rattle.std.proofs.Common.{refl, subst}
use Rattle.meta_types.specs.Histories.{IsLegal}
use Rattle.store_front.specs.Front.{Front}
use Rattle.store_front.specs.Parts.{AreOpened}
use Rattle.store_front.proofs.history.cut.Locked+L+S+B+I.into_history.Goals as goal

-- both are kept by the type
pub returns-clause-legal : goal.returns-clause-legal
returns-clause-legal g c =
    subst (λ (f : Front). IsLegal f.base f.log f.store.state × AreOpened f.opened f.log) c.self.view_is (c.self.invariant.legal refl, c.self.invariant.opened)
