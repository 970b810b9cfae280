use Rattle.std.proofs.Common.{refl, false}
use Rattle.store_front.proofs.Growth.{not_kept}
use Rattle.store_front.proofs.calls.without_history.Locked+L+S+B+I+WithoutHistory.remove_collect.Goals as goal

-- there is no history
pub invariant_of-self : goal.invariant_of-self
invariant_of-self g c =
    record {
      legal = λ k. not_kept _ false false refl refl k;
      sound = c.run_removal-reports.ensures.sound;
      opened = c.self.invariant.opened;
      total = c.self.invariant.total;
      few = c.self.invariant.few;
      parts = c.self.invariant.parts;
      none = c.self.invariant.none;
    }
