use Rattle.std.proofs.Common.{◌≡◌, ap, arith}
use Rattle.mark_core.specs.Bits.{times}
use Rattle.steal_mark.proofs.Claimed.{gives}
use Rattle.steal_mark.proofs.Deals.{times_pushed}
use Rattle.steal_mark.proofs.start.markers.give.Goals as goal

-- the claims are those of this deque and of the deques that are left
pub split_seat-requires : goal.split_seat-requires
split_seat-requires g c = (
  c.requires.claim_table,
  c.requires.wide,
  gives c.args.claim_table.now.shared.key _ _ _ _ c.requires.parts
      (λ n. let a : times n g.J.Gift.kept ≡ _ = ap (times n) c.requires.kept in let b = times_pushed n c.args.deques.now in let d = ap (times n) c.requires.dealt in let e = c.requires.all n in omega arith),
)
