use Rattle.std.proofs.Common.{refl, arith}
use Rattle.mark_core.proofs.BitLemmas.{mask_is}
use Rattle.steal_mark.proofs.Looked.{looks}
use Rattle.steal_mark.proofs.SeatLearns.{told}
use Rattle.steal_mark.proofs.shared.claim_table.look.Goals as goal

-- the node is reached, so its bit may be set
pub fetch_or-found-requires : goal.fetch_or-found-requires
fetch_or-found-requires c = (
  c.requires.claim_table,
  (let r = c.requires.reached.1 in let w = c.requires.wide in omega arith),
  looks c.args.claim_table.now.shared.key c.args.node _ _ _ _ (mask_is c.args.node) c.requires.reached.1 c.requires.reached.0 c.requires.part,
)

-- the found bit decides
pub returns-clause-looked : goal.returns-clause-looked
returns-clause-looked c = told c.args.node _ c.fetch_or-found.result c.args.claim_table.now.shared.table_id.slots _ _ (mask_is c.args.node) c.fetch_or-found.ensures.2 _ refl
