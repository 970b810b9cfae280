use Rattle.gc_graph.proofs.Orders.{told_in_any_order}
use Rattle.gc_graph.proofs.laws.paths_see_no_order.Goals as goal

-- a path is one in the store of the same rows too
pub returns : goal.returns
returns c = λ these those at reached profiles same tells. told_in_any_order these those at reached profiles same tells
