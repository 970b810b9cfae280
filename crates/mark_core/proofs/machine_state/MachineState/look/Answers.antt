use Rattle.std.proofs.Common.{◌≡◌, ◌∙◌, Some, slice_get, sym, ap}
use Rattle.mark_core.specs.Reach.{targets}
use Rattle.mark_core.proofs.Walks.{edge_in_range}
use Rattle.mark_core.proofs.machine_state.MachineState.look.Goals as goal

-- an edge leads to a node, and each node has room
pub add-requires : goal.add-requires
add-requires c =
    let node = c.in-Some.hand.node in
    let looked = c.in-Some.hand.looked in
    let edge : Some c.args.target ≡ slice_get (targets c.args.graph.now node) looked =
    ap Some (sym c.if-next-target.false) ∙ sym c.in-Some-edge_at.is ∙ c.edge_at.ensures.edge in
    c.requires.room c.args.target
    (edge_in_range c.args.graph.now node looked c.args.target c.requires.range edge)
