use Rattle.std.proofs.Common.{rules, ◌≡◌, ◌∙◌, sym, ◌++◌}
use Rattle.back_model.specs.Nodes.{parents_of}
use Rattle.back_model.proofs.Counts.{parents_in_order}
use Rattle.back_model.proofs.Entries.{entries_of}
use Rattle.back_model.proofs.mem_backend.MemBackendSnapBackend.list.Goals as goal

-- the map's entries with their parents are those of the finite map
pub loop-entry-init : goal.loop-entry-init
loop-entry-init c =
    let nodes = c.self.inside.nodes in
    let first : c.in_ok-list.list.items ++ parents_of c.into_iter-entry-iterator.result ≡ parents_of nodes.entries = search rules in
    first ∙ sym (entries_of (parents_of nodes.entries) c.args.self.now c.self.view_is (parents_in_order nodes c.self.invariant.order))
