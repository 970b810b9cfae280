use Rattle.std.proofs.Common.{◌==◌, ◌∙◌, ℕ, ap, sym, length}
use Rattle.back_model.specs.Nodes.{parents_of}
use Rattle.back_model.proofs.Counts.{parents_in_order, as_many}
use Rattle.back_model.proofs.Entries.{entries_of, Parents}
use Rattle.back_model.proofs.mem_backend.MemBackendSnapBackend.is_empty.Goals as goal

-- the map has as many entries as the finite map
pub returns : goal.returns
returns c =
    let nodes = c.self.inside.nodes in
    ap (λ (n : ℕ). n == 0)
    (c.len.ensures.len ∙ sym (as_many nodes.entries)
    ∙ ap (λ (es : Parents). length es)
    (sym (entries_of (parents_of nodes.entries) c.args.self.now c.self.view_is
    (parents_in_order nodes c.self.invariant.order))))
