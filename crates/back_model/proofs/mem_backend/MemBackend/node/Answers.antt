use Rattle.std.proofs.Common.{rules, ◌≡◌, ◌∙◌, ap, sym}
use Rattle.std.specs.Prelude.{option_map, Option}
use Rattle.std.specs.Option.{option_map_or}
use Rattle.std.specs.Ordering.{nat_cmp}
use Rattle.std.specs.BTreeMap.{get}
use Rattle.back_model.specs.Nodes.{children_of}
use Rattle.back_model.specs.declared.mem_backend.Node.{Node}
use Rattle.back_model.proofs.Counts.{is_parent, is_counted}
use Rattle.back_model.proofs.Recounts.{there}
use Rattle.back_model.proofs.mem_backend.MemBackend.node.Goals as goal

-- the look-up finds what the finite map has
pub returns-clause-parent : goal.returns-clause-parent
returns-clause-parent c =
    let found : c.copied.result ≡ get nat_cmp c.self.inside.nodes c.args.number = search rules in
    ap (option_map (λ (node : Node). node.parent)) found ∙ there c.self.inside.nodes c.args.self.now c.args.number c.self.view_is

-- and the children that are counted
pub returns-clause-child : goal.returns-clause-child
returns-clause-child c =
    let found : c.copied.result ≡ get nat_cmp c.self.inside.nodes c.args.number = search rules in
    is_counted c.copied.result (children_of c.args.number c.self.inside.nodes)
    (ap (λ (o : Option Node). option_map_or (λ node. node.children) o 0) found ∙ c.self.invariant.each c.args.number)
    ∙ sym (is_parent c.args.number c.self.inside.nodes c.args.self.now c.self.view_is c.self.invariant.order)
