use Rattle.std.proofs.Common.{List, ℕ, ap, ◌++◌, ◌∙◌}
use Rattle.gc_graph.proofs.AnyOrder.{own_behind}
use Rattle.gc_graph.proofs.build_graph.roots_of.Goals as goal

-- the rows that are roots of their own come behind
pub returns-clause-ok : goal.returns-clause-ok
returns-clause-ok c =
    let made = c.in_ok-own in
    own_behind _ _ made.field-0.held.items made.field-0.own.items c.extend_from_slice.new.self.items
    made.ensures.held made.ensures.own
    (c.in_ok-extend_from_slice.ensures.items
    ∙ ap (λ (l : List ℕ). made.field-0.held.items ++ l) c.as_slice.ensures.value)
