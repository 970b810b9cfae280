use Rattle.std.proofs.Common.{rules, ◌≡◌, ◌+◌, ℕ, refl, sym, ap, ◌∙◌, arith}
use Rattle.std.specs.Prelude.{Some, None}
use Rattle.std.specs.Ordering.{nat_cmp}
use Rattle.std.specs.BTreeMap.{get}
use Rattle.back_model.specs.Nodes.{counted, children_of, one_if}
use Rattle.back_model.proofs.Counts.{Puts, few}
use Rattle.back_model.proofs.Recounts.{was_put, snaps_same, more, one_here, counted_found}
use Rattle.back_model.proofs.mem_backend.add_child.Goals.{After-insert, After-len}
use Rattle.back_model.proofs.mem_backend.add_child.Goals as goal

-- with no parent, nothing is to be counted
pub returns-in_default-clause-counted : goal.returns-in_default-clause-counted
returns-in_default-clause-counted c =
    let is : c.args.parent ≡ None = search rules in
    record { order = c.requires.order; each = λ n. let a = ap (one_if n) is in let b = c.requires.counted n in omega arith }

-- the parent that is named
named : (c : After-len) → c.args.parent ≡ Some c.in-Some.above
named c = search rules

found : (c : After-len) → get nat_cmp c.args.nodes.now c.in-Some.above ≡ Some c.in-Some-copied.node
found c = search rules

-- what its children want of their count
each : (c : After-len) (n : ℕ) → counted n c.args.nodes.now + one_if n (Some c.in-Some.above) ≡ children_of n c.args.nodes.now
each c n = ap (λ p. counted n c.args.nodes.now + one_if n p) (sym (named c)) ∙ c.requires.counted n

pub overflow_add-children : goal.overflow_add-children
overflow_add-children c =
    let most = few c.in-Some.above c.args.nodes.now.entries in
    let now = each (goal.at.overflow_add-children c).After-len c.in-Some.above in
    let one = one_here c.in-Some.above in
    let is = counted_found c.args.nodes.now c.in-Some.above c.in-Some-copied.node (found (goal.at.overflow_add-children c).After-len) in
    let len = c.len.ensures.len in
    let small = c.len.ensures.small in
    omega arith

puts : (c : After-insert) → get nat_cmp c.args.nodes.now c.in-Some.above ≡ Some c.in-Some-copied.node
    → Puts c.args.nodes.now c.insert.new.self c.in-Some.above (record c.in-Some-copied.node { children = c.in-Some-copied.node.children + 1 })
puts c found =
    was_put c.insert.result c.args.nodes.now c.insert.new.self c.in-Some.above c.in-Some-copied.node _ found c.insert.ensures.absent c.insert.ensures.updates c.insert.ensures.entries
    c.insert.ensures.was_ordered c.insert.ensures.ordered

-- the snapshots are the same
pub returns-clause-same : goal.returns-clause-same
returns-clause-same c =
    let at = (goal.at.returns-clause-same c).After-len in
    snaps_same (found at) refl (puts (goal.at.returns-clause-same c).After-insert (found at))

-- and one child more is counted
pub returns-clause-counted : goal.returns-clause-counted
returns-clause-counted c =
    let at = (goal.at.returns-clause-counted c).After-len in
    more (found at) refl (puts (goal.at.returns-clause-counted c).After-insert (found at)) (each at) refl
