use Rattle.std.proofs.Common.{rules, ◌≡◌, ◌+◌, ◌-◌, ℕ, refl, ap, ◌∙◌, arith}
use Rattle.std.specs.Prelude.{Some, None}
use Rattle.std.specs.Ordering.{nat_cmp}
use Rattle.std.specs.BTreeMap.{get}
use Rattle.back_model.specs.Nodes.{counted, children_of, one_if}
use Rattle.back_model.proofs.Counts.{Puts}
use Rattle.back_model.proofs.Recounts.{was_set, snaps_same, less, one_here, counted_found}
use Rattle.back_model.proofs.mem_backend.drop_child.Goals.{In-Some-get_mut}
use Rattle.back_model.proofs.mem_backend.drop_child.Goals as goal

-- with no parent, nothing is to be counted
pub returns-in_default-clause-counted : goal.returns-in_default-clause-counted
returns-in_default-clause-counted c =
    let is : c.args.parent ≡ None = search rules in
    record { order = c.requires.order; each = λ n. let a = ap (one_if n) is in let b = c.requires.counted n in omega arith }

-- the parent that is named
named : (c : In-Some-get_mut) → c.args.parent ≡ Some c.in-Some.above
named c = search rules

found : (c : In-Some-get_mut)
    → get nat_cmp c.args.nodes.now c.in-Some.above ≡ Some c.in-Some-get_mut.node.now
found c = search rules

-- what its children want of their count
each : (c : In-Some-get_mut) (n : ℕ) → counted n c.args.nodes.now
    ≡ children_of n c.args.nodes.now + one_if n (Some c.in-Some.above)
each c n =
    c.requires.counted n ∙ ap (λ p. children_of n c.args.nodes.now + one_if n p) (named c)

puts : (c : In-Some-get_mut) → Puts c.args.nodes.now
    (c.get_mut.follows.lender
    (record c.in-Some-get_mut.node.now { children = c.in-Some-get_mut.node.now.children - 1 }))
    c.in-Some.above
    (record c.in-Some-get_mut.node.now { children = c.in-Some-get_mut.node.now.children - 1 })
puts c =
    let w =
    record c.in-Some-get_mut.node.now { children = c.in-Some-get_mut.node.now.children - 1 } in
    was_set c.args.nodes.now (c.get_mut.follows.lender w) c.in-Some.above
    c.in-Some-get_mut.node.now w (found c) c.requires.order (c.get_mut.follows.holds w)

-- the snapshots are the same
pub returns-clause-same : goal.returns-clause-same
returns-clause-same c =
    let at = (goal.at.returns-clause-same c).In-Some-get_mut in
    snaps_same (found at) refl (puts at)

-- and one child less is counted
pub returns-clause-counted : goal.returns-clause-counted
returns-clause-counted c =
    let at = (goal.at.returns-clause-counted c).In-Some-get_mut in
    let now = each at c.in-Some.above in
    let one = one_here c.in-Some.above in
    let is = counted_found c.args.nodes.now c.in-Some.above c.in-Some-get_mut.node.now (found at) in
    less (found at) refl (puts at) (each at) (omega arith)
