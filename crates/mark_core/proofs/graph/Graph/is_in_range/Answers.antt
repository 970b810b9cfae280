use Rattle.std.proofs.Common.{◌≡◌, ◌<◌, ◌↔◌, ℕ, List, [], sym, subst, arith}
use Rattle.std.specs.Prelude.{All, IsTrue}
use Rattle.std.proofs.lemmas.List.Elements.{All-from_get_or, All-get_or}
use borrow.Author.Count.{below_more}
use Rattle.mark_core.specs.declared.graph.Graph.{Graph}
use Rattle.mark_core.specs.Reach.{node_count, targets, rows}
use Rattle.mark_core.proofs.graph.Graph.is_in_range.Goals.{After-are_below}
use Rattle.mark_core.proofs.graph.Graph.is_in_range.Goals as goal

-- the numbers are below the count
abbrev Below : ℕ → List ℕ → Type 0
Below n l = All (λ b. b < n) l

-- the test of the list is that of the node's targets
row_test : (c : After-are_below)
    → IsTrue c.are_below.result
    ↔ Below (node_count c.args.self.now) (targets c.args.self.now c.loop-node.node)
row_test c =
    let g : Graph = c.args.self.now in
    let k : ℕ = c.loop-node.node in
    let row : c.list.result.now ≡ targets g k = c.list.ensures in
    let count : c.len-count.result ≡ node_count g = c.len-count.ensures.count in (
      λ h. subst (λ n. Below n (targets g k)) count
          (subst (Below c.len-count.result) row (c.are_below.ensures.0 h)),
      λ all. c.are_below.ensures.1
          (subst (Below c.len-count.result) (sym row)
          (subst (λ n. Below n (targets g k)) (sym count) all)),
    )

-- a list that fails the test is that of a node
pub returns-then-not-are_below : goal.returns-then-not-are_below
returns-then-not-are_below c =
    let g : Graph = c.args.self.now in
    let k : ℕ = c.loop-node.node in
    let count = c.len-count.ensures.count in
    let t = c.loop-node-test.true in
    let test = row_test (goal.at.returns-then-not-are_below c).After-are_below in (
      λ h. absurd (cc),
      λ range. subst IsTrue c.if-not-are_below.true
          (test.1 (All-get_or (Below (node_count g)) (rows g) k [] (omega arith) range.0)),
    )

-- one more list has passed the test
pub loop-node-preserved : goal.loop-node-preserved
loop-node-preserved c =
    let g : Graph = c.args.self.now in
    let test = row_test (goal.at.loop-node-preserved c).After-are_below in
    below_more (λ k. Below (node_count g) (targets g k)) c.loop-node.node c.loop-node.invariant
    (test.0 c.if-not-are_below.false)

-- all have passed it, and the roots are tested last
pub returns : goal.returns
returns c =
    let g : Graph = c.args.self.now in
    let count : c.len-count.result ≡ node_count g = c.len-count.ensures.count in
    let t = c.loop-node-test.false in
    let all : All (Below (node_count g)) (rows g) =
    All-from_get_or (Below (node_count g)) (rows g) []
    (λ k h. c.loop-node.invariant k (omega arith)) in (
      λ h. (
        all,
        subst (λ n. Below n g.roots.items) count
            (subst (Below c.len-count.result) c.deref.ensures.value (c.are_below-2.ensures.0 h)),
      ),
      λ range. c.are_below-2.ensures.1
          (subst (Below c.len-count.result) (sym c.deref.ensures.value)
          (subst (λ n. Below n g.roots.items) (sym count) range.1)),
    )
