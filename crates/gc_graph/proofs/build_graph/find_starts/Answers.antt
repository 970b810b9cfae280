use Rattle.std.proofs.Common.{List, ℕ, ◌∙◌, subst}
use Rattle.std.specs.List.Sorted.{IsPermutation}
use Rattle.gc_graph.proofs.Stores.{thing_roots, own_roots}
use Rattle.gc_graph.proofs.build_graph.find_starts.Goals as goal

pub returns-clause-own : goal.returns-clause-own
returns-clause-own c = c.in_ok-own.ensures.ok ∙ own_roots c.args.rows.now c.args.at.0 c.args.book.now

pub returns-clause-held : goal.returns-clause-held
returns-clause-held c =
    subst (λ (l : List ℕ). IsPermutation l c.in_ok-held.held.items)
    (thing_roots c.args.rows.now c.args.at.0 c.args.book.now) c.in_ok-held.ensures.ok
