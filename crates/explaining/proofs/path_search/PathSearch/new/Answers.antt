use Rattle.std.proofs.Common.{◌<◌, ℕ, List, get_or, None, sym, subst}
use Rattle.std.specs.Prelude.{All}
use Rattle.mark_core.specs.Reach.{node_count}
use Rattle.mark_core.specs.Nearest.{IsDepth}
use Rattle.explaining.proofs.Counted.{few, own_below, held_below, searched}
use Rattle.explaining.proofs.path_search.PathSearch.new.Goals as goal

pub depths-requires-clause-range : goal.depths-requires-clause-range
depths-requires-clause-range c = c.requires.graph.1.range

pub depths-requires-clause-own : goal.depths-requires-clause-own
depths-requires-clause-own c =
    subst (λ (l : List ℕ). All (λ r. r < node_count c.args.graph.now) l) (sym c.deref.ensures.value)
    (own_below c.args.rows.now c.args.at.0 c.args.book.now c.args.graph.now c.in_ok-starts.starts.own.items c.in_ok-starts.starts.held.items c.requires.small c.requires.graph c.in_ok-starts.ensures.own c.in_ok-starts.ensures.held)

pub depths-requires-clause-held : goal.depths-requires-clause-held
depths-requires-clause-held c =
    subst (λ (l : List ℕ). All (λ r. r < node_count c.args.graph.now) l) (sym c.deref-2.ensures.value)
    (held_below c.args.rows.now c.args.at.0 c.args.book.now c.args.graph.now c.in_ok-starts.starts.own.items c.in_ok-starts.starts.held.items c.requires.small c.requires.graph c.in_ok-starts.ensures.own c.in_ok-starts.ensures.held)

pub depths-requires-clause-few : goal.depths-requires-clause-few
depths-requires-clause-few c =
    few c.args.rows.now c.args.at.0 c.args.book.now c.args.graph.now c.in_ok-starts.starts.own.items c.in_ok-starts.starts.held.items c.requires.small c.requires.graph c.in_ok-starts.ensures.own c.in_ok-starts.ensures.held

-- the depths are those from the starts of the moment
pub invariant_of-result : goal.invariant_of-result
invariant_of-result c =
    let graph = c.args.graph.now in
    let held = c.in_ok-starts.starts.held.items in
    let found = c.in_ok-depths.depths.items in
    searched c.args.rows.now c.args.at.0 c.args.book.now graph c.in_ok-starts.starts.own.items held c.requires.small c.requires.graph c.in_ok-starts.ensures.own c.in_ok-starts.ensures.held found c.in_ok-depths.ensures.count
    (subst (λ (l : List ℕ). (n : ℕ) → n < node_count graph → IsDepth graph l held n (get_or found n None)) c.deref.ensures.value
    (subst (λ (l : List ℕ). (n : ℕ) → n < node_count graph → IsDepth graph c.deref.result.now l n (get_or found n None)) c.deref-2.ensures.value c.in_ok-depths.ensures.nearest))
