use Rattle.std.proofs.Common.{◌≡◌, ◌∙◌, List, None, length, map, get_or, sym, ap, subst, arith}
use Rattle.meta_types.specs.Explanations.{Explains}
use Rattle.gc_graph.specs.Stored.{records_of}
use Rattle.explaining.specs.declared.thing_row.ThingRow.{ThingRow}
use Rattle.explaining.specs.ThingRows.{thing_of, thing_at}
use Rattle.explaining.specs.Ends.{first_root, nearest_below}
use Rattle.explaining.specs.Questions.{asked_by}
use Rattle.explaining.specs.Searched.{Searched}
use Rattle.explaining.specs.ShortestPaths.{IsFirstTo}
use Rattle.explaining.proofs.EndPaths.{none_explains, number_explains, nearest_known}
use Rattle.explaining.proofs.Chains.{none_of, depth_at}
use Rattle.explaining.proofs.path_search.PathSearch.path.Goals as goal

pub nearest-requires-clause-numbers : goal.nearest-requires-clause-numbers
nearest-requires-clause-numbers c = ap length c.deref.ensures.value ∙ c.self.invariant.numbers

pub nearest-requires-clause-few : goal.nearest-requires-clause-few
nearest-requires-clause-few c = let same = ap length c.deref.ensures.value in let few = c.self.invariant.few in omega (arith, same, few)

-- no number is asked for and at the end of a path
pub returns-in_default-clause-ok : goal.returns-in_default-clause-ok
returns-in_default-clause-ok c =
    let records = records_of c.self.inside.rows.now in
    let at = c.self.inside.at.0 in
    let asked = asked_by c.args.question in
    subst (λ (v : Searched). None ≡ first_root v.records v.at asked → Explains v.records v.at asked (map thing_of c.new.result.items)) c.self.view_is
    (λ none_root. subst (λ (l : List ThingRow). Explains records at asked (map thing_of l))
    (sym c.new.ensures.items)
    (none_explains records at asked c.self.inside.graph.now c.self.inside.depths.items c.self.invariant none_root
    (sym (none_of c.nearest.result c.in_default.not-Some) ∙ c.nearest.ensures.nearest ∙ (λ i. nearest_below records asked (c.deref.ensures.value i) (length (c.deref.ensures.value i))))))

-- the nearest number has a depth
pub returns-in_default-index-clause-ok : goal.returns-in_default-index-clause-ok
returns-in_default-index-clause-ok c =
    let records = records_of c.self.inside.rows.now in
    let asked = asked_by c.args.question in
    absurd (nearest_known records c.self.inside.at.0 asked c.self.inside.graph.now c.self.inside.depths.items c.self.invariant c.in-Some.number
    (sym c.in-Some.is ∙ c.nearest.ensures.nearest ∙ (λ i. nearest_below records asked (c.deref.ensures.value i) (length (c.deref.ensures.value i))))
    (depth_at c.self.inside.depths.items c.deref.result.now c.deref.ensures.value c.nearest.result c.nearest.ensures.range c.in-Some.number c.in-Some.is c.index.result.now c.index.ensures
    ∙ none_of c.index.result.now c.in_default-index.not-Some))

-- the path leads to the nearest number
pub returns-clause-ok : goal.returns-clause-ok
returns-clause-ok c =
    let records = records_of c.self.inside.rows.now in
    let at = c.self.inside.at.0 in
    let asked = asked_by c.args.question in
    let things = map thing_of c.in_ok-path.path.items in
    subst (λ (v : Searched). None ≡ first_root v.records v.at asked → Explains v.records v.at asked things) c.self.view_is
    (λ none_root. number_explains records at asked c.self.inside.graph.now c.self.inside.depths.items c.self.invariant none_root c.in-Some.number c.in-Some-index.depth
    (sym c.in-Some.is ∙ c.nearest.ensures.nearest ∙ (λ i. nearest_below records asked (c.deref.ensures.value i) (length (c.deref.ensures.value i))))
    (depth_at c.self.inside.depths.items c.deref.result.now c.deref.ensures.value c.nearest.result c.nearest.ensures.range c.in-Some.number c.in-Some.is c.index.result.now c.index.ensures ∙ c.in-Some-index.is) things
    (subst (λ (v : Searched). IsFirstTo v.records v.at (thing_at v.records c.in-Some.number) things) (sym c.self.view_is) c.in_ok-path.ensures.ok))

pub path_to-requires : goal.path_to-requires
path_to-requires c =
    sym (ap (λ (v : Searched). get_or v.depths c.in-Some.number None) c.self.view_is)
    ∙ depth_at c.self.inside.depths.items c.deref.result.now c.deref.ensures.value c.nearest.result c.nearest.ensures.range c.in-Some.number c.in-Some.is c.index.result.now c.index.ensures ∙ c.in-Some-index.is
