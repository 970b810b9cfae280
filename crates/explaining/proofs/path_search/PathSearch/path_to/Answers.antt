use Rattle.std.proofs.Common.{◌≡◌, ◌<◌, ◌∙◌, ◌∷◌, ℕ, List, Option, None, length, map, get_or, sym, ap, subst, arith}
use Rattle.std.specs.Prelude.{option_map}
use Rattle.meta_types.specs.Walks.{end_of}
use Rattle.gc_graph.specs.Stored.{records_of}
use Rattle.explaining.specs.ThingRows.{thing_of, thing_at}
use Rattle.explaining.specs.Firsts.{chain, first_leading, root_before, AreWithin}
use Rattle.explaining.specs.Searched.{Searched}
use Rattle.explaining.specs.ShortestPaths.{IsFirstTo}
use Rattle.explaining.proofs.Chains.{known_below, alone_back, whole_back}
use Rattle.explaining.proofs.path_search.PathSearch.path_to.Goals as goal

pub first_before-requires-clause-range : goal.first_before-requires-clause-range
first_before-requires-clause-range c = c.self.invariant.range

pub first_before-requires-clause-count : goal.first_before-requires-clause-count
first_before-requires-clause-count c = ap length c.deref.ensures.value ∙ c.self.invariant.nodes

pub first_before-requires-clause-numbers : goal.first_before-requires-clause-numbers
first_before-requires-clause-numbers c = ap length c.deref.ensures.value ∙ c.self.invariant.numbers

pub first_before-requires-clause-few : goal.first_before-requires-clause-few
first_before-requires-clause-few c = let nodes = c.self.invariant.nodes in let few = c.self.invariant.few in omega (arith, nodes, few)

-- a number with a depth is one of all
pub things_back-requires-clause-number : goal.things_back-requires-clause-number
things_back-requires-clause-number c =
    subst (λ (k : ℕ). c.args.number < k) (sym (ap length c.deref-2.ensures.value ∙ c.in_ok-before.ensures.count ∙ ap length c.deref.ensures.value))
    (known_below c.self.inside.depths.items c.args.number c.args.depth (ap (λ (v : Searched). get_or v.depths c.args.number None) c.self.view_is ∙ c.requires))

pub things_back-requires-clause-numbers : goal.things_back-requires-clause-numbers
things_back-requires-clause-numbers c = ap length c.deref-2.ensures.value ∙ c.in_ok-before.ensures.count ∙ ap length c.deref.ensures.value ∙ c.self.invariant.numbers

pub things_back-requires-clause-within : goal.things_back-requires-clause-within
things_back-requires-clause-within c = subst (λ (l : List (Option ℕ)). AreWithin (length l) l) (sym c.deref-2.ensures.value) c.in_ok-before.ensures.within

pub root_before-requires-clause-numbers : goal.root_before-requires-clause-numbers
root_before-requires-clause-numbers c = ap length c.deref-3.ensures.value ∙ c.in_ok-before.ensures.count ∙ ap length c.deref.ensures.value ∙ c.self.invariant.numbers

pub root_before-requires-clause-within : goal.root_before-requires-clause-within
root_before-requires-clause-within c = subst (λ (l : List (Option ℕ)). AreWithin (length l) l) (sym c.deref-3.ensures.value) c.in_ok-before.ensures.within

-- it is a root of its own
pub returns-then-depth-eq0-clause-ok : goal.returns-then-depth-eq0-clause-ok
returns-then-depth-eq0-clause-ok c =
    let records = records_of c.self.inside.rows.now in
    let graph = c.self.inside.graph.now in
    let before = c.in_ok-before.before.items in
    let things = map thing_of c.in_ok-path.path.items in
    subst (λ (v : Searched). IsFirstTo v.records v.at (thing_at v.records c.args.number) things) c.self.view_is
    (alone_back records c.self.inside.at.0 graph c.self.inside.depths.items c.self.invariant before
    (subst (λ (l : List (Option ℕ)). (n : ℕ) → n < length l → get_or before n None ≡ first_leading records graph l n (length l)) c.deref.ensures.value c.in_ok-before.ensures.first)
    c.args.number c.args.depth (ap (λ (v : Searched). get_or v.depths c.args.number None) c.self.view_is ∙ c.requires) things c.if-depth-eq0.true
    (c.in_ok-path.ensures.things ∙ (λ i. map (thing_at records) (c.args.number ∷ chain (c.deref-2.ensures.value i) (c.steps_before.ensures i) c.args.number))))

-- the root stands last
pub returns-clause-ok : goal.returns-clause-ok
returns-clause-ok c =
    let records = records_of c.self.inside.rows.now in
    let graph = c.self.inside.graph.now in
    let before = c.in_ok-before.before.items in
    let things = map thing_of c.in_ok-path.path.items in
    subst (λ (v : Searched). IsFirstTo v.records v.at (thing_at v.records c.args.number) (map thing_of c.in_ok-whole.whole.items)) c.self.view_is
    (subst (IsFirstTo records c.self.inside.at.0 (thing_at records c.args.number)) (sym c.in_ok-whole.ensures.ok)
    (whole_back records c.self.inside.at.0 graph c.self.inside.depths.items c.self.invariant before
    (subst (λ (l : List (Option ℕ)). (n : ℕ) → n < length l → get_or before n None ≡ first_leading records graph l n (length l)) c.deref.ensures.value c.in_ok-before.ensures.first)
    c.args.number c.args.depth (ap (λ (v : Searched). get_or v.depths c.args.number None) c.self.view_is ∙ c.requires)
    c.in_ok-path.last things (option_map thing_of c.in_ok-root.root) c.if-depth-eq0.false
    (c.in_ok-path.ensures.things ∙ (λ i. map (thing_at records) (c.args.number ∷ chain (c.deref-2.ensures.value i) (c.steps_before.ensures i) c.args.number)))
    (c.in_ok-path.ensures.last ∙ (λ i. end_of c.args.number (chain (c.deref-2.ensures.value i) (c.steps_before.ensures i) c.args.number)))
    (c.in_ok-root.ensures.ok ∙ ap (λ (l : List (Option ℕ)). root_before records c.self.inside.at.0 l c.in_ok-path.last) c.deref-3.ensures.value)))
