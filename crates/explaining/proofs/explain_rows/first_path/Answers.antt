use Rattle.std.proofs.Common.{◌∙◌, ◌∷◌, ◌++◌, [], List, map, sym, ap, subst, ℤ}
use Rattle.std.specs.Prelude.{option_map}
use Rattle.meta_types.specs.Rows.{Records}
use Rattle.meta_types.specs.Explanations.{Explains}
use Rattle.gc_graph.specs.Stored.{records_of}
use Rattle.explaining.specs.declared.thing_row.ThingRow.{ThingRow}
use Rattle.explaining.specs.ThingRows.{thing_of}
use Rattle.explaining.specs.Questions.{asked_by}
use Rattle.explaining.specs.Ends.{first_root}
use Rattle.explaining.proofs.Chains.{none_of}
use Rattle.explaining.proofs.EndPaths.{root_explains}
use Rattle.explaining.proofs.explain_rows.first_path.Goals as goal

-- the root explains itself
pub returns-in-Some-clause-ok : goal.returns-in-Some-clause-ok
returns-in-Some-clause-ok c =
    let records = records_of c.args.rows.now in
    let asked = asked_by c.args.question in
    let root = c.in-Some.root in
    subst (λ (l : List ThingRow). Explains records c.args.at.0 asked (map thing_of l)) (sym
    (c.in_ok-push.ensures.items ∙ ap (λ (l : List ThingRow). l
    ++ root ∷ []) c.new-path.ensures.items))
    (root_explains records c.args.at.0 asked (thing_of root) (ap (option_map thing_of) (sym c.in-Some.is) ∙ c.first_root.ensures))

-- no root is asked for
pub returns-clause-ok : goal.returns-clause-ok
returns-clause-ok c =
    let asked = asked_by c.args.question in
    subst (λ (r : Records). Explains r c.args.at.0 asked (map thing_of c.in_ok-path.path.items)) c.in_ok-searched.ensures.records
    (subst (λ (a : ℤ). Explains c.in_ok-searched.searched.records a asked (map thing_of c.in_ok-path.path.items)) c.in_ok-searched.ensures.at
    (c.in_ok-path.ensures.ok
    (ap (option_map thing_of) (sym (none_of c.first_root.result c.in_default.not-Some)) ∙ c.first_root.ensures
    ∙ (λ i. first_root (sym c.in_ok-searched.ensures.records i) (sym c.in_ok-searched.ensures.at i) asked))))
