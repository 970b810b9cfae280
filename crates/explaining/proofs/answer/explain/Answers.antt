use Rattle.std.proofs.Common.{◌∙◌, sym, ap, subst}
use Rattle.meta_types.specs.Limits.{is_too_large}
use Rattle.meta_types.specs.Rows.{Records}
use Rattle.meta_types.specs.Explanations.{is_asked, IsExplanation}
use Rattle.explaining.specs.RowLists.{records_in}
use Rattle.explaining.proofs.SameThings.{same_thing, as_large, explanation_as}
use Rattle.explaining.proofs.answer.explain.Goals as goal

-- rows that are listed as they arrived are the records' in order
pub returns-clause-ok : goal.returns-clause-ok
returns-clause-ok g c =
    let kept : Records = records_in c.args.records.now in
    let asked = is_asked c.args.ns.now c.args.object.now in
    let listed : Records = c.in_ok-listed.listed in
    let told = c.in_ok-explanation.explanation in
    let order = c.in_ok-listed.ensures.ok in
    explanation_as listed kept order.profile (same_thing listed kept order) c.args.at.0 asked told.kept told.path.items
    (subst (λ (rows : Records). IsExplanation rows c.args.at.0 asked told.kept told.path.items) c.rows-rows.ensures.records c.in_ok-explanation.ensures.ok)

-- they are as many
pub explain_rows-requires-clause-few : goal.explain_rows-requires-clause-few
explain_rows-requires-clause-few g c κs within =
    ap is_too_large c.rows-rows.ensures.records ∙ as_large c.in_ok-listed.listed (records_in c.args.records.now) c.in_ok-listed.ensures.ok
    ∙ sym c.is_too_large.ensures ∙ c.if-is_too_large.false
