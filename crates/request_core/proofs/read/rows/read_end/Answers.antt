use Rattle.std.proofs.Common.{◌≡◌, ◌∙◌, ap, sym, subst, rules, Option, ℤ, pos, ◌+ℤ◌, to_z, of_z, FitsSigned}
use Rattle.std.proofs.lemmas.Int.{to_z-of_z}
use mir.Syntax.{w128}
use Rattle.std.specs.Prelude.{is_some}
use Rattle.meta_types.specs.Time.{instant_of}
use Rattle.request_core.proofs.IngestEnds.{a_day_later, end_at}
use Rattle.request_core.proofs.read.rows.read_end.Goals as goal

-- the text is a time
pub returns-in-Some-clause-there : goal.returns-in-Some-clause-there
returns-in-Some-clause-there c = ap (λ (moment : Option ℤ). is_some moment) (c.in-Some.ensures.moment ∙ ap instant_of c.text.ensures)

-- it is none
pub returns-in-None-clause-there : goal.returns-in-None-clause-there
returns-in-None-clause-there c = ap (λ (moment : Option ℤ). is_some moment) (c.in-None.ensures.moment ∙ ap instant_of c.text.ensures)

-- and so there is no end
pub returns-in-None-clause-end : goal.returns-in-None-clause-end
returns-in-None-clause-end c = ap a_day_later (c.in-None.ensures.moment ∙ ap instant_of c.text.ensures)

-- a day more is a moment still
pub overflow_add-result : goal.overflow_add-result
overflow_add-result c =
    let same : to_z w128 (of_z w128 c.in-Some.moment.0) ≡ c.in-Some.moment.0 = search rules in
    subst (λ (z : ℤ). FitsSigned w128 (z +ℤ pos 86400000000000)) (sym same) c.in-Some.ensures.wide

-- the end is a day later
pub returns-in-Some-clause-end : goal.returns-in-Some-clause-end
returns-in-Some-clause-end c =
    let same : to_z w128 (of_z w128 c.in-Some.moment.0) ≡ c.in-Some.moment.0 = search rules in
    ap (λ (z : ℤ). end_at (to_z w128 (of_z w128 (z +ℤ pos 86400000000000)))) same
    ∙ ap end_at (to_z-of_z w128 (c.in-Some.moment.0 +ℤ pos 86400000000000) c.in-Some.ensures.wide)
    ∙ ap a_day_later (c.in-Some.ensures.moment ∙ ap instant_of c.text.ensures)
