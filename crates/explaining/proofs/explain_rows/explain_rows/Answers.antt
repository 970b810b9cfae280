use Rattle.std.proofs.Common.{◌∙◌, List, map, sym, subst}
use Rattle.meta_types.specs.Explanations.{AreTold}
use Rattle.meta_types.specs.declared.explanation.By.TheVariants.{Root, Ended}
use Rattle.gc_graph.specs.Stored.{records_of}
use Rattle.explaining.specs.declared.thing_row.ThingRow.{ThingRow}
use Rattle.explaining.specs.ThingRows.{thing_of}
use Rattle.explaining.specs.Questions.{asked_by}
use Rattle.explaining.specs.StepWords.{AreLinked}
use Rattle.explaining.proofs.TellPaths.{linked, linked_last, is_kept, was_kept, none_there, some_there, none_explains_it}
use Rattle.explaining.proofs.explain_rows.explain_rows.Goals as goal

-- no path leads to the row at the moment
pub ended_path-requires-clause-none : goal.ended_path-requires-clause-none
ended_path-requires-clause-none g c =
    none_explains_it (records_of c.args.rows.now) c.args.at.0 (asked_by c.args.question)
    (map thing_of c.in_ok-path.path.items)
    (none_there c.in_ok-path.path.items (sym c.has_none.ensures ∙ c.if-has_none.true))
    c.in_ok-path.ensures.ok

-- each thing of the path of then has a reason
pub steps_of-requires : goal.steps_of-requires
steps_of-requires g c =
    subst (λ (l : List ThingRow). AreLinked (map thing_of l)) (sym c.deref.ensures.value)
    (linked_last (records_of c.args.rows.now) (asked_by c.args.question)
    (map thing_of c.in_ok-before.before.items) c.in_ok-before.ensures.ok)

-- so has each of the path now
pub steps_of-requires-2 : goal.steps_of-requires-2
steps_of-requires-2 g c =
    subst (λ (l : List ThingRow). AreLinked (map thing_of l)) (sym c.deref-2.ensures.value)
    (linked (records_of c.args.rows.now) c.args.at.0 (asked_by c.args.question) (map thing_of c.in_ok-path.path.items) c.in_ok-path.ensures.ok)

pub returns-then-has_none-clause-ok : goal.returns-then-has_none-clause-ok
returns-then-has_none-clause-ok g c =
    was_kept (records_of c.args.rows.now) c.args.at.0 (asked_by c.args.question) (map thing_of c.in_ok-path.path.items) (map thing_of c.in_ok-before.before.items) c.in_ok-past.past.items
    (none_there c.in_ok-path.path.items (sym c.has_none.ensures ∙ c.if-has_none.true)) c.in_ok-path.ensures.ok c.in_ok-before.ensures.ok
    (subst (λ (l : List ThingRow). AreTold c.args.rows.now.profile Ended
    (map thing_of l) c.in_ok-past.past.items) c.deref.ensures.value c.in_ok-past.ensures.ok)

pub returns-clause-ok : goal.returns-clause-ok
returns-clause-ok g c =
    is_kept (records_of c.args.rows.now) c.args.at.0 (asked_by c.args.question) (map thing_of c.in_ok-path.path.items) c.in_ok-steps.steps.items
    (some_there c.in_ok-path.path.items (sym c.has_none.ensures ∙ c.if-has_none.false)) c.in_ok-path.ensures.ok
    (subst (λ (l : List ThingRow). AreTold c.args.rows.now.profile Root
    (map thing_of l) c.in_ok-steps.steps.items) c.deref-2.ensures.value c.in_ok-steps.ensures.ok)
