use Rattle.std.proofs.Common.{refl}
use Rattle.meta_types.specs.Questions.{foresees, of_question}
use Rattle.scripts.proofs.RenderedTexts.{rendered_of}
use Rattle.scripts.proofs.answering.render_impact.Goals as goal

-- the text, or that memory refuses it
pub returns-clause-said : goal.returns-clause-said
returns-clause-said c =
    rendered_of c.impact_text.result _ (of_question (foresees c.args.impact.now)) refl
    c.text_or_refusal.ensures.ok c.text_or_refusal.ensures.err c.impact_text.ensures.ok
