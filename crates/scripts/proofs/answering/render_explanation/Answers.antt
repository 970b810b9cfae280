use Rattle.std.proofs.Common.{refl}
use Rattle.meta_types.specs.Questions.{explains, of_question}
use Rattle.reply_line.specs.Explained.{told_of}
use Rattle.scripts.proofs.RenderedTexts.{rendered_of}
use Rattle.scripts.proofs.answering.render_explanation.Goals as goal

-- the text, or that memory refuses it
pub returns-clause-said : goal.returns-clause-said
returns-clause-said c =
    rendered_of c.explanation_text.result _ (of_question (explains
    (told_of c.args.explanation.now))) refl
    c.text_or_refusal.ensures.ok c.text_or_refusal.ensures.err c.explanation_text.ensures.ok
