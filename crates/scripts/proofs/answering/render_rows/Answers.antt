use Rattle.std.proofs.Common.{refl, inl, inr}
use Rattle.scripts.proofs.answering.render_rows.Goals as goal

-- the rows
pub returns-in-Ok-clause-said : goal.returns-in-Ok-clause-said
returns-in-Ok-clause-said c = inl refl

-- or memory refuses them
pub returns-in-Err-clause-said : goal.returns-in-Err-clause-said
returns-in-Err-clause-said c = inr (refl, c.refusal_text.ensures)
