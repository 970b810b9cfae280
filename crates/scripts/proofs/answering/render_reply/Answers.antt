use Rattle.std.proofs.Common.{◌≡◌, true, false, inl, inr}
use Rattle.scripts.proofs.RenderedTexts.{not_so}
use Rattle.scripts.proofs.answering.render_reply.Goals as goal

-- the text
pub returns-in-Ok-clause-said : goal.returns-in-Ok-clause-said
returns-in-Ok-clause-said c = inl c.in-Ok.ensures.ok

-- a reply that names nothing has its text always
pub returns-in-Err-clause-said : goal.returns-in-Err-clause-said
returns-in-Err-clause-said c =
    inr (
      not_so _ (λ done. let wrong : false ≡ true = c.in-Err.ensures.fixed done in absurd cc),
      c.refusal_text.ensures,
    )
