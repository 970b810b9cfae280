use Rattle.std.proofs.Common.{refl, inl}
use Rattle.scripts.proofs.answering.render.Goals as goal

-- what names something may be refused for memory
pub returns-in-Replied-clause-said : goal.returns-in-Replied-clause-said
returns-in-Replied-clause-said c = rw c.in-Replied.is c.render_reply-said.ensures.said

-- the text of a row stands beside it
pub returns-in-Shown-clause-said : goal.returns-in-Shown-clause-said
returns-in-Shown-clause-said c = rw c.in-Shown.is (inl c.into_text.ensures)

pub returns-in-There-clause-said : goal.returns-in-There-clause-said
returns-in-There-clause-said c = rw c.in-There.is (inl c.there_text.ensures)

-- rows may be refused for memory
pub returns-in-Listed-clause-said : goal.returns-in-Listed-clause-said
returns-in-Listed-clause-said c = rw c.in-Listed.is c.render_rows.ensures.said

-- objects are said as they are
pub returns-in-Objects-clause-said : goal.returns-in-Objects-clause-said
returns-in-Objects-clause-said c = rw c.in-Objects.is (inl refl)

-- a report is said as it is
pub returns-in-Reported-clause-said : goal.returns-in-Reported-clause-said
returns-in-Reported-clause-said c = rw c.in-Reported.is (inl refl)

pub returns-in-Removed-clause-said : goal.returns-in-Removed-clause-said
returns-in-Removed-clause-said c = rw c.in-Removed.is (inl refl)

-- so is a refusal
pub returns-in-Refused-clause-said : goal.returns-in-Refused-clause-said
returns-in-Refused-clause-said c = rw c.in-Refused.is (inl c.refusal_text.ensures)

-- the answers to questions
pub returns-in-Explained-clause-said : goal.returns-in-Explained-clause-said
returns-in-Explained-clause-said c = rw c.in-Explained.is c.render_explanation-said.ensures.said

pub returns-in-Foreseen-clause-said : goal.returns-in-Foreseen-clause-said
returns-in-Foreseen-clause-said c = rw c.in-Foreseen.is c.render_impact-said.ensures.said
