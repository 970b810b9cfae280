use Rattle.scripts.proofs.showing.foresee.Goals as goal

-- the row is the store's, and the replies are its replies
pub returns-clause-ok : goal.returns-clause-ok
returns-clause-ok g c = (
  c.in_ok-row.row,
  c.in_ok-row.ensures.ok,
  rw c.is_some.ensures at c.in_ok-replies.ensures.ok,
)
