use Rattle.request_core.proofs.Undone.{content_again}
use Rattle.request_core.proofs.add.content.insert_content.Goals as goal

-- the row is taken out again
pub returns-in-Err-clause-err : goal.returns-in-Err-clause-err
returns-in-Err-clause-err g c = (
  content_again _ _ _ _ c.in_ok-add_row_of.ensures.ok c.remove_content.ensures.left
      c.in_ok-add_row_of.ensures.free,
  c.in-Err.ensures.err.0,
  c.in-Err.ensures.err.1,
)
