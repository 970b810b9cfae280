use Rattle.scripts.proofs.Changing.{refused_keeps}
use Rattle.scripts.proofs.answering.line_outcome.Goals as goal

-- a refused line changed nothing
pub returns-in-Err-clause-still : goal.returns-in-Err-clause-still
returns-in-Err-clause-still g c = λ none.
    refused_keeps c.args.locked.now.store.state c.args.line.now _ _ c.in-Err.ensures.err
