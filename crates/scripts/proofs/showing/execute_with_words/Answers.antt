use Rattle.std.proofs.Common.{◌∙◌, sym}
use Rattle.scripts.proofs.showing.execute_with_words.Goals as goal

-- the rows of a listing
pub returns-then-asks_rows-clause-ok : goal.returns-then-asks_rows-clause-ok
returns-then-asks_rows-clause-ok g c =
    c.execute_rows.ensures.ok c.args.answer.now c.args.there.now c.requires
    (sym c.asks_rows.ensures ∙ c.if-asks_rows.true)

pub returns-then-asks_rows-clause-err : goal.returns-then-asks_rows-clause-err
returns-then-asks_rows-clause-err g c =
    c.execute_rows.ensures.err c.args.answer.now c.args.there.now c.requires
    (sym c.asks_rows.ensures ∙ c.if-asks_rows.true)

-- the row of a request
pub returns-then-is_some-clause-ok : goal.returns-then-is_some-clause-ok
returns-then-is_some-clause-ok g c =
    c.execute_row.ensures.ok c.args.answer.now c.requires
    (sym c.is_some.ensures ∙ c.if-is_some.true) (sym c.asks_rows.ensures ∙ c.if-asks_rows.false)

pub returns-then-is_some-clause-err : goal.returns-then-is_some-clause-err
returns-then-is_some-clause-err g c =
    c.execute_row.ensures.err c.args.answer.now c.requires

-- an object that exists
pub returns-clause-ok : goal.returns-clause-ok
returns-clause-ok g c =
    c.execute_there.ensures.ok c.args.answer.now c.requires
    (sym c.is_some.ensures ∙ c.if-is_some.false)

pub returns-clause-err : goal.returns-clause-err
returns-clause-err g c = c.execute_there.ensures.err c.args.answer.now c.requires
