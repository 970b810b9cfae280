use Rattle.std.proofs.Common.{◌∙◌, sym, subst}
use Rattle.meta_types.specs.Rows.{State}
use Rattle.scripts.specs.ReplyTexts.{reply_bytes}
use Rattle.scripts.specs.StoreSteps.{LineSteps}
use Rattle.scripts.proofs.line_store.LineStore.reply.Goals as goal

-- the rows that were counted are no part of the store
pub returns-clause-ok : goal.returns-clause-ok
returns-clause-ok g c =
    let executed = c.in_ok-executed.executed in
    subst (λ (s : State). LineSteps c.args.self.now c.args.line.now (reply_bytes executed.reply)
    executed.changes s) (sym c.count_rows.ensures)
    (c.in_ok-executed.ensures.ok, c.in_ok-executed.ensures.changes)

pub returns-clause-report : goal.returns-clause-report
returns-clause-report g c report =
    c.count_rows.ensures ∙ c.in_ok-executed.ensures.report report
