use Rattle.std.proofs.Common.{◌∙◌, sym}
use Rattle.std.proofs.lemmas.List.{append-nil}
use Rattle.journal.proofs.Behind.{whole_only, longer_behind}
use Rattle.journal.proofs.page.paged.PagedLog.grow.Goals as goal

pub returns-in-Err-clause-crash : goal.returns-in-Err-clause-crash
returns-in-Err-clause-crash g c clean only out left =
    let it = c.args.self.now in
    let is_open = c.if-not-self.false in
    longer_behind it.from _ _ (it.room is_open clean)
    (c.grow.ensures.crash clean (whole_only it.from _ _ (it.settled is_open clean) only)) out left

pub returns-clause-crash : goal.returns-clause-crash
returns-clause-crash g c clean only out left =
    let it = c.args.self.now in
    let is_open = c.if-not-self.false in
    longer_behind it.from _ _ (it.room is_open clean)
    (c.grow.ensures.crash clean (whole_only it.from _ _ (it.settled is_open clean) only)) out left

pub returns-then-not-self-clause-crash : goal.returns-then-not-self-clause-crash
returns-then-not-self-clause-crash g c clean only out left =
    (0, only out left ∙ sym (append-nil _))
