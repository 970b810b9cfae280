use Rattle.std.proofs.Common.{◌∙◌}
use Rattle.row_tables.proofs.NamespaceHomes.{empty_there, full_there}
use Rattle.row_tables.proofs.namespaces.change.close.Goals as goal

-- an empty one goes
pub returns-then-len-eq0 : goal.returns-then-len-eq0
returns-then-len-eq0 g c group at =
    let gone = rw (c.take_at-gone.ensures.entry ∙ at) at c.take_at-gone.ensures.entries in
    empty_there c.args.groups.now.entries c.args.home group c.index.result.now c.len.result at
    c.index.ensures c.len.ensures.len c.if-len-eq0.true gone

pub returns-else-len-eq0 : goal.returns-else-len-eq0
returns-else-len-eq0 g c group at =
    full_there c.args.groups.now.entries c.args.home group c.index.result.now c.len.result at
    c.index.ensures c.len.ensures.len c.if-len-eq0.false
