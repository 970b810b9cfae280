use Rattle.std.proofs.Common.{◌∙◌}
use Rattle.table_sweep.proofs.Alike.{content_alike}
use Rattle.table_sweep.proofs.names.removed_content.Goals as goal

pub returns-clause-ok : goal.returns-clause-ok
returns-clause-ok c = c.in_ok-names-2.ensures.ok ∙ content_alike _ c.in_ok-names.names.items
    c.in_ok-names.ensures.ok
