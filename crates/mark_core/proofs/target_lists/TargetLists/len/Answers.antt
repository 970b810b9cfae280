use Rattle.std.proofs.Common.{◌∙◌, ap, sym, length}
use Rattle.mark_core.proofs.ListEnds.{length-lists}
use Rattle.mark_core.proofs.target_lists.TargetLists.len.Goals as goal

-- there is one list an end
pub returns-clause-count : goal.returns-clause-count
returns-clause-count c =
    c.len.ensures
    ∙ c.self.inside.ends.ok.0
    ∙ sym (length-lists c.self.inside.targets.items 0 c.self.inside.ends.items)
    ∙ ap length c.self.view_is
