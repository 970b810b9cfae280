use Rattle.std.proofs.Common.{◌∙◌}
use Rattle.collection.proofs.LeftOut.{fit_as, stay_as}
use Rattle.collection.proofs.leaving.Planned.sweep.Goals as goal

-- the rows that are listed are those that the masks are of
pub sweep-requires-clause-rows : goal.sweep-requires-clause-rows
sweep-requires-clause-rows c =
    fit_as c.args.self.now.plan.masks _ _ _ _ c.keep.ensures.tables c.keep.ensures.leases
    c.requires.rows

pub sweep-requires-clause-numbered : goal.sweep-requires-clause-numbered
sweep-requires-clause-numbered c =
    stay_as c.args.self.now.plan.masks _ _ c.keep.ensures.tables c.requires.numbered

pub returns-clause-tables : goal.returns-clause-tables
returns-clause-tables c of from are =
    c.sweep.ensures.tables of (c.keep.ensures.tables ∙ from) are

pub returns-clause-leases : goal.returns-clause-leases
returns-clause-leases c of from are =
    c.sweep.ensures.leases of (c.keep.ensures.leases ∙ from) are
