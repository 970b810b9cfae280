use Rattle.std.proofs.Common.{◌∷◌, [], ◌∙◌}
use Rattle.meta_types.specs.Rows.{snap_key}
use Rattle.row_tables.proofs.ChangedThere.{became, nothing_to_change}
use Rattle.object_tables.specs.Edits.{snap_with}
use Rattle.object_tables.proofs.parts.set_snap.Goals as goal

-- the row that was found has these parts
pub returns-in-Some-clause-left : goal.returns-in-Some-clause-left
returns-in-Some-clause-left c =
    let done = c.in-Some.ensures.changed in
    became snap_key (c.args.at.now.ns ∷ c.args.at.now.snapshotter ∷ c.args.at.now.name ∷ [])
    (snap_with c.args.labels c.args.extra) done.0 done.1 c.args.table.now c.change.new.self done.3
    done.2

-- what isn't there isn't changed
pub returns-in-None-clause-left : goal.returns-in-None-clause-left
returns-in-None-clause-left c =
    c.in-None.ensures.same ∙ nothing_to_change snap_key (c.args.at.now.ns
    ∷ c.args.at.now.snapshotter ∷ c.args.at.now.name ∷ [])
    (snap_with c.args.labels c.args.extra) c.args.table.now c.in-None.ensures.absent
