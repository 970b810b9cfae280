use Rattle.std.proofs.Common.{◌∷◌, []}
use Rattle.meta_types.specs.Labels.{put_label}
use Rattle.meta_types.specs.Rows.{snap_key}
use Rattle.meta_types.specs.declared.rows.SnapRow.{SnapRow}
use Rattle.row_tables.proofs.ChangedThere.{became, stayed}
use Rattle.object_tables.proofs.stored.relabel_snap.Goals as goal

-- the row that was found took the label
pub returns-in-Some-Ok-clause-ok : goal.returns-in-Some-Ok-clause-ok
returns-in-Some-Ok-clause-ok c =
    let done = c.in-Some-Ok.ensures.changed in
    became snap_key (c.args.at.now.ns ∷ c.args.at.now.snapshotter ∷ c.args.at.now.name ∷ [])
    (λ (row : SnapRow). record row { labels = put_label c.args.key.now c.args.value.now row.labels })
    done.0 done.1 c.args.table.now c.change.new.self done.3 (rw c.in-Some-Ok.field-0-is at done.2.ok)

-- or refused it, and is as it was
pub returns-in-Some-Err-clause-err : goal.returns-in-Some-Err-clause-err
returns-in-Some-Err-clause-err c =
    let done = c.in-Some-Err.ensures.changed in
    stayed snap_key (c.args.at.now.ns ∷ c.args.at.now.snapshotter ∷ c.args.at.now.name ∷ [])
    done.0 done.1 c.args.table.now c.change.new.self done.3 (rw c.in-Some-Err.field-0-is at done.2.err)
