use Rattle.std.proofs.Common.{◌∙◌, Bool, Bor, List, ap, map}
use Rattle.object_tables.specs.Calls.{kept}
use Rattle.meta_types.specs.declared.rows.SnapRow.{SnapRow}
use Rattle.table_sweep.specs.Depths.{Listed, key_of}
use Rattle.table_sweep.specs.Owned.{is_snap_removed}
use Rattle.table_sweep.proofs.Permuted.{kept_each}
use Rattle.table_sweep.proofs.objects.removed_keys.Goals as goal

pub returns-clause-ok : goal.returns-clause-ok
returns-clause-ok c =
    let snapshots = c.args.snapshots.now in
    let owned : Listed → Bool = is_snap_removed (map (λ (row : Bor SnapRow). row.now)
    c.args.owners.now)
    in
    c.in_ok-keys.ensures.ok
    ∙ ap (λ (l : List Bool). map (key_of snapshots) (kept l snapshots))
    (c.deref.ensures.value ∙ c.in_ok-goes.ensures.ok)
    ∙ kept_each owned (key_of snapshots) snapshots
