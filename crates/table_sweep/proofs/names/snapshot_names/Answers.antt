use Rattle.std.proofs.Common.{◌∙◌, ap, map}
use Rattle.meta_types.specs.declared.rows.SnapRow.{SnapRow}
use Rattle.table_sweep.specs.declared.prefix_order.Prefixed.{Prefixed}
use Rattle.table_sweep.specs.Masks.{gone}
use Rattle.table_sweep.proofs.Permuted.{names_permuted}
use Rattle.table_sweep.proofs.names.snapshot_names.Goals as goal

-- the names of rows in another order
pub returns-clause-ok : goal.returns-clause-ok
returns-clause-ok c =
    names_permuted (λ (row : SnapRow). (row.key.ns, row.key.snapshotter, row.key.name))
    (λ (one : Prefixed SnapRow). one.row.now)
    (gone c.args.mask.now c.args.rows.now) c.in-Ok.near.items c.in_ok-names-3.names.items
    c.in-Ok.ensures.ok
    (c.in_ok-names-3.ensures.ok ∙ ap (map (λ (one : Prefixed SnapRow).
    (one.row.now.key.ns, one.row.now.key.snapshotter, one.row.now.key.name))) c.deref.ensures.value)
