use Rattle.std.proofs.Common.{◌∙◌, ap, map}
use Rattle.meta_types.specs.declared.rows.ContentRow.{ContentRow}
use Rattle.table_sweep.specs.declared.prefix_order.Prefixed.{Prefixed}
use Rattle.table_sweep.specs.Masks.{gone}
use Rattle.table_sweep.proofs.Permuted.{names_permuted}
use Rattle.table_sweep.proofs.names.content_names.Goals as goal

-- the names of rows in another order
pub returns-clause-ok : goal.returns-clause-ok
returns-clause-ok c =
    names_permuted (λ (row : ContentRow). (row.ns, row.digest))
    (λ (one : Prefixed ContentRow). one.row.now)
    (gone c.args.mask.now c.args.rows.now) c.in-Ok.near.items c.in_ok-names-3.names.items
    c.in-Ok.ensures.ok
    (c.in_ok-names-3.ensures.ok ∙ ap (map (λ (one : Prefixed ContentRow).
    (one.row.now.ns, one.row.now.digest))) c.deref.ensures.value)
