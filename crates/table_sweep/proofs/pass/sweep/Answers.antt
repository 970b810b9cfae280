use Rattle.std.proofs.Common.{ap, ◌∙◌}
use Rattle.meta_types.specs.Rows.{lease_key}
use Rattle.row_tables.specs.Arrived.{sorted}
use Rattle.object_tables.specs.InKeyOrder.{in_key_order}
use Rattle.table_sweep.proofs.Swept.{tables_swept, leases_swept, may_sweep}
use Rattle.table_sweep.proofs.RecordsArrived.{tables_left, leases_left}
use Rattle.table_sweep.proofs.pass.sweep.Goals as goal

pub retain_snapshots-requires-clause-numbered : goal.retain_snapshots-requires-clause-numbered
retain_snapshots-requires-clause-numbered c =
    may_sweep c.args.masks.now c.args.tables.now c.retain_images.new.self c.retain_content.new.self c.retain_ingests.new.self
    c.deref.result.now c.deref-2.result.now c.deref-3.result.now c.deref-4.result.now
    c.deref-3.ensures.value c.deref-4.ensures.value
    c.retain_images.ensures.left c.retain_content.ensures.left c.retain_ingests.ensures.left c.requires.numbered

pub returns-clause-tables : goal.returns-clause-tables
returns-clause-tables c of from are =
    ap in_key_order (tables_swept of c.args.masks.now are c.args.tables.now c.retain_images.new.self c.retain_content.new.self c.retain_ingests.new.self c.retain_snapshots.new.self
    from c.deref.result.now c.deref-2.result.now c.deref-3.result.now c.deref-4.result.now
    c.deref.ensures.value c.deref-2.ensures.value c.deref-3.ensures.value c.deref-4.ensures.value
    c.retain_images.ensures.left c.retain_content.ensures.left c.retain_ingests.ensures.left c.retain_snapshots.ensures.left)
    ∙ tables_left of.reached of.records.profile of.at of.records.tables

pub returns-clause-leases : goal.returns-clause-leases
returns-clause-leases c of from are =
    ap (sorted lease_key) (leases_swept of c.args.masks.now are c.args.leases.now c.retain.new.self from c.deref-5.result.now c.deref-5.ensures.value c.retain.ensures.left)
    ∙ leases_left of.at of.records.leases
