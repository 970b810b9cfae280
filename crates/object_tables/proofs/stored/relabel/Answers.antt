use Rattle.std.proofs.Common.{◌∷◌}
use Rattle.meta_types.specs.Labels.{put_label}
use Rattle.row_tables.specs.Namespaces.{full_key}
use Rattle.row_tables.proofs.ChangedThere.{became, stayed}
use Rattle.object_tables.proofs.stored.relabel.Goals as goal

-- the row that was found took the label
pub returns-in-Some-Ok-clause-ok : goal.returns-in-Some-Ok-clause-ok
returns-in-Some-Ok-clause-ok g c =
    let done = c.in-Some-Ok.ensures.changed in
    became (full_key g.K.Named.texts_of g.R.NamedRow.name_of g.R.GroupedRow.group_of) (c.args.ns.now ∷ g.K.Named.texts_of c.args.name.now) (λ row. g.R.StoredRow.with_labels (put_label c.args.key.now c.args.value.now (g.R.StoredRow.labels_in row)) row) done.0 done.1 c.args.table.now c.change.new.self done.3
    (rw c.in-Some-Ok.field-0-is at done.2.ok)

-- or refused it, and is as it was
pub returns-in-Some-Err-clause-err : goal.returns-in-Some-Err-clause-err
returns-in-Some-Err-clause-err g c =
    let done = c.in-Some-Err.ensures.changed in
    stayed (full_key g.K.Named.texts_of g.R.NamedRow.name_of g.R.GroupedRow.group_of) (c.args.ns.now ∷ g.K.Named.texts_of c.args.name.now) done.0 done.1 c.args.table.now c.change.new.self done.3 (rw c.in-Some-Err.field-0-is at done.2.err)
