use Rattle.std.proofs.Common.{◌∙◌, ap}
use Rattle.meta_types.specs.Limits.{is_too_large}
use Rattle.meta_types.specs.Rows.{Records}
use Rattle.table_sweep.specs.Backed.{lists_of}
use Rattle.collection.specs.Stores.{records_in}
use Rattle.collection.proofs.NamedRows.{few_without, plans_less}
use Rattle.collection.proofs.dry.dry_removed.Goals as goal

-- records without the row are no larger
pub dry_alone-requires-after_bounds : goal.dry_alone-requires-after_bounds
dry_alone-requires-after_bounds g c κs within =
    let row = c.args.row.now in
    let kept : Records = records_in c.args.records.now in
    ap is_too_large c.remove.ensures ∙ few_without kept row c.requires.few

-- a report of what is left is one of the records without the row
pub returns-clause-ok : goal.returns-clause-ok
returns-clause-ok g c =
    let kept : Records = records_in c.args.records.now in
    plans_less kept (records_in c.remove.new.records) c.args.row.now (lists_of c.args.back.now)
    c.args.at.0 c.in_ok-report.report c.remove.ensures c.in_ok-report.ensures.ok
