use Rattle.std.proofs.Common.{◌∙◌, subst}
use Rattle.std.specs.Prelude.{IfOk}
use Rattle.meta_types.specs.Limits.{is_too_large}
use Rattle.meta_types.specs.Rows.{Records}
use Rattle.meta_types.specs.Reports.{Plans}
use Rattle.table_sweep.specs.Backed.{lists_of}
use Rattle.collection.specs.Impacts.{is_parent, less_row}
use Rattle.collection.specs.Stores.{records_in}
use Rattle.collection.proofs.dry.dry_copied.Goals as goal

-- the row is no parent in the copy either
pub dry_removed-requires-clause-parent : goal.dry_removed-requires-clause-parent
dry_removed-requires-clause-parent g c κs within =
    (λ i. is_parent (records_in (c.in_ok-left.ensures.ok i)) c.args.row.now) ∙ c.requires.parent

-- the copy is no larger
pub dry_removed-requires-clause-few : goal.dry_removed-requires-clause-few
dry_removed-requires-clause-few g c κs within =
    (λ i. is_too_large (records_in (c.in_ok-left.ensures.ok i))) ∙ c.requires.few

pub returns-clause-fault : goal.returns-clause-fault
returns-clause-fault g c = c.dry_removed.ensures.fault

-- a report of the copy is one of the records
pub returns-clause-ok : goal.returns-clause-ok
returns-clause-ok g c =
    subst (λ (r : Records). IfOk c.dry_removed.result (Plans (record {
      records = less_row r c.args.row.now;
      backends = lists_of c.args.back.now;
    }) c.args.at.0)) (λ i. records_in (c.in_ok-left.ensures.ok i)) c.dry_removed.ensures.ok
