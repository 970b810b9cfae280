-- A plan, the sweeps by it and its report are a collection.
use Rattle.std.proofs.Common.{ap, ℤ, false, length}
use Rattle.meta_types.specs.Rows.{Records, BackLists, State}
use Rattle.meta_types.specs.Collected.{collected_records}
use Rattle.meta_types.specs.Reports.{Collects, Plans}
use Rattle.table_sweep.specs.declared.planning.Plan.{Plan}
use Rattle.table_sweep.specs.InKeyOrder.{records_in_key_order}
use Rattle.table_sweep.specs.Plans.{IsPlanOfRows}
use Rattle.backend_sweep.specs.ObjectOutcomes.{AllOutcomes, failed_of}
use Rattle.collection.specs.Whole.{reported, IsPlanOfStore, SweepsBackends, SweepsRecords}

-- a plan's report, with what was swept
pub a_swept_plan_is_a_collection : (arrived : Records) (backends : BackLists) (at : ℤ) (plan : Plan)
    (outcomes : AllOutcomes) (records : Records) (back : BackLists)
    → IsPlanOfRows arrived (length arrived.tables.namespaces) backends at plan
    → SweepsRecords plan arrived records → SweepsBackends plan backends outcomes back
    → Collects (record { records = records_in_key_order arrived; backends = backends }) at
    (failed_of plan.report.backend outcomes) (reported plan.report outcomes)
    (record { records = records; backends = back })
a_swept_plan_is_a_collection arrived backends at plan outcomes records back p rows objects =
    let left = collected_records at p.reached (records_in_key_order arrived) in
    let s = objects left.tables (ap (λ report. report.backend) p.report_is) in
    let rows_are = rows at p.reached p.masks in
    record {
      reached = p.reached;
      tells = p.tells;
      may_fail = s.may_fail;
      state_is = λ i. record { records = rows_are i; backends = s.left_is i };
      report_is = λ i. record (p.report_is i) {
        backend = s.removed_is i;
        dry = false;
        failed = failed_of plan.report.backend outcomes;
      };
    }

-- a plan's report as it is
pub a_plan_is_a_dry_run : (state : State) (at : ℤ) (plan : Plan)
    → IsPlanOfStore state at plan → Plans state at plan.report
a_plan_is_a_dry_run state at plan p = record {
  reached = p.reached;
  tells = p.tells;
  report_is = p.report_is;
}
