-- The report of a plan and of what was swept, and what the three come to. Ours,
-- unless a source stands beside.
use Rattle.std.specs.Prelude.{◌≡◌, Bool, false, ℤ, length}
use Rattle.meta_types.specs.Rows.{Records, BackLists, State}
use Rattle.meta_types.specs.Reports.{Report, Collects, Plans}
use Rattle.table_sweep.specs.declared.planning.Plan.{Plan}
use Rattle.table_sweep.specs.Stays.{AreMasks}
use Rattle.table_sweep.specs.InKeyOrder.{records_in_key_order}
use Rattle.table_sweep.specs.Plans.{IsPlanOfRows}
use Rattle.meta_types.specs.Paths.{Thing}
use Rattle.meta_types.specs.Collected.{collected_records}
use Rattle.backend_sweep.specs.Planned.{IsPlanOf}
use Rattle.backend_sweep.specs.ObjectOutcomes.{AllOutcomes, removed_of, failed_of}
use Rattle.backend_sweep.specs.Swept.{SweepsNames}

-- the report of a collection is that of its dry run, but for what was swept
abbrev pub reported : Report → AllOutcomes → Report
reported planned outcomes = record planned {
  backend = removed_of planned.backend outcomes;
  dry = false;
  failed = failed_of planned.backend outcomes;
}

-- the plan of a store
abbrev pub IsPlanOfStore : State → ℤ → Plan → Type 0
IsPlanOfStore state at plan = IsPlanOf state.records (length state.records.tables.namespaces) state.backends at plan

-- the backends are swept of what the plan names
abbrev pub SweepsBackends : Plan → BackLists → AllOutcomes → BackLists → Type 0
SweepsBackends plan old outcomes new = SweepsNames plan.report.backend old new outcomes

-- records that arrived so are swept of what the masks don't keep: what is left
-- is seen in the order of keys
abbrev pub SweepsRecords : Plan → Records → Records → Type 0
SweepsRecords plan arrived new = (at : ℤ) (reached : Thing → Bool) → AreMasks arrived at reached plan.masks → new ≡ collected_records at reached (records_in_key_order arrived)

-- a plan of records as they arrived, both sweeps by it and the report are a collection of them in the
-- order of keys, with the failures of the sweep
abbrev pub ASweptPlanIsACollection : Type 0
ASweptPlanIsACollection = (arrived : Records) (backends : BackLists) (at : ℤ) (plan : Plan)
    (outcomes : AllOutcomes) (records : Records) (back : BackLists)
    → IsPlanOfRows arrived (length arrived.tables.namespaces) backends at plan
    → SweepsRecords plan arrived records → SweepsBackends plan backends outcomes back
    → Collects (record { records = records_in_key_order arrived; backends = backends }) at
    (failed_of plan.report.backend outcomes) (reported plan.report outcomes)
    (record { records = records; backends = back })

-- the report of a plan of a store is that of a dry run
abbrev pub APlanIsADryRun : Type 0
APlanIsADryRun = (state : State) (at : ℤ) (plan : Plan) → IsPlanOfStore state at plan → Plans state at plan.report
