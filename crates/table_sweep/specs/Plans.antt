-- What a plan says of a store. Ours, unless a source stands beside.
use Rattle.std.specs.Prelude.{◌≡◌, ℕ, Bool, true, ℤ}
use Rattle.meta_types.specs.Rows.{Records, BackLists}
use Rattle.meta_types.specs.Paths.{Thing, TellsReached}
use Rattle.meta_types.specs.Backends.{no_objects}
use Rattle.meta_types.specs.Reports.{Report, report_of}
use Rattle.table_sweep.specs.declared.planning.Plan.{Plan}
use Rattle.table_sweep.specs.Stays.{AreMasks}
use Rattle.table_sweep.specs.InKeyOrder.{records_in_key_order}

-- What a dry run of these records and lists reports, by this test of what paths reach. The number
-- of namespaces, all of which stay, is given.
abbrev pub dry_report_of : Records → ℕ → BackLists → ℤ → (Thing → Bool) → Report
dry_report_of records namespaces back at reached =
    let report = report_of (record { records = records; backends = back }) at reached no_objects true in
    record report { kept = record report.kept { namespaces = namespaces } }

-- The plan is that of a collection of these rows as they arrived: some test tells where paths end. By
-- it the masks are in arrival order, and the report is of the rows in key order.
pub record IsPlanOfRows (arrived : Records) (namespaces : ℕ) (back : BackLists) (at : ℤ) (plan : Plan) : Type 0 where
  pub reached : Thing → Bool
  pub tells : TellsReached (records_in_key_order arrived) at reached
  pub masks : AreMasks arrived at reached plan.masks
  pub report_is : plan.report ≡ dry_report_of (records_in_key_order arrived) namespaces back at reached

-- The plan is that of a collection of these records: some test tells where paths end, and the plan
-- is by it. Its masks are of the rows in some arrival order.
pub record IsPlanOf (records : Records) (namespaces : ℕ) (back : BackLists) (at : ℤ) (plan : Plan) : Type 0 where
  pub reached : Thing → Bool
  pub tells : TellsReached records at reached
  pub arrived : Records
  pub in_order : records_in_key_order arrived ≡ records
  pub masks : AreMasks arrived at reached plan.masks
  pub report_is : plan.report ≡ dry_report_of records namespaces back at reached
