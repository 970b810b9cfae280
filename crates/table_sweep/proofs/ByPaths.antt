-- A plan names just those rows that no path leads to.
use Rattle.std.proofs.Common.{◌≡◌, ℕ, ap, sym, subst, ℤ}
use Rattle.std.specs.Prelude.{Contains, ◌↔◌}
use Rattle.meta_types.specs.Text.{Text}
use Rattle.meta_types.specs.Rows.{Records, BackLists, content_key, ingest_key, snap_key}
use Rattle.meta_types.specs.Paths.{ingest, content, snapshot, IsReached}
use Rattle.meta_types.specs.Collected.{content_stays, snapshot_stays, ingest_stays}
use Rattle.meta_types.specs.Reports.{Removed}
use Rattle.meta_types.specs.declared.rows.ContentRow.{ContentRow}
use Rattle.meta_types.specs.declared.rows.IngestRow.{IngestRow}
use Rattle.meta_types.specs.declared.rows.SnapRow.{SnapRow}
use Rattle.meta_types.specs.declared.resource.Mode.{Mode}
use Rattle.meta_types.proofs.FilteredNames.{gone_and_named}
use Rattle.meta_types.proofs.Once.{ingest_in}
use Rattle.meta_types.proofs.Promised.{content_name, ingest_name, snapshot_name, content_names, ingest_names, snapshot_names, reached_content, reached_snapshot, not_told, unreached_content, unreached_snapshot}
use Rattle.gc_graph.specs.Built.{AreApart}
use Rattle.table_sweep.specs.declared.planning.Plan.{Plan}
use Rattle.table_sweep.specs.Plans.{IsPlanOf}
use Rattle.table_sweep.specs.Laws.{GoesWhatNoPathLeadsTo}
use Rattle.table_sweep.proofs.DistinctNames.{not_named}

module _ (records : Records) (namespaces : ℕ) (back : BackLists) (at : ℤ) (plan : Plan) (apart : AreApart records) (of : IsPlanOf records namespaces back at plan) where
  -- what is said of the lists that the definitions compute is said of the plan's
  of_content : (name : Text × Text) → (removed : Removed) → plan.report.removed ≡ removed → Contains plan.report.removed.content name ↔ Contains removed.content name
  of_content name removed e = (subst (λ (r : Removed). Contains r.content name) e, subst (λ (r : Removed). Contains r.content name) (sym e))

  of_snapshots : (name : Text × Text × Text) → (removed : Removed) → plan.report.removed ≡ removed → Contains plan.report.removed.snapshots name ↔ Contains removed.snapshots name
  of_snapshots name removed e = (subst (λ (r : Removed). Contains r.snapshots name) e, subst (λ (r : Removed). Contains r.snapshots name) (sym e))

  of_ingests : (name : Text × Text) → (removed : Removed) → plan.report.removed ≡ removed → Contains plan.report.removed.ingests name ↔ Contains removed.ingests name
  of_ingests name removed e = (subst (λ (r : Removed). Contains r.ingests name) e, subst (λ (r : Removed). Contains r.ingests name) (sym e))

  content_goes : (row : ContentRow) → Contains records.tables.content row → Contains plan.report.removed.content (row.ns, row.digest) ↔ ((mode : Mode) → IsReached records at (content mode row) → ⊥)
  content_goes row c =
      let is = of_content (content_name row) _ (ap (λ report. report.removed) of.report_is) in (
        (λ named mode r. not_named content_key content_name content_names (content_stays of.reached) records.tables.content apart.content row c (reached_content records at of.reached of.tells mode row c r) (is.0 named)),
        (λ none. is.1 (gone_and_named content_key content_name content_names (content_stays of.reached) records.tables.content row c (unreached_content records at of.reached of.tells row c none)).1),
      )

  snapshot_goes : (row : SnapRow) → Contains records.tables.snapshots row → Contains plan.report.removed.snapshots (row.key.ns, row.key.snapshotter, row.key.name) ↔ ((mode : Mode) → IsReached records at (snapshot mode row) → ⊥)
  snapshot_goes row c =
      let is = of_snapshots (snapshot_name row) _ (ap (λ report. report.removed) of.report_is) in (
        (λ named mode r. not_named snap_key snapshot_name snapshot_names (snapshot_stays of.reached) records.tables.snapshots apart.snapshots row c (reached_snapshot records at of.reached of.tells mode row c r) (is.0 named)),
        (λ none. is.1 (gone_and_named snap_key snapshot_name snapshot_names (snapshot_stays of.reached) records.tables.snapshots row c (unreached_snapshot records at of.reached of.tells row c none)).1),
      )

  ingest_goes : (row : IngestRow) → Contains records.tables.ingests row → Contains plan.report.removed.ingests (row.ns, row.name) ↔ (IsReached records at (ingest row) → ⊥)
  ingest_goes row c =
      let is = of_ingests (ingest_name row) _ (ap (λ report. report.removed) of.report_is) in (
        (λ named r. not_named ingest_key ingest_name ingest_names (ingest_stays of.reached) records.tables.ingests apart.ingests row c ((of.tells.each (ingest row) (ingest_in records row c)).1 r) (is.0 named)),
        (λ none. is.1 (gone_and_named ingest_key ingest_name ingest_names (ingest_stays of.reached) records.tables.ingests row c (not_told records at of.reached of.tells (ingest row) (ingest_in records row c) none)).1),
      )

  -- a plan names a row as removed exactly if no path leads to it
  pub goes : GoesWhatNoPathLeadsTo records at plan
  goes = record { content_rows = content_goes; snapshot_rows = snapshot_goes; ingest_rows = ingest_goes }
