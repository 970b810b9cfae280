-- A plan follows the paths. Each statement is the contract of a function of the module `laws`.
-- Ours, unless a source stands beside.
use Rattle.std.specs.Prelude.{◌≡◌, ℕ, List, ◌↔◌, ℤ, Contains}
use Rattle.meta_types.specs.Rows.{Records, BackLists}
use Rattle.meta_types.specs.Paths.{ingest, content, snapshot, IsReached}
use Rattle.meta_types.specs.declared.rows.ContentRow.{ContentRow}
use Rattle.meta_types.specs.declared.rows.IngestRow.{IngestRow}
use Rattle.meta_types.specs.declared.rows.SnapRow.{SnapRow}
use Rattle.meta_types.specs.declared.resource.Mode.{Mode}
use Rattle.mark_core.specs.declared.graph.Graph.{Graph}
use Rattle.gc_graph.specs.declared.node.Node.{Node}
use Rattle.gc_graph.specs.Built.{AreApart, IsBuilt}
use Rattle.gc_graph.specs.Laws.{AreReached}
use Rattle.gc_graph.specs.Marked.{reached_by}
use Rattle.table_sweep.specs.declared.planning.Plan.{Plan}
use Rattle.table_sweep.specs.InKeyOrder.{records_in_key_order}
use Rattle.table_sweep.specs.Stays.{AreMasks}
use Rattle.table_sweep.specs.Plans.{dry_report_of, IsPlanOf, IsPlanOfRows}

-- by the graph of the rows as they arrived and its reached numbers, a plan is that of a collection
abbrev pub ReachedMarksPlanACollection : Type 0
ReachedMarksPlanACollection = (arrived : Records) (namespaces : ℕ) (back : BackLists) (at : ℤ) (book : List Node) (graph : Graph) (marks : List ℕ) (plan : Plan)
    → IsBuilt arrived at book graph → AreReached graph marks
    → AreMasks arrived at (reached_by arrived.profile book marks at) plan.masks
    → plan.report ≡ dry_report_of (records_in_key_order arrived) namespaces back at (reached_by arrived.profile book marks at)
    → IsPlanOfRows arrived namespaces back at plan

-- a row is among the removed ones exactly where no path leads to it, in either mode (containerd
-- garbage-collection.md)
pub record GoesWhatNoPathLeadsTo (records : Records) (at : ℤ) (plan : Plan) : Type 0 where
  pub content_rows : (row : ContentRow) → Contains records.tables.content row
      → Contains plan.report.removed.content (row.ns, row.digest) ↔ ((mode : Mode) → IsReached records at (content mode row) → ⊥)
  pub snapshot_rows : (row : SnapRow) → Contains records.tables.snapshots row
      → Contains plan.report.removed.snapshots (row.key.ns, row.key.snapshotter, row.key.name) ↔ ((mode : Mode) → IsReached records at (snapshot mode row) → ⊥)
  pub ingest_rows : (row : IngestRow) → Contains records.tables.ingests row
      → Contains plan.report.removed.ingests (row.ns, row.name) ↔ (IsReached records at (ingest row) → ⊥)

-- a plan names exactly the rows that no path leads to
abbrev pub APlanFollowsThePaths : Type 0
APlanFollowsThePaths = (records : Records) (namespaces : ℕ) (back : BackLists) (at : ℤ) (plan : Plan) → AreApart records → IsPlanOf records namespaces back at plan → GoesWhatNoPathLeadsTo records at plan
