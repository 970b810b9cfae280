-- A row that has the next number is numbered apart from all others.
use Rattle.std.proofs.Common.{◌≡◌, false, not, None, arith}
use Rattle.std.proofs.lemmas.Bool.{or_parts, not-false}
use Rattle.meta_types.specs.Keys.{has_row, add_row}
use Rattle.meta_types.specs.Rows.{State, ingest_key, snap_key}
use Rattle.meta_types.specs.Changes.{has_namespace}
use Rattle.meta_types.specs.Sound.{AreNumbered, IsSound}
use Rattle.meta_types.specs.declared.rows.IngestRow.{IngestRow}
use Rattle.meta_types.specs.declared.rows.SnapRow.{SnapRow}
use Rattle.object_tables.specs.Calls.{adding_fault, adding_snap_fault}
use Rattle.object_tables.proofs.ParentsKept.{has_parent}
use Rattle.request_core.proofs.ListsSound.{fine}
use Rattle.request_core.proofs.IngestsSound.{tables_begun}
use Rattle.request_core.proofs.MadeSound.{parent_below, tables_made}

-- an ingest that begins
pub ingest_numbered : (state : State) (row : IngestRow) → IsSound state
    → row.number ≡ state.records.next
    → adding_fault state.records.tables row.ns
    (has_row ingest_key (ingest_key row) state.records.tables.ingests) ≡ None
    → AreNumbered state.records.tables.snapshots
    (add_row ingest_key row state.records.tables.ingests)
ingest_numbered state row s numbered none =
    let f = fine false _ _ false none in
    (tables_begun state row s numbered (not-false _ f.1) f.2).numbered

-- a snapshot that is made
pub snap_numbered : (state : State) (row : SnapRow) → IsSound state
    → row.number ≡ state.records.next → adding_snap_fault state.records.tables row ≡ None
    → AreNumbered (add_row snap_key row state.records.tables.snapshots)
    state.records.tables.ingests
snap_numbered state row s numbered none =
    let f = fine false _ _ _ none in
    let missing = or_parts (not (has_namespace state.records.tables row.key.ns)) _ f.1 in
    let has = has_parent state.records.tables.snapshots row missing.1 f.3
    (λ above e. (let lt = parent_below state row s numbered above e in omega (arith, lt, numbered))) in
    (tables_made state row s numbered (not-false _ missing.0) f.2 has).numbered
