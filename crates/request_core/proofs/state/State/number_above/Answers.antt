use Rattle.std.proofs.Common.{◌∙◌, ap, ℕ, Option, true}
use Rattle.std.specs.Prelude.{option_map}
use Rattle.std.specs.Option.{option_map_or}
use Rattle.std.specs.List.{list_any}
use Rattle.meta_types.specs.Backends.{is_named}
use Rattle.meta_types.specs.Ops.Snapshots.{parent_row}
use Rattle.meta_types.specs.declared.rows.SnapRow.{SnapRow}
use Rattle.request_core.specs.Follows.{Store}
use Rattle.request_core.proofs.Prepared.{object_free, parent_held}
use Rattle.request_core.proofs.state.State.number_above.Goals as goal

-- each number of the backend is below the next
pub returns-clause-free : goal.returns-clause-free
returns-clause-free g c = object_free _ _ _ c.requires.backed.objects_below

-- a row that is there has its object
pub returns-clause-held : goal.returns-clause-held
returns-clause-held g c =
    let row = c.args.row.now in
    let state = c.args.self.now.state in
    ap (λ (found : Option ℕ). option_map_or (λ n. list_any (is_named (row.key.snapshotter, n)) state.backends.snapshots) found true)
    (c.parent_number.ensures ∙ ap (λ (store : Store). option_map (λ (above : SnapRow). above.number) (parent_row store.state.records.tables.snapshots row.key.ns row.key.snapshotter row.parent)) c.self.view_is)
    ∙ parent_held state.records.tables.snapshots state.backends.snapshots row.key.ns row.key.snapshotter row.parent c.requires.backed.objects
