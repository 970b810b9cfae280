use Rattle.std.proofs.Common.{◌≡◌, None, refl, rules, subst, sym}
use Rattle.meta_types.specs.Keys.{add_row}
use Rattle.meta_types.specs.Rows.{snap_key}
use Rattle.meta_types.specs.Sound.{AreTables, AreNumbered}
use Rattle.object_tables.specs.Calls.{adding_snap_fault}
use Rattle.request_core.specs.Follows.{Store}
use Rattle.request_core.proofs.Refusals.{only_exactly}
use Rattle.request_core.proofs.NextNumber.{snap_numbered}
use Rattle.request_core.proofs.state.State.prepare.Goals as goal

-- the tables of a sound store are sound
pub grow_snap-requires-clause-sound : goal.grow_snap-requires-clause-sound
grow_snap-requires-clause-sound g c κs within =
    subst (λ (store : Store). AreTables store.state.records.tables) (sym c.self.view_is) c.requires.tables

-- the next number is above all others
pub grow_snap-requires-clause-numbered : goal.grow_snap-requires-clause-numbered
grow_snap-requires-clause-numbered g c κs within =
    let row = c.in_ok-row.row in
    let numbered : row.number ≡ c.args.self.now.state.records.next = search rules in
    subst
    (λ (store : Store). adding_snap_fault store.state.records.tables row ≡ None
    → AreNumbered (add_row snap_key row store.state.records.tables.snapshots)
    store.state.records.tables.ingests) (sym c.self.view_is)
    (snap_numbered c.args.self.now.state row c.requires numbered)

-- the check refuses as the request does
pub returns-in-Err : goal.returns-in-Err
returns-in-Err g c = only_exactly _ _ c.in-Err.fault _ _ _ _ (search rules) refl
