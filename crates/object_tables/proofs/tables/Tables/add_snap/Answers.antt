use Rattle.std.proofs.Common.{◌≡◌, Bool, true, false, not, refl, rules, subst, sym}
use Rattle.std.specs.Prelude.{◌||◌, None}
use Rattle.meta_types.specs.Rows.{Tables, snap_key}
use Rattle.meta_types.specs.Changes.{has_namespace}
use Rattle.meta_types.specs.Faults.{least_of}
use Rattle.meta_types.specs.Keys.{add_row}
use Rattle.meta_types.specs.Sound.{AreNumbered}
use Rattle.meta_types.specs.declared.rows.SnapRow.{SnapRow}
use Rattle.object_tables.proofs.OtherTables.{other_snapshots}
use Rattle.object_tables.proofs.NumberedAfter.{stacked}
use Rattle.object_tables.proofs.RowsAfter.{grown}
use Rattle.object_tables.proofs.tables.Tables.add_snap.Goals as goal

ns_there : (ns missing there forbidden : Bool)
    → least_of false (not ns || missing) there forbidden ≡ None → ns ≡ true
ns_there true missing there forbidden h = refl
ns_there false missing there forbidden h = absurd cc

-- one more, in a namespace that is there, under a number that is free
pub invariant_of-self : goal.invariant_of-self
invariant_of-self c =
    let there : has_namespace c.args.self.now c.args.row.key.ns ≡ true =
    ns_there _ _ _ _ c.in_ok-check_add.ensures.fault in
    other_snapshots _ c.self.invariant _
    (grown snap_key (λ (row : SnapRow). row.key.ns) _ _ _ c.self.invariant.snapshots c.args.row
    c.add.result
    (subst (λ (t : Tables). has_namespace t c.args.row.key.ns ≡ true) (sym c.self.view_is) there)
    (search rules) c.add.ensures.ok c.add.ensures.err)
    (stacked _ _ _ c.self.invariant.numbered c.args.row c.add.result
    (subst (λ (t : Tables). AreNumbered (add_row snap_key c.args.row t.snapshots) t.ingests)
    (sym c.self.view_is) (c.requires.numbered c.in_ok-check_add.ensures.fault)) c.add.ensures.ok
    c.add.ensures.err)
