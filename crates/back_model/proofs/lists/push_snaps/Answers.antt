use Rattle.std.proofs.Common.{◌∙◌, ap, ◌++◌, map, List, ℕ}
use Rattle.std.specs.Prelude.{Option}
use Rattle.std.proofs.lemmas.List.{take_all}
use Rattle.meta_types.specs.Rows.{BackSnap}
use Rattle.meta_types.specs.Text.{Text}
use Rattle.back_model.specs.Shown.{shown, listed_snap, back_snap, snaps_in}
use Rattle.back_model.proofs.lists.push_snaps.Goals as goal

-- the listed entries are the shard's snapshots, behind those that were listed
pub returns-clause-ok : goal.returns-clause-ok
returns-clause-ok g c =
    let name = c.args.snapshotter.now in
    c.loop-snap.invariant
    ∙ ap (λ (l : List BackSnap). map listed_snap c.make_room.new.into.items ++ l)
    (ap (map (back_snap name)) (take_all _ _ c.loop-snap-test.false ∙ c.deref-snap-items.ensures.value ∙ c.in_ok-list.ensures.ok))
    ∙ ap (λ (items : List (Text × ℕ × Option ℕ)). map listed_snap items
    ++ snaps_in (shown g.S.SnapBackend.contents g.S.SnapBackend.fails (name, c.args.shard.now)))
    c.in_ok-make_room.ensures.ok
