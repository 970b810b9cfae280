use Rattle.std.proofs.Common.{rules, ◌≡◌, sym}
use Rattle.std.specs.BTreeMap.{is_at}
use Rattle.std.specs.Map.{lookup}
use Rattle.meta_types.specs.Text.{text_cmp}
use Rattle.back_model.specs.Shown.{shown}
use Rattle.back_model.proofs.SettledShards.{among_front, among_new, not_new}
use Rattle.back_model.proofs.shards.place_of.Goals as goal

-- it stands among the settled ones
pub returns-in-Ok-clause-found : goal.returns-in-Ok-clause-found
returns-in-Ok-clause-found g c =
    let f = shown g.S.SnapBackend.contents g.S.SnapBackend.fails in
    among_front f c.args.shards.now c.args.settled c.args.places.now.entries c.requires
    c.args.snapshotter.now c.in-Ok.at (rw c.split_at.ensures.front at c.in-Ok.ensures)

-- it stands where the map says
pub returns-in-Err-clause-found : goal.returns-in-Err-clause-found
returns-in-Err-clause-found g c =
    let f = shown g.S.SnapBackend.contents g.S.SnapBackend.fails in
    let is : c.copied.result ≡ lookup (is_at (text_cmp c.args.snapshotter.now))
    c.args.places.now.entries = search rules in
    among_new f c.args.shards.now c.args.settled c.args.places.now.entries c.requires
    c.args.snapshotter.now c.copied.result (sym is)

-- it stands nowhere
pub returns-in-Err-clause-none : goal.returns-in-Err-clause-none
returns-in-Err-clause-none g c =
    let f = shown g.S.SnapBackend.contents g.S.SnapBackend.fails in
    let is : c.copied.result ≡ lookup (is_at (text_cmp c.args.snapshotter.now))
    c.args.places.now.entries = search rules in
    not_new f c.args.shards.now c.args.settled c.args.places.now.entries c.requires
    c.args.snapshotter.now c.in-Err.field-0 (rw c.split_at.ensures.front at c.in-Err.ensures)
    c.copied.result (sym is)
