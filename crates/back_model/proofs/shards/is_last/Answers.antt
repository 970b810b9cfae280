use Rattle.std.proofs.Common.{rules, ◌≡◌, ◌-◌, ◌∙◌, true, length, sym}
use Rattle.std.specs.Prelude.{Some, bytes_eq, slice_get}
use Rattle.std.proofs.lemmas.Map.Text.{is_eq-slice_cmp}
use Rattle.back_model.specs.Shown.{shown}
use Rattle.back_model.proofs.ShardLookups.{one_name}
use Rattle.back_model.proofs.SettledShards.{got_at}
use Rattle.back_model.proofs.shards.is_last.Goals as goal

-- the last shard has the name
pub returns-in-Some : goal.returns-in-Some
returns-in-Some g c h =
    let f = shown g.S.SnapBackend.contents g.S.SnapBackend.fails in
    let x = c.in-Some.entry.now in
    let got : slice_get c.args.shards.now (length c.args.shards.now - 1) ≡ Some x = search rules in
    let ties : bytes_eq x.0 c.args.snapshotter.now ≡ true = sym c.eq.ensures ∙ h in
    got_at f c.args.snapshotter.now c.args.shards.now (length c.args.shards.now - 1) x got
    (one_name x.0 c.args.snapshotter.now
    (is_eq-slice_cmp x.0 c.args.snapshotter.now ∙ ties))
