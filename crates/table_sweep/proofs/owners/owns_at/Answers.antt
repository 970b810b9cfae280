use Rattle.std.proofs.Common.{sym, ◌∙◌}
use Rattle.std.specs.Prelude.{◌==◌, bytes_eq}
use Rattle.table_sweep.proofs.Searched.{any_at, both_turned}
use Rattle.table_sweep.proofs.owners.owns_at.Goals as goal

-- an owner that has the name is there
pub returns-in-Some : goal.returns-in-Some
returns-in-Some c = λ t.
    let there = c.in-Some.ensures.lookup.3 in
    any_at c.args.owners.now c.args.snap.now c.args.place c.in-Some.row.now there.0 there.1
    (both_turned (bytes_eq c.in-Some.row.now.now.key.snapshotter c.args.snap.now.0)
    (c.in-Some.row.now.now.number == c.args.snap.now.1) ∙ sym c.is_own.ensures ∙ t)
