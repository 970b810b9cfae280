use Rattle.std.proofs.Common.{refl}
use Rattle.std.proofs.lemmas.Option.{slice_get_read}
use Rattle.table_sweep.proofs.Runs.{is_run, read_place}
use Rattle.table_sweep.proofs.places.place.Goals as goal

pub returns-then-not-listed-clause-place : goal.returns-then-not-listed-clause-place
returns-then-not-listed-clause-place c s is =
    read_place c.args.snapshots.now c.args.at c.args.number c.index-snapshots-at.result s
    c.first_place.result
    c.index-snapshots-at.is is c.first_place.ensures

pub listed_place-requires-clause-run : goal.listed_place-requires-clause-run
listed_place-requires-clause-run c =
    c.run_at.ensures.run c.index-snapshots-at.result
    (slice_get_read c.args.snapshots.now _ c.args.at c.index-snapshots-at.result refl c.requires.at
    c.index-snapshots-at.is)

pub returns-clause-run : goal.returns-clause-run
returns-clause-run c =
    is_run c.args.snapshots.now c.run_at.result.start c.run_at.result.end
    c.index-snapshots-at.result.0
    (c.run_at.ensures.run c.index-snapshots-at.result
    (slice_get_read c.args.snapshots.now _ c.args.at c.index-snapshots-at.result refl c.requires.at
    c.index-snapshots-at.is))

pub returns-clause-place : goal.returns-clause-place
returns-clause-place c s is =
    read_place c.args.snapshots.now c.args.at c.args.number c.index-snapshots-at.result s
    c.listed_place.result
    c.index-snapshots-at.is is c.listed_place.ensures
