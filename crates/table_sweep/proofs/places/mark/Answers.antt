use Rattle.std.proofs.Common.{◌<◌, true, false, arith, leb-false}
use Rattle.std.proofs.lemmas.List.{get_or-set_same}
use Rattle.table_sweep.proofs.Sought.{mark_grows, mark_before}
use Rattle.table_sweep.proofs.places.mark.Goals as goal

pub returns-clause-grows : goal.returns-clause-grows
returns-clause-grows c k e = mark_grows c.args.needed.now.items c.args.place k c.requires e

pub returns-clause-there : goal.returns-clause-there
returns-clause-there c = get_or-set_same c.args.needed.now.items c.args.place true false c.requires

-- what was gone over is as it was
pub returns-clause-late : goal.returns-clause-late
returns-clause-late c early k low e =
    let lt : c.args.place < c.args.at = leb-false c.args.at c.args.place early in
    mark_before c.args.needed.now.items c.args.place k (omega (arith, lt, low)) e
