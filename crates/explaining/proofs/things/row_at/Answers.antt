use Rattle.explaining.proofs.InSlices.{row_got, some_got}
use Rattle.explaining.proofs.things.row_at.Goals as goal

-- each place has a row
pub unreachable-requires : goal.unreachable-requires
unreachable-requires g c =
    some_got c.args.rows.now c.args.place c.requires c.in_default.ensures

pub returns : goal.returns
returns g c = row_got c.args.rows.now c.args.place c.in-Some.row.now c.in-Some.ensures
