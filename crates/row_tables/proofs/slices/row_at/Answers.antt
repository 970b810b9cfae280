use Rattle.std.proofs.Common.{ap, sym, ◌∙◌, ◌+◌, ◌-◌, ◌<◌, ◌≤◌, ◌≡◌, arith, length, Bor, List}
use Rattle.std.specs.Prelude.{slice_index}
use Rattle.row_tables.proofs.SliceCuts.{copied_get, starts_rise, one_slice, row_there, no_row}
use Rattle.row_tables.proofs.slices.row_at.Goals as goal

-- the slices begin in turn
pub begun-count-requires : goal.begun-count-requires
begun-count-requires g c =
    starts_rise (λ (rows : Bor (List g.row.R.Denot)). rows.now) c.args.slices.now
    c.args.starts.now _ c.requires

pub returns-then-slices-eq1 : goal.returns-then-slices-eq1
returns-then-slices-eq1 g c =
    copied_get c.get.result c.index-slices-0.result.now c.args.place c.get.ensures.lookup.1
    c.get.ensures.lookup.3
    ∙ one_slice (λ (rows : Bor (List g.row.R.Denot)). rows.now) c.args.slices.now c.args.place
    c.index-slices-0.result
    c.if-slices-eq1.true c.index-slices-0.is

-- no slice begins
pub returns-then-count-eq0 : goal.returns-then-count-eq0
returns-then-count-eq0 g c =
    sym (no_row (λ (rows : Bor (List g.row.R.Denot)). rows.now) c.args.slices.now
    c.args.starts.now _ c.requires c.args.place
    (λ some. c.begun-count.ensures.point.1 0 0 (omega (arith, c.if-count-eq0.true)) some))

-- the last slice that begins has the row
pub returns : goal.returns
returns g c =
    let count = c.begun-count.result in
    let last = count - 1 in
    let some : 0 < count = omega (arith, c.if-count-eq0.false) in
    let begins : last < length c.args.slices.now =
    omega (arith, some, c.begun-count.ensures.bound, c.requires.many) in
    let from : slice_index c.args.starts.now last ≤ c.args.place =
    c.begun-count.ensures.point.0 last 0 (omega arith) (omega (arith, some)) in
    let to : last + 1 < length c.args.starts.now
    → c.args.place < slice_index c.args.starts.now (last + 1) =
    λ more. c.begun-count.ensures.point.1 (last + 1) 0 (omega (arith, some)) more in
    copied_get c.get-2.result c.index-slices-last.result.now _ c.get-2.ensures.lookup.1
    c.get-2.ensures.lookup.3
    ∙ row_there (λ (rows : Bor (List g.row.R.Denot)). rows.now) c.args.slices.now
    c.args.starts.now _ c.requires last
    c.args.place c.index-slices-last.result begins c.index-slices-last.is from to
