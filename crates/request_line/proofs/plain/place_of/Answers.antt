use Rattle.std.proofs.Common.{◌∙◌, sym, [], get_or, arith, Bor}
use Rattle.meta_types.specs.Text.{Text}
use Rattle.request_line.proofs.Places.{Pair, below_next, stands_behind}
use Rattle.request_line.proofs.plain.place_of.Goals as goal

-- the name at the place stands before this one
pub names-preserved : goal.names-preserved
names-preserved c =
    let k = c.args.name.now in
    let ts = c.args.texts.now in
    let n = c.names.place in
    let empty : Bor Text = record { ref_ptr = (0, 0); now = [] } in
    let none : Pair = (empty, empty) in
    let behind = stands_behind k (get_or ts n none).0.now (sym c.le.ensures ∙ c.if-le.false) in (
      omega (arith, c.names-test.true),
      below_next k ts n none c.names.invariant.1 c.names-test.true behind,
    )
