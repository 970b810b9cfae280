use Rattle.std.proofs.Common.{◌≡◌, ◌+◌, ◌*◌, ◌++◌, take, arith}
use Rattle.hex.specs.Hex.{encode_lower}
use Rattle.meta_types.proofs.HexDigits.{write_step, write_done}
use Rattle.meta_types.proofs.digits.write_digits.Goals as goal

-- two digits more
pub loop-i-preserved : goal.loop-i-preserved
loop-i-preserved c =
    let i = c.loop-i.i in
    let place = c.args.from + 2 * i in
    let two : c.args.from + 2 * (i + 1) ≡ place + 2 = omega arith in
    rw two (write_step c.args.bytes.now c.loop-i.out (take c.args.from c.args.out.now ++
    encode_lower c.args.bytes.now) place i c.digit.result c.digit-in-loop-i.result (omega arith)
    (omega arith) c.digit.ensures c.digit-in-loop-i.ensures c.loop-i.invariant)

-- all are written
pub returns : goal.returns
returns c = write_done c.args.bytes.now c.loop-i.out (take c.args.from c.args.out.now ++
    encode_lower c.args.bytes.now) (c.args.from + 2 * c.loop-i.i) c.loop-i.i (omega arith) (omega
    arith) c.loop-i.invariant
