use Rattle.std.proofs.Common.{◌+◌, ◌*◌, slice_index, Ok, arith, ap, sym, ◌∙◌}
use Rattle.hex.proofs.Pairs.{decode_start, decode_step, decode_done}
use Rattle.meta_types.proofs.HexDigits.{digit_there, pair_read, read_kept}
use Rattle.meta_types.proofs.digits.read_digits.Goals as goal

-- nothing is read yet
pub loop-i-init : goal.loop-i-init
loop-i-init c = decode_start c.args.digits.now c.args.bytes.now

-- two digits more
pub loop-i-preserved : goal.loop-i-preserved
loop-i-preserved c =
    let s = c.args.digits.now in
    let i = c.loop-i.i in
    let high = digit_there s (2 * i) c.requires.digits (omega arith) in
    let low = digit_there s (2 * i + 1) c.requires.digits (omega arith) in
    decode_step s c.loop-i.bytes i c.pair.result (omega arith) (omega arith)
    (pair_read (slice_index s (2 * i)) (slice_index s (2 * i + 1)) (2 * i) high low ∙ ap Ok (sym
    c.pair.ensures)) c.loop-i.invariant

-- all are read
pub returns-clause-text : goal.returns-clause-text
returns-clause-text c = (read_kept c.args.digits.now c.loop-i.bytes c.requires.digits (decode_done
    c.args.digits.now c.loop-i.bytes c.loop-i.i (omega arith) (omega arith) c.loop-i.invariant)).0

pub returns-clause-bytes : goal.returns-clause-bytes
returns-clause-bytes c = (read_kept c.args.digits.now c.loop-i.bytes c.requires.digits (decode_done
    c.args.digits.now c.loop-i.bytes c.loop-i.i (omega arith) (omega arith) c.loop-i.invariant)).1
