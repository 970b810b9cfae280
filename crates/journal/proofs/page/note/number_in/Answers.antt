use Rattle.std.proofs.Common.{◌∙◌, ap, Some}
use Rattle.std.proofs.lemmas.Nat.{from_be_bytes-to_be_bytes_8}
use Rattle.std.specs.Int.{from_be_bytes, w64}
use Rattle.journal.proofs.Sums.{place_decodes}
use Rattle.journal.proofs.page.note.number_in.Goals as goal

pub returns-in-Ok : goal.returns-in-Ok
returns-in-Ok c place fits is =
    let read = rw (place_decodes c.args.digits.now place is) at c.in-Ok.ensures.value in
    ap Some (c.from_be_bytes.ensures ∙ ap (from_be_bytes w64) read.1
    ∙ from_be_bytes-to_be_bytes_8 place fits)

pub returns-in-Err : goal.returns-in-Err
returns-in-Err c place fits is =
    let read = rw (place_decodes c.args.digits.now place is) at c.in-Err.ensures.value in
    absurd (cc read.0)
