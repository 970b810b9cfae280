use Rattle.std.proofs.Common.{rules, ◌≡◌, ◌∙◌, ap, sym, take, arith}
use Rattle.std.proofs.lemmas.Bool.{false≢true}
use Rattle.journal.specs.Text.{is_torn}
use Rattle.journal.specs.Notes.{note_text}
use Rattle.journal.proofs.NoteTexts.{long_enough, note_is_marked, is_note}
use Rattle.journal.proofs.page.note.read_note.Goals as goal

pub returns-then-bytes-lt-NOTE : goal.returns-then-bytes-lt-NOTE
returns-then-bytes-lt-NOTE c note is stands =
    let long = long_enough note is c.args.bytes.now stands in
    let short = c.if-bytes-lt-NOTE.true in
    omega (arith, long, short)

-- no byte of a note is 0
pub returns-then-is_torn : goal.returns-then-is_torn
returns-then-is_torn c note is stands =
    false≢true (sym (note_is_marked note is) ∙ ap is_torn (sym stands)
    ∙ sym c.is_torn.ensures ∙ c.if-is_torn.true)

pub returns-then-eq : goal.returns-then-eq
returns-then-eq c =
    let note = c.in-Some.note in
    let stands : take 197 c.args.bytes.now ≡ note_text note = search rules in
    let sized = c.in-Some.ensures.sized in (
      is_note note sized.0 sized.1 sized.2 sized.3
          (ap is_torn (sym stands) ∙ sym c.is_torn.ensures ∙ c.if-is_torn.false),
      stands,
    )
