use Rattle.std.proofs.Common.{◌≡◌, ◌∙◌, sym, Some, arith}
use Rattle.std.proofs.lemmas.List.{length-take-le}
use Rattle.journal.proofs.NoteTexts.{identity_read, generation_read, end_read, sum_read}
use Rattle.journal.proofs.page.note.parts_in.Goals as goal

pub slice_bounds-identity_in-end : goal.slice_bounds-identity_in-end
slice_bounds-identity_in-end c =
    let long = c.requires in sym (length-take-le 32 c.args.bytes.now (omega (arith, long)))

pub identity_in-identity-requires : goal.identity_in-identity-requires
identity_in-identity-requires c =
    let long = c.requires in length-take-le 32 c.args.bytes.now (omega (arith, long))

-- its numbers can be read
pub returns-in_default-clause-read : goal.returns-in_default-clause-read
returns-in_default-clause-read c note is stands =
    absurd (cc (c.in_default.ensures note.generation is.generation
    (generation_read note is c.args.bytes.now stands)))

pub returns-in_default-number_in-clause-read : goal.returns-in_default-number_in-clause-read
returns-in_default-number_in-clause-read c note is stands =
    absurd (cc (c.in_default-number_in.ensures note.end is.end
    (end_read note is c.args.bytes.now stands)))

pub returns-clause-read : goal.returns-clause-read
returns-clause-read c note is stands =
    let one : c.identity_in-identity.result ≡ note.identity = c.identity_in-identity.ensures
    ∙ identity_read note is c.args.bytes.now stands in
    let all = c.sum_in-sum.ensures ∙ sum_read note is c.args.bytes.now stands in
    let generation : c.in-Some.generation ≡ note.generation =
    cc (c.in-Some.ensures note.generation is.generation
    (generation_read note is c.args.bytes.now stands)) in
    let end : c.in-Some-number_in.end ≡ note.end =
    cc (c.in-Some-number_in.ensures note.end is.end
    (end_read note is c.args.bytes.now stands)) in
    λ i. Some (record {
      identity = one i;
      generation = generation i;
      end = end i;
      sum = all i;
    })
