use Rattle.std.proofs.Common.{◌∙◌, ap, sym, take, length, arith}
use Rattle.std.proofs.lemmas.Bool.{false≢true}
use Rattle.journal.proofs.Over.{size}
use Rattle.journal.proofs.Behind.{whole_only, put_behind, crash_behind}
use Rattle.journal.proofs.page.paged.PagedLog.put.Goals as goal

-- nothing is known of a file whose write failed
pub invariant_of-self : goal.invariant_of-self
invariant_of-self g c = record {
  room = λ now. absurd (false≢true now);
  settled = λ now. absurd (false≢true now);
}

pub returns-in_err-put-clause-crash : goal.returns-in_err-put-clause-crash
returns-in_err-put-clause-crash g c clean only =
    let it = c.args.self.now in
    crash_behind it.from c.args.at c.in_ok-place.place _ c.args.bytes.now
    c.in_ok-place.ensures.ok _ _
    (c.put.ensures.crash clean
    (whole_only it.from _ _ (it.settled c.if-not-self.false clean) only))

pub invariant_of-self-2-clause-room : goal.invariant_of-self-2-clause-room
invariant_of-self-2-clause-room g c now still =
    let it = c.args.self.now in
    let clean = sym c.put.ensures.calm ∙ still in
    let fits = c.in_ok-put.ensures.fits clean in
    let there = c.in_ok-place.ensures.ok in
    let long = ap length (c.in_ok-put.ensures.ok clean)
    ∙ size _ c.args.bytes.now c.in_ok-place.place (length c.args.bytes.now) (λ i. length
    c.args.bytes.now) fits in
    omega (arith, long, fits, there)

pub invariant_of-self-2-clause-settled : goal.invariant_of-self-2-clause-settled
invariant_of-self-2-clause-settled g c now still file left =
    let clean = sym c.put.ensures.calm ∙ still in
    ap (take c.args.self.now.from) (c.in_ok-put.ensures.durable clean file left)

pub returns-clause-ok : goal.returns-clause-ok
returns-clause-ok g c clean =
    put_behind c.args.self.now.from c.args.at c.in_ok-place.place _ c.args.bytes.now
    c.in_ok-place.ensures.ok _ (c.in_ok-put.ensures.fits clean) (c.in_ok-put.ensures.ok clean)

pub returns-clause-crash : goal.returns-clause-crash
returns-clause-crash g c clean only =
    let it = c.args.self.now in
    crash_behind it.from c.args.at c.in_ok-place.place _ c.args.bytes.now
    c.in_ok-place.ensures.ok _ _
    (c.put.ensures.crash clean
    (whole_only it.from _ _ (it.settled c.if-not-self.false clean) only))
