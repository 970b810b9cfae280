use Rattle.std.proofs.Common.{◌∙◌, sym, [], inl, inr, arith}
use Rattle.std.proofs.lemmas.Bool.{false≢true}
use Rattle.journal.proofs.Selectors.{follows_selector}
use Rattle.journal.proofs.Texts.{put_fits, put_text, put_keeps, put_crash, rests_from}
use Rattle.journal.proofs.journal_file.file.JournalFileLog.put.Goals as goal

pub returns-in_err-put-clause-crash : goal.returns-in_err-put-clause-crash
returns-in_err-put-clause-crash g c both only =
    let it = c.args.self.now in
    let clean = both in
    let is_open = c.if-not-self.false in
    let head = it.headed is_open clean in
    let sized = it.sized is_open in
    let mixing = sym c.mixes.ensures ∙ c.if-not-mixes.false in
    inr (
      put_fits _ it.steps it.size head sized.0 c.args.at c.in_ok-place.place
          c.args.bytes.now [] c.if-bytes-self.false c.if-at-self.false c.in_ok-place.ensures.ok,
      put_crash _ it.steps it.size head sized.0 c.args.at c.in_ok-place.place
          c.args.bytes.now [] c.if-bytes-self.false c.if-at-self.false c.in_ok-place.ensures.ok
          _ _ only (c.put.ensures.mixed mixing) sized.1,
    )

pub invariant_of-self-2-clause-headed : goal.invariant_of-self-2-clause-headed
invariant_of-self-2-clause-headed g c now still =
    let clean = sym c.put.ensures.calm ∙ still in
    let it = c.args.self.now in
    let is_open = c.if-not-self.false in
    let head = it.headed is_open clean in
    let sized = it.sized is_open in
    put_keeps _ it.steps it.size head sized.0 c.args.at c.in_ok-place.place
    c.args.bytes.now _ c.if-bytes-self.false c.if-at-self.false c.in_ok-place.ensures.ok
    c.in_ok-put.ensures.ok c.in_ok-put.ensures.same

pub invariant_of-self-2-clause-sized : goal.invariant_of-self-2-clause-sized
invariant_of-self-2-clause-sized g c now = c.args.self.now.sized c.if-not-self.false

pub returns-clause-ok : goal.returns-clause-ok
returns-clause-ok g c both =
    let it = c.args.self.now in
    let clean = both in
    let is_open = c.if-not-self.false in
    let head = it.headed is_open clean in
    let sized = it.sized is_open in
    put_text _ it.steps it.size head sized.0 c.args.at c.in_ok-place.place
    c.args.bytes.now _ c.if-bytes-self.false c.if-at-self.false c.in_ok-place.ensures.ok
    c.in_ok-put.ensures.ok

pub returns-clause-fits : goal.returns-clause-fits
returns-clause-fits g c both =
    let it = c.args.self.now in
    let clean = both in
    let is_open = c.if-not-self.false in
    let head = it.headed is_open clean in
    let sized = it.sized is_open in
    put_fits _ it.steps it.size head sized.0 c.args.at c.in_ok-place.place
    c.args.bytes.now [] c.if-bytes-self.false c.if-at-self.false c.in_ok-place.ensures.ok

pub returns-clause-crash : goal.returns-clause-crash
returns-clause-crash g c both only =
    let it = c.args.self.now in
    let clean = both in
    let is_open = c.if-not-self.false in
    let head = it.headed is_open clean in
    let sized = it.sized is_open in
    let mixing = sym c.mixes.ensures ∙ c.if-not-mixes.false in
    inr (
      put_fits _ it.steps it.size head sized.0 c.args.at c.in_ok-place.place
          c.args.bytes.now [] c.if-bytes-self.false c.if-at-self.false c.in_ok-place.ensures.ok,
      put_crash _ it.steps it.size head sized.0 c.args.at c.in_ok-place.place
          c.args.bytes.now [] c.if-bytes-self.false c.if-at-self.false c.in_ok-place.ensures.ok
          _ _ only (c.put.ensures.mixed mixing) sized.1,
    )

pub returns-clause-durable : goal.returns-clause-durable
returns-clause-durable g c both = rests_from _ _ c.in_ok-put.ensures.durable

pub returns-in_err-put-clause-calm : goal.returns-in_err-put-clause-calm
returns-in_err-put-clause-calm g c =
    c.put.ensures.calm

pub returns-clause-calm : goal.returns-clause-calm
returns-clause-calm g c =
    c.put.ensures.calm

-- behind a head nothing is put that selects
pub invariant_of-self : goal.invariant_of-self
invariant_of-self g c = record {
  headed = λ now. absurd (false≢true now);
  sized = λ now. absurd (false≢true now);
  selected = λ still. follows_selector g.C.Selector.IS_STANDBY c.in_ok-place.place _ _ _
      (inl (omega (arith, c.in_ok-place.ensures.ok))) c.put.ensures.crash
      (c.args.self.now.selected (sym c.put.ensures.calm ∙ still));
}

pub invariant_of-self-2-clause-selected : goal.invariant_of-self-2-clause-selected
invariant_of-self-2-clause-selected g c still =
    follows_selector g.C.Selector.IS_STANDBY c.in_ok-place.place _ _ _
    (inl (omega (arith, c.in_ok-place.ensures.ok))) c.put.ensures.crash
    (c.args.self.now.selected (sym c.put.ensures.calm ∙ still))
