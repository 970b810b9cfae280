use Rattle.std.proofs.Common.{◌∙◌, ap, sym, take, length, arith}
use Rattle.std.proofs.lemmas.Bool.{false≢true}
use Rattle.store_folder.proofs.Behind.{put_behind, fits_behind, crash_behind}
use Rattle.store_folder.proofs.Paging.{page_put, page_written, length-written}
use Rattle.store_folder.proofs.carded.CardedLog.put.Goals as goal

-- only the page is known of a file whose write failed
pub invariant_of-self : goal.invariant_of-self
invariant_of-self g c = record {
  room = λ now. absurd (false≢true now);
  shown = λ now. absurd (false≢true now);
  rests = λ now. absurd (false≢true now);
  paged = λ still file left.
      let it = c.args.self.now in
      let clean = sym c.put.ensures.calm ∙ still in
      let is_open = c.if-not-self.false in
      page_put _ _ (it.shown is_open clean) c.args.at c.in_ok-place.place c.args.bytes.now _ _
      c.in_ok-place.ensures.ok (it.rests is_open clean)
      (c.put.ensures.crash clean (it.rests is_open clean)) file left;
}

pub invariant_of-self-2 : goal.invariant_of-self-2
invariant_of-self-2 g c = record {
  room = λ now still.
      let clean = sym c.put.ensures.calm ∙ still in
      let it = c.args.self.now in
      let room = it.room c.if-not-self.false clean in
      let size = ap length (c.in_ok-put.ensures.ok clean)
      ∙ length-written c.in_ok-place.place c.args.bytes.now _ (c.in_ok-put.ensures.fits clean) in
      omega (arith, room, size);
  shown = λ now still.
      let clean = sym c.put.ensures.calm ∙ still in
      let it = c.args.self.now in
      ap (take 4096) (c.in_ok-put.ensures.ok clean)
      ∙ page_written _ _ (it.shown c.if-not-self.false clean) c.args.at c.in_ok-place.place
      c.args.bytes.now c.in_ok-place.ensures.ok (c.in_ok-put.ensures.fits clean);
  rests = λ now still. c.in_ok-put.ensures.durable (sym c.put.ensures.calm ∙ still);
  paged = λ still file left.
      let clean = sym c.put.ensures.calm ∙ still in
      let it = c.args.self.now in
      page_put _ _ (it.shown c.if-not-self.false clean) c.args.at c.in_ok-place.place
      c.args.bytes.now _ _ c.in_ok-place.ensures.ok (it.rests c.if-not-self.false clean)
      (c.put.ensures.crash clean (it.rests c.if-not-self.false clean)) file left;
}

pub returns-in_err-put-clause-crash : goal.returns-in_err-put-clause-crash
returns-in_err-put-clause-crash g c clean only =
    let it = c.args.self.now in
    crash_behind 4096 c.args.at c.in_ok-place.place _ c.args.bytes.now
    c.in_ok-place.ensures.ok _ _
    (c.put.ensures.crash clean (it.rests c.if-not-self.false clean))

pub returns-clause-ok : goal.returns-clause-ok
returns-clause-ok g c clean =
    put_behind 4096 c.args.at c.in_ok-place.place _ c.args.bytes.now
    c.in_ok-place.ensures.ok _ (c.in_ok-put.ensures.fits clean) (c.in_ok-put.ensures.ok clean)

pub returns-clause-crash : goal.returns-clause-crash
returns-clause-crash g c clean only =
    let it = c.args.self.now in
    crash_behind 4096 c.args.at c.in_ok-place.place _ c.args.bytes.now
    c.in_ok-place.ensures.ok _ _
    (c.put.ensures.crash clean (it.rests c.if-not-self.false clean))

pub returns-clause-fits : goal.returns-clause-fits
returns-clause-fits g c clean =
    fits_behind 4096 c.args.at c.in_ok-place.place _ c.args.bytes.now
    c.in_ok-place.ensures.ok (c.in_ok-put.ensures.fits clean)
