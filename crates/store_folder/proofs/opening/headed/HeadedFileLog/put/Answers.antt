use Rattle.std.proofs.Common.{◌∙◌, sym, inr}
use Rattle.std.proofs.lemmas.Bool.{false≢true}
use Rattle.store_folder.proofs.OpeningHeads.{put_fits, put_text, put_keeps, put_crash, head_long, head_stays, rests_from}
use Rattle.store_folder.proofs.opening.headed.HeadedFileLog.put.Goals as goal

pub returns-in_err-put_bytes-clause-crash : goal.returns-in_err-put_bytes-clause-crash
returns-in_err-put_bytes-clause-crash g c clean only =
    let it = c.args.self.now in
    let head = it.headed c.if-not-self.false clean in
    let mixing = sym c.mixes.ensures ∙ c.if-not-mixes.false in
    inr (
      put_fits _ it.steps it.size head it.sized.0 c.args.at c.in_ok-place.place c.args.bytes.now
          c.if-bytes-self.false c.if-at-self.false c.in_ok-place.ensures.ok,
      put_crash _ it.steps it.size head it.sized.0 c.args.at c.in_ok-place.place c.args.bytes.now
          c.if-bytes-self.false c.if-at-self.false c.in_ok-place.ensures.ok _ _ only
          (c.put_bytes.ensures.mixed mixing) it.sized.1,
    )

pub returns-clause-crash : goal.returns-clause-crash
returns-clause-crash g c clean only =
    let it = c.args.self.now in
    let head = it.headed c.if-not-self.false clean in
    let mixing = sym c.mixes.ensures ∙ c.if-not-mixes.false in
    inr (
      put_fits _ it.steps it.size head it.sized.0 c.args.at c.in_ok-place.place c.args.bytes.now
          c.if-bytes-self.false c.if-at-self.false c.in_ok-place.ensures.ok,
      put_crash _ it.steps it.size head it.sized.0 c.args.at c.in_ok-place.place c.args.bytes.now
          c.if-bytes-self.false c.if-at-self.false c.in_ok-place.ensures.ok _ _ only
          (c.put_bytes.ensures.mixed mixing) it.sized.1,
    )

pub returns-clause-ok : goal.returns-clause-ok
returns-clause-ok g c clean =
    let it = c.args.self.now in
    put_text _ it.steps it.size (it.headed c.if-not-self.false clean) it.sized.0 c.args.at
    c.in_ok-place.place c.args.bytes.now c.if-bytes-self.false c.if-at-self.false
    c.in_ok-place.ensures.ok _ c.in_ok-put_bytes.ensures.torn c.in_ok-put_bytes.ensures.holds

pub returns-clause-fits : goal.returns-clause-fits
returns-clause-fits g c clean =
    let it = c.args.self.now in
    put_fits _ it.steps it.size (it.headed c.if-not-self.false clean) it.sized.0 c.args.at
    c.in_ok-place.place c.args.bytes.now c.if-bytes-self.false c.if-at-self.false
    c.in_ok-place.ensures.ok

pub returns-clause-durable : goal.returns-clause-durable
returns-clause-durable g c clean = rests_from _ _ c.in_ok-put_bytes.ensures.durable

-- only the heads are known of a file whose write failed
pub invariant_of-self : goal.invariant_of-self
invariant_of-self g c =
    let it = c.args.self.now in
    record {
      sized = it.sized;
      headed = λ now. absurd (false≢true now);
      fronts = λ still file left.
          let clean = sym c.put_bytes.ensures.calm ∙ still in
          let seen = g.met.D.Disk.seen_may_stay it.disk in
          head_stays _ c.args.at c.in_ok-place.place _ _ _
          (head_long _ _ it.steps (it.headed c.if-not-self.false clean) (it.fronts clean _ seen))
          c.in_ok-place.ensures.ok (it.fronts clean) c.put_bytes.ensures.crash file left;
    }

pub invariant_of-self-2 : goal.invariant_of-self-2
invariant_of-self-2 g c =
    let it = c.args.self.now in
    record {
      sized = it.sized;
      headed = λ now still.
          put_keeps _ it.steps it.size
          (it.headed c.if-not-self.false (sym c.put_bytes.ensures.calm ∙ still)) it.sized.0
          c.args.at c.in_ok-place.place c.args.bytes.now c.if-bytes-self.false c.if-at-self.false
          c.in_ok-place.ensures.ok _ c.in_ok-put_bytes.ensures.torn
          c.in_ok-put_bytes.ensures.holds;
      fronts = λ still file left.
          let clean = sym c.put_bytes.ensures.calm ∙ still in
          let seen = g.met.D.Disk.seen_may_stay it.disk in
          head_stays _ c.args.at c.in_ok-place.place _ _ _
          (head_long _ _ it.steps (it.headed c.if-not-self.false clean) (it.fronts clean _ seen))
          c.in_ok-place.ensures.ok (it.fronts clean) c.put_bytes.ensures.crash file left;
    }
