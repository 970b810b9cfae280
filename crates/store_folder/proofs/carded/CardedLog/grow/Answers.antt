use Rattle.std.proofs.Common.{◌∙◌, ap, sym, take, drop, arith}
use Rattle.std.proofs.lemmas.List.{append-nil, drop-append-le}
use Rattle.store_folder.proofs.Paging.{page_grown, length-grown}
use Rattle.store_folder.proofs.Behind.{longer_behind}
use Rattle.store_folder.proofs.carded.CardedLog.grow.Goals as goal

pub returns-in-Err-clause-crash : goal.returns-in-Err-clause-crash
returns-in-Err-clause-crash g c clean only out left =
    let it = c.args.self.now in
    let is_open = c.if-not-self.false in
    longer_behind 4096 _ _ (it.room is_open clean)
    (c.grow.ensures.crash clean (it.rests is_open clean)) out left

pub returns-clause-crash : goal.returns-clause-crash
returns-clause-crash g c clean only out left =
    let it = c.args.self.now in
    let is_open = c.if-not-self.false in
    longer_behind 4096 _ _ (it.room is_open clean)
    (c.grow.ensures.crash clean (it.rests is_open clean)) out left

pub returns-then-not-self-clause-crash : goal.returns-then-not-self-clause-crash
returns-then-not-self-clause-crash g c clean only out left =
    (0, only out left ∙ sym (append-nil _))

pub returns-clause-ok : goal.returns-clause-ok
returns-clause-ok g c clean =
    let more = c.in-Ok.ensures.ok clean in (
      more.0,
      more.1,
      ap (drop 4096) more.2
          ∙ drop-append-le 4096 _ _ (c.args.self.now.room c.if-not-self.false clean),
    )

-- the file grew
pub invariant_of-self : goal.invariant_of-self
invariant_of-self g c = record {
  room = λ now still.
      let clean = sym c.grow.ensures.calm ∙ still in
      let more = c.in-Ok.ensures.ok clean in
      let room = c.args.self.now.room c.if-not-self.false clean in
      let long = length-grown (g.L.Log.text c.args.self.now.log) (g.L.Log.text c.grow.new.self)
      (more.0, more.2) in
      omega (arith, room, long);
  shown = λ now still.
      let clean = sym c.grow.ensures.calm ∙ still in
      let more = c.in-Ok.ensures.ok clean in
      page_grown _ _ (c.args.self.now.shown c.if-not-self.false clean) _
      (c.args.self.now.room c.if-not-self.false clean) (more.0, more.2);
  rests = λ now still. c.in-Ok.ensures.durable (sym c.grow.ensures.calm ∙ still);
  paged = λ still file left.
      let clean = sym c.grow.ensures.calm ∙ still in
      page_grown _ _ (c.args.self.now.shown c.if-not-self.false clean) file
      (c.args.self.now.room c.if-not-self.false clean)
      (c.grow.ensures.crash clean (c.args.self.now.rests c.if-not-self.false clean) file left);
}

-- the file is as it was, or takes no call any more
pub invariant_of-self-in-Err : goal.invariant_of-self-in-Err
invariant_of-self-in-Err g c = record {
  room = λ now still.
      let clean = sym c.grow.ensures.calm ∙ still in
      let same = (c.in-Err.ensures.refused (c.goes_on-self.ensures now) clean).0 in
      rw same (c.args.self.now.room c.if-not-self.false clean);
  shown = λ now still.
      let clean = sym c.grow.ensures.calm ∙ still in
      ap (take 4096) (c.in-Err.ensures.refused (c.goes_on-self.ensures now) clean).0
      ∙ c.args.self.now.shown c.if-not-self.false clean;
  rests = λ now still file left.
      let clean = sym c.grow.ensures.calm ∙ still in
      let as_before = c.in-Err.ensures.refused (c.goes_on-self.ensures now) clean in
      c.args.self.now.rests c.if-not-self.false clean file (as_before.1 file left)
      ∙ sym as_before.0;
  paged = λ still file left.
      let clean = sym c.grow.ensures.calm ∙ still in
      page_grown _ _ (c.args.self.now.shown c.if-not-self.false clean) file
      (c.args.self.now.room c.if-not-self.false clean)
      (c.grow.ensures.crash clean (c.args.self.now.rests c.if-not-self.false clean) file left);
}
