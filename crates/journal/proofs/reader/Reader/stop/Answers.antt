use Rattle.std.proofs.Common.{◌∙◌, ap, sym}
use Rattle.journal.specs.Reading.{is_overlong}
use Rattle.journal.specs.Reads.{ReadSo}
use Rattle.journal.proofs.LineFeeds.{feed_stops, damage_stops}
use Rattle.journal.proofs.reader.Reader.stop.Goals as goal

-- a commit line goes on where it has to end
pub returns-then-is_overlong-clause-damaged : goal.returns-then-is_overlong-clause-damaged
returns-then-is_overlong-clause-damaged c is calm lost first text rest r =
    let read : ReadSo first text c.args.self.now.last c.args.self.now.end c.args.self.now.sum
    c.args.self.now.once c.args.self.now.is_over
    c.args.self.now.at c.args.self.now.head.items c.args.self.now.is_torn c.args.self.now.hasher =
    r in
    damage_stops first text _ _ _ _ _ _ _ _ _ calm lost
    (ap is_overlong (sym c.deref.ensures.value) ∙ sym c.is_overlong.ensures
    ∙ c.if-is_overlong.true) read rest

-- nothing behind the zero is committed
pub returns-clause-ok : goal.returns-clause-ok
returns-clause-ok c calm lost first text r =
    let read : ReadSo first text c.args.self.now.last c.args.self.now.end c.args.self.now.sum
    c.args.self.now.once c.args.self.now.is_over
    c.args.self.now.at c.args.self.now.head.items c.args.self.now.is_torn c.args.self.now.hasher =
    r in
    let s = c.begin_line.ensures.same in
    rw (
      s.0,
      s.1,
      s.2,
      s.3,
      s.5,
      c.in_ok-begin_line.ensures.place,
      c.in_ok-begin_line.ensures.empty.0,
      c.in_ok-begin_line.ensures.empty.1,
    )
    (feed_stops first text _ _ _ _ _ _ _ _ _ calm lost
    (ap is_overlong (sym c.deref.ensures.value) ∙ sym c.is_overlong.ensures
    ∙ c.if-is_overlong.false) read)
