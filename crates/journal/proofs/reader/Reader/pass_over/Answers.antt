use Rattle.journal.specs.Reads.{ReadSo}
use Rattle.journal.proofs.LineFeeds.{feed_over, damage_over}
use Rattle.journal.proofs.reader.Reader.pass_over.Goals as goal

-- a commit line of a group elsewhere stands behind a zero
pub returns-then-is_stray-clause-damaged : goal.returns-then-is_stray-clause-damaged
returns-then-is_stray-clause-damaged c is over first text rest r =
    let read : ReadSo first text c.args.self.now.last c.args.self.now.end c.args.self.now.sum
    c.args.self.now.once c.args.self.now.is_over
    c.args.self.now.at c.args.self.now.head.items c.args.self.now.is_torn c.args.self.now.hasher =
    r in
    damage_over first text _ _ _ _ _ _ _ _ _ over c.is_elsewhere-is_there.result c.deref.result.now
    c.is_elsewhere-is_there.ensures c.deref.ensures.value c.if-is_stray.true read rest

-- any other line is passed over
pub returns-clause-ok : goal.returns-clause-ok
returns-clause-ok c over first text r =
    let read : ReadSo first text c.args.self.now.last c.args.self.now.end c.args.self.now.sum
    c.args.self.now.once c.args.self.now.is_over
    c.args.self.now.at c.args.self.now.head.items c.args.self.now.is_torn c.args.self.now.hasher =
    r in
    let s = c.begin_line.ensures.same in
    rw (
      s.0,
      s.1,
      s.2,
      s.3,
      s.4,
      s.5,
      c.in_ok-begin_line.ensures.place,
      c.in_ok-begin_line.ensures.empty.0,
      c.in_ok-begin_line.ensures.empty.1,
    )
    (feed_over first text _ _ _ _ _ _ _ _ _ over c.is_elsewhere-is_there.result
    c.deref.result.now c.is_elsewhere-is_there.ensures c.deref.ensures.value c.if-is_stray.false
    read)
