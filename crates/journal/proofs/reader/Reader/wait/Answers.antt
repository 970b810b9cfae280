use Rattle.journal.specs.Reads.{ReadSo}
use Rattle.journal.proofs.LineFeeds.{feed_waits}
use Rattle.journal.proofs.reader.Reader.wait.Goals as goal

-- the line waits, and is summed
pub returns-clause-ok : goal.returns-clause-ok
returns-clause-ok c calm stands fresh plain first text r =
    let read : ReadSo first text c.args.self.now.last c.args.self.now.end c.args.self.now.sum
    c.args.self.now.once c.args.self.now.is_over
    c.args.self.now.at c.args.self.now.head.items c.args.self.now.is_torn c.args.self.now.hasher =
    r in
    let s = c.begin_line.ensures.same in
    rw (
      s.0,
      s.1,
      s.2,
      s.3,
      s.4,
      s.5,
      c.in_ok-begin_line.ensures.place,
      c.in_ok-begin_line.ensures.empty.0,
      c.in_ok-begin_line.ensures.empty.1,
    )
    (feed_waits first text _ _ _ _ _ _ _ _ _ calm fresh stands plain read c.add_to.new.hasher
    c.add_to.ensures)
