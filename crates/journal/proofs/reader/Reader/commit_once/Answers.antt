use Rattle.std.proofs.Common.{◌∙◌, ap, sym, ℕ, List, bytes_eq}
use Rattle.journal.specs.Text.{commit_of}
use Rattle.journal.specs.Reads.{ReadSo}
use Rattle.journal.proofs.LineFeeds.{feed_commits, damage_commits}
use Rattle.journal.proofs.reader.Reader.commit_once.Goals as goal

-- the commit line isn't that of the lines that wait
pub returns-then-not-is_commit_of-clause-damaged : goal.returns-then-not-is_commit_of-clause-damaged
returns-then-not-is_commit_of-clause-damaged c is calm stands fresh commits first text rest r =
    let read : ReadSo first text c.args.self.now.last c.args.self.now.end c.args.self.now.sum
    c.args.self.now.once c.args.self.now.is_over
    c.args.self.now.at c.args.self.now.head.items c.args.self.now.is_torn c.args.self.now.hasher =
    r in
    damage_commits first text _ _ _ _ _ _ _ _ _ calm fresh stands commits read c.take_sum-sum.result
    c.take_sum-sum.ensures.sum
    (ap (λ (h : List ℕ). bytes_eq h (commit_of c.take_sum-sum.result c.args.self.now.end))
    (sym c.deref.ensures.value) ∙ sym c.is_commit_of.ensures ∙ c.if-not-is_commit_of.true) rest

-- it is, and has to stand once more
pub returns-clause-ok : goal.returns-clause-ok
returns-clause-ok c calm stands fresh commits first text r =
    let read : ReadSo first text c.args.self.now.last c.args.self.now.end c.args.self.now.sum
    c.args.self.now.once c.args.self.now.is_over
    c.args.self.now.at c.args.self.now.head.items c.args.self.now.is_torn c.args.self.now.hasher =
    r in
    let s = c.begin_line.ensures.same in
    rw (
      s.0,
      s.1,
      s.4,
      s.5,
      c.in_ok-begin_line.ensures.place,
      c.in_ok-begin_line.ensures.empty.0,
      c.in_ok-begin_line.ensures.empty.1,
    )
    (feed_commits first text _ _ _ _ _ _ _ _ _ calm fresh stands commits read
    c.take_sum-sum.result c.take_sum-sum.ensures.sum
    (ap (λ (h : List ℕ). bytes_eq h (commit_of c.take_sum-sum.result c.args.self.now.end))
    (sym c.deref.ensures.value) ∙ sym c.is_commit_of.ensures
    ∙ c.if-not-is_commit_of.false) c.take_sum-sum.new.hasher c.take_sum-sum.ensures.empty)
