use Rattle.std.proofs.Common.{◌∙◌, ap, sym, ℕ, List, bytes_eq}
use Rattle.journal.specs.Text.{commit_of}
use Rattle.journal.specs.Reads.{ReadSo}
use Rattle.journal.proofs.LineFeeds.{feed_ends, damage_ends}
use Rattle.journal.proofs.reader.Reader.end_group.Goals as goal

-- the commit line doesn't stand again
pub returns-then-not-is_commit_of-clause-damaged : goal.returns-then-not-is_commit_of-clause-damaged
returns-then-not-is_commit_of-clause-damaged c is calm stands once first text rest r =
    let read : ReadSo first text c.args.self.now.last c.args.self.now.end c.args.self.now.sum
    c.args.self.now.once c.args.self.now.is_over
    c.args.self.now.at c.args.self.now.head.items c.args.self.now.is_torn c.args.self.now.hasher =
    r in
    damage_ends first text _ _ _ _ _ _ _ _ _ calm once stands read
    (ap (λ (h : List ℕ). bytes_eq h (commit_of c.args.self.now.sum c.args.self.now.end))
    (sym c.deref.ensures.value) ∙ sym c.is_commit_of.ensures ∙ c.if-not-is_commit_of.true) rest

-- the lines that wait are a group
pub returns-clause-ok : goal.returns-clause-ok
returns-clause-ok c calm stands once first text r =
    let read : ReadSo first text c.args.self.now.last c.args.self.now.end c.args.self.now.sum
    c.args.self.now.once c.args.self.now.is_over
    c.args.self.now.at c.args.self.now.head.items c.args.self.now.is_torn c.args.self.now.hasher =
    r in
    let s = c.begin_line.ensures.same in
    rw (
      s.2,
      s.4,
      c.in_ok-begin_line.ensures.place,
      c.in_ok-begin_line.ensures.empty.0,
      c.in_ok-begin_line.ensures.empty.1,
    )
    (feed_ends first text _ _ _ _ _ _ _ _ _ calm once stands read
    (ap (λ (h : List ℕ). bytes_eq h (commit_of c.args.self.now.sum c.args.self.now.end))
    (sym c.deref.ensures.value) ∙ sym c.is_commit_of.ensures
    ∙ c.if-not-is_commit_of.false) c.add_to.new.hasher (rw (s.5, s.2) at c.add_to.ensures))
