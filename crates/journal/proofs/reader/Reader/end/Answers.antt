use Rattle.std.proofs.Common.{refl}
use Rattle.journal.specs.Reads.{ReadSo}
use Rattle.journal.proofs.LineFeeds.{damage_at_end, sound_at_end}
use Rattle.journal.proofs.reader.Reader.end.Goals as goal

-- a commit line goes on at the end of the file
pub returns-then-is_long-clause-damaged : goal.returns-then-is_long-clause-damaged
returns-then-is_long-clause-damaged c = (
  refl,
  λ first text r.
      let read : ReadSo first text c.args.self.now.last c.args.self.now.end c.args.self.now.sum
      c.args.self.now.once c.args.self.now.is_over
      c.args.self.now.at c.args.self.now.head.items c.args.self.now.is_torn c.args.self.now.hasher =
      r in
      damage_at_end first text _ _ _ _ _ _ _ _ _ c.is_overlong-goes_on.result c.deref.result.now
      c.is_overlong-goes_on.ensures c.deref.ensures.value c.if-is_long.true read,
)

pub returns-clause-sound : goal.returns-clause-sound
returns-clause-sound c first text r =
    let read : ReadSo first text c.args.self.now.last c.args.self.now.end c.args.self.now.sum
    c.args.self.now.once c.args.self.now.is_over
    c.args.self.now.at c.args.self.now.head.items c.args.self.now.is_torn c.args.self.now.hasher =
    r in
    (sound_at_end first text _ _ _ _ _ _ _ _ _ c.is_overlong-goes_on.result c.deref.result.now
    c.is_overlong-goes_on.ensures c.deref.ensures.value c.if-is_long.false read).0

pub returns-clause-groups : goal.returns-clause-groups
returns-clause-groups c first text r =
    let read : ReadSo first text c.args.self.now.last c.args.self.now.end c.args.self.now.sum
    c.args.self.now.once c.args.self.now.is_over
    c.args.self.now.at c.args.self.now.head.items c.args.self.now.is_torn c.args.self.now.hasher =
    r in
    (sound_at_end first text _ _ _ _ _ _ _ _ _ c.is_overlong-goes_on.result c.deref.result.now
    c.is_overlong-goes_on.ensures c.deref.ensures.value c.if-is_long.false read).1
