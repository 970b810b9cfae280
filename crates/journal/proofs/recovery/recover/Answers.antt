use Rattle.std.proofs.Common.{ap, subst, ◌≤◌, length, Bool}
use Rattle.std.specs.Prelude.{IsTrue}
use Rattle.journal.specs.Crashes.{Only}
use Rattle.journal.specs.Reading.{found}
use Rattle.journal.proofs.Recovering.{recovered, read_left}
use Rattle.journal.proofs.recovery.recover.Goals as goal

-- while the file is read, a crash leaves it
pub returns-in_err-extent-clause-crash : goal.returns-in_err-extent-clause-crash
returns-in_err-extent-clause-crash g c clean out left =
    ap (found c.args.first.now)
    (g.met.D.Log.rested c.args.log.now out c.requires (c.check.ensures.crash out left))

-- while it is blanked
pub returns-in_err-blank-clause-crash : goal.returns-in_err-blank-clause-crash
returns-in_err-blank-clause-crash g c clean out left =
    let calm : IsTrue (g.D.Log.is_clean c.check.new.log) =
    subst (λ (b : Bool). IsTrue b) c.blank.ensures.calm clean in
    let read = c.in_ok-extent.ensures.groups calm in
    let within : c.in_ok-extent.extent.sound.end ≤ length (g.D.Log.text c.check.new.log) =
    rw c.check.ensures.same read.1 in
    let only : Only (g.D.Log.text c.check.new.log) (g.D.Log.may_leave c.check.new.log) =
    λ t now. g.met.D.Log.rested c.check.new.log t (c.check.ensures.rests c.requires) now in
    read_left c.args.first.now _ _ c.in_ok-extent.extent.sound.last out
    c.in_ok-extent.extent.sound.end c.check.ensures.same read
    (c.in_ok-extent.ensures.sound calm)
    (c.blank.ensures.crash calm within only out left)

pub returns-clause-crash : goal.returns-clause-crash
returns-clause-crash g c clean out left =
    let calm : IsTrue (g.D.Log.is_clean c.check.new.log) =
    subst (λ (b : Bool). IsTrue b) c.blank.ensures.calm clean in
    let read = c.in_ok-extent.ensures.groups calm in
    let within : c.in_ok-extent.extent.sound.end ≤ length (g.D.Log.text c.check.new.log) =
    rw c.check.ensures.same read.1 in
    let only : Only (g.D.Log.text c.check.new.log) (g.D.Log.may_leave c.check.new.log) =
    λ t now. g.met.D.Log.rested c.check.new.log t (c.check.ensures.rests c.requires) now in
    read_left c.args.first.now _ _ c.in_ok-extent.extent.sound.last out
    c.in_ok-extent.extent.sound.end c.check.ensures.same read
    (c.in_ok-extent.ensures.sound calm)
    (c.blank.ensures.crash calm within only out left)

pub returns-clause-groups : goal.returns-clause-groups
returns-clause-groups g c clean =
    let calm : IsTrue (g.D.Log.is_clean c.check.new.log) =
    subst (λ (b : Bool). IsTrue b) c.blank.ensures.calm clean in
    let read = c.in_ok-extent.ensures.groups calm in
    let within : c.in_ok-extent.extent.sound.end ≤ length (g.D.Log.text c.check.new.log) =
    rw c.check.ensures.same read.1 in
    let only : Only (g.D.Log.text c.check.new.log) (g.D.Log.may_leave c.check.new.log) =
    λ t now. g.met.D.Log.rested c.check.new.log t (c.check.ensures.rests c.requires) now in
    recovered c.args.first.now _ _ _ _ _ c.in_ok-extent.extent.till _ c.check.ensures.same read
    (c.in_ok-extent.ensures.sound calm) (c.in_ok-extent.ensures.zeros calm)
    (c.in_ok-blank.ensures.ok calm within only)
