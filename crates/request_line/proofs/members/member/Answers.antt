use Rattle.std.proofs.Common.{◌≡◌, ◌∙◌, sym, true, false, bytes_eq, arith}
use Rattle.request_line.specs.LineMembers.{LineMember}
use Rattle.request_line.proofs.LineMembers.{found_at_last}
use Rattle.request_line.proofs.members.member.Goals as goal

-- the last member of that name
pub returns-then-is_same : goal.returns-then-is_same
returns-then-is_same c =
    let l = c.loop-left in
    let name = c.args.name.now in
    let m : LineMember = c.index-members-left.result in
    let some = c.loop-left-test.true in
    let at = c.index-members-left.is in
    let same : bytes_eq m.0.now name ≡ true = sym c.is_same.ensures ∙ c.if-is_same.true in
    let found = found_at_last name c.args.members.now l.left m some l.invariant.0 at in
    sym (rw same at found) ∙ l.invariant.1

-- a member of another name
pub loop-left-preserved : goal.loop-left-preserved
loop-left-preserved c =
    let l = c.loop-left in
    let name = c.args.name.now in
    let m : LineMember = c.index-members-left.result in
    let some = c.loop-left-test.true in
    let at = c.index-members-left.is in
    let other : bytes_eq m.0.now name ≡ false = sym c.is_same.ensures ∙ c.if-is_same.false in
    let found = found_at_last name c.args.members.now l.left m some l.invariant.0 at in
    (omega (arith, l.invariant.0), sym (rw other at found) ∙ l.invariant.1)
