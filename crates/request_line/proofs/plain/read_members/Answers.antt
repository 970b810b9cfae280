use Rattle.std.proofs.Common.{rules, ◌≡◌, ◌-◌, ◌∙◌, ap, sym, Some, arith}
use Rattle.json.specs.Json.{read_key, members, value}
use Rattle.json.proofs.Grammar.{read_key-shorter}
use Rattle.serde_json.specs.Data.{no_members, put}
use Rattle.serde_json.specs.Read.{of_json, of_members, converted}
use Rattle.request_line.specs.LineMembers.{LineMember, value_of, object_of}
use Rattle.request_line.proofs.LineMembers.{put_all-push, member_read, members_over, read_shorter}
use Rattle.request_line.proofs.plain.read_members.Goals as goal

-- each turn puts one member in
pub members-preserved : goal.members-preserved
members-preserved c =
    let p = value 126 in
    let l = c.members in
    let n = l.invariant.0 in
    let one : LineMember = (c.in-Ok-Some.name, c.in-Some.value) in
    let k = c.in-Ok-Some.name.now in
    let d = value_of c.in-Some.value in
    let s = c.next_key.new.self in
    let r = c.read_value.new.reader in
    let old = object_of l.members.items in
    let named : read_key l.reader ≡ Some (Some k, s) = grind arith in
    let read : converted of_json (p s) ≡ Some (d, r) = search rules in
    let less = read_key-shorter l.reader (Some k) s named in
    let shorter = read_shorter 126 s r d read in
    let pushed : object_of c.push.new.self.items ≡ put k d old =
    ap object_of c.in_ok-push-in-Ok-Some.ensures.items
    ∙ put_all-push no_members l.members.items one in (
      n - 1,
      omega (arith, l.invariant.1),
      l.invariant.2 ∙ member_read p old n k l.reader s r d (omega (arith, l.invariant.1)) named read
          ∙ ap (λ found. converted (λ ms. of_members ms found) (members p (n - 1) r)) (sym pushed),
    )

-- each member takes tokens
pub members-smaller : goal.members-smaller
members-smaller c =
    let l = c.members in
    let d = value_of c.in-Some.value in
    let s = c.next_key.new.self in
    let r = c.read_value.new.reader in
    let named : read_key l.reader ≡ Some (Some c.in-Ok-Some.name.now, s) = grind arith in
    let read : converted of_json (value 126 s) ≡ Some (d, r) = search rules in
    omega (arith, read_key-shorter l.reader (Some c.in-Ok-Some.name.now) s named, read_shorter 126 s r d read)

-- the brace closes what was read
pub returns-in-Ok-None-clause-ok : goal.returns-in-Ok-None-clause-ok
returns-in-Ok-None-clause-ok c =
    let l = c.members in
    let n = l.invariant.0 in
    l.invariant.2
    ∙ members_over (value 126) (object_of l.members.items) n l.reader c.next_key.new.self l.invariant.1 (grind arith)
