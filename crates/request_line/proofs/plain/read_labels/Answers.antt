use Rattle.std.proofs.Common.{◌≡◌, ◌-◌, ◌<◌, suc, ◌∙◌, ap, sym, ◌∷◌, length, Some, true, false, arith, Bor}
use Rattle.json.specs.Token.{Token}
use Rattle.json.specs.Json.{read_key, value}
use Rattle.json.proofs.Grammar.{read_key-shorter}
use Rattle.serde_json.specs.Data.{string, put}
use Rattle.meta_types.specs.Text.{Text}
use Rattle.request_line.specs.LineMembers.{texts_object, is_behind}
use Rattle.request_line.proofs.LineMembers.{over_members, member_read, members_over, text_read, put_behind, rises}
use Rattle.request_line.proofs.Places.{still_rises}
use Rattle.request_line.proofs.plain.read_labels.Goals as goal

-- a text whose name stands behind those before goes last
pub members-preserved-then-is_behind : goal.members-preserved-then-is_behind
members-preserved-then-is_behind c =
    let p = value 125 in
    let l = c.members in
    let n = l.invariant.0 in
    let one : Bor Text × Bor Text = (c.in-Ok-Some.name, c.in-Some-String.text) in
    let k = c.in-Ok-Some.name.now in
    let s = c.next_key.new.self in
    let r = c.next.new.self in
    let text = c.in-Some-String.text.now in
    let old = texts_object l.texts.items in
    let named : read_key l.reader ≡ Some (Some k, s) = grind arith in
    let is : s ≡ Token.string text ∷ r = grind arith in
    let behind : is_behind l.last k ≡ true = sym c.is_behind.ensures ∙ c.if-is_behind.true in
    let less = read_key-shorter l.reader (Some k) s named in
    let shorter : length s ≡ suc (length r) = ap length is in
    let some : 0 < n = omega (arith, l.invariant.1) in
    let read = text_read 125 text s r is in
    let pushed : texts_object c.push.new.self.items ≡ put k (string text) old =
    ap texts_object c.in_ok-push-in-Ok-Some.ensures.items
    ∙ sym (put_behind l.texts.items one (l.invariant.3 k behind)) in (
      n - 1,
      omega (arith, l.invariant.1),
      l.invariant.2
          ∙ member_read p old n k l.reader s r (string text) some named read
          ∙ ap (over_members p (n - 1) r) (sym pushed),
      rw c.in_ok-push-in-Ok-Some.ensures.items (rises l.last l.texts.items one l.invariant.3 behind),
    )

-- any other text is put in its place
pub members-preserved : goal.members-preserved
members-preserved c =
    let p = value 125 in
    let l = c.members in
    let n = l.invariant.0 in
    let k = c.in-Ok-Some.name.now in
    let s = c.next_key.new.self in
    let r = c.next.new.self in
    let text = c.in-Some-String.text.now in
    let old = texts_object l.texts.items in
    let named : read_key l.reader ≡ Some (Some k, s) = grind arith in
    let is : s ≡ Token.string text ∷ r = grind arith in
    let inside : is_behind l.last k ≡ false = sym c.is_behind.ensures ∙ c.if-is_behind.false in
    let less = read_key-shorter l.reader (Some k) s named in
    let shorter : length s ≡ suc (length r) = ap length is in
    let some : 0 < n = omega (arith, l.invariant.1) in
    let read = text_read 125 text s r is in
    let new = c.put_text.new.texts.items in
    let put_there = c.in_ok-put_text-in-Ok-Some.ensures in (
      n - 1,
      omega (arith, l.invariant.1),
      l.invariant.2
          ∙ member_read p old n k l.reader s r (string text) some named read
          ∙ ap (over_members p (n - 1) r) (sym put_there.ok),
      still_rises l.last l.texts.items new k inside put_there.rising l.invariant.3,
    )

-- the brace closes what was read
pub returns-in-Ok-None-clause-ok : goal.returns-in-Ok-None-clause-ok
returns-in-Ok-None-clause-ok c =
    let l = c.members in
    let n = l.invariant.0 in
    l.invariant.2
    ∙ members_over (value 125) (texts_object l.texts.items) n l.reader c.next_key.new.self l.invariant.1 (grind arith)
