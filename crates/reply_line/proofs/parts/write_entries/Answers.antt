use Rattle.std.proofs.Common.{◌≡◌, ◌∙◌, ap, sym, subst, [], ◌∷◌, ◌++◌, take, arith}
use Rattle.std.proofs.lemmas.List.{take_all}
use Rattle.std.proofs.lemmas.Result.{on_ok_weaker}
use Rattle.json.specs.Token.{begin_object, end_object}
use Rattle.json.specs.Tree.{members_tokens}
use Rattle.serde_json.specs.Written.{members_outline}
use Rattle.meta_types.specs.Text.{texts_of}
use Rattle.gc_report.specs.Writing.{Adds}
use Rattle.gc_report.proofs.Adding.{one, both}
use Rattle.reply_line.proofs.LabelsInOrder.{label_tokens, label_tokens-more, members_tokens-labels, with_labels-in_order}
use Rattle.reply_line.proofs.parts.write_entries.Goals as goal

-- each turn writes one label
pub loop-key-preserved : goal.loop-key-preserved
loop-key-preserved c =
    let l = c.loop-key in
    subst (Adds c.begin_object.new.self c.string.new.self) (sym (label_tokens-more c.args.entries.now l.key-index c.loop-key-item.result (omega arith) c.loop-key-item.is))
    (both l.invariant (both (one l.out c.key.new.self c.in_ok-key.ensures.room.0 (rw c.deref.ensures at c.in_ok-key.ensures.ok))
    (one c.key.new.self c.string.new.self c.in_ok-string.ensures.room.0 (rw c.deref-in-loop-key.ensures at c.in_ok-string.ensures.ok))))

-- the brace, each label in its turn, and the closing brace
pub returns : goal.returns
returns c =
    let l = c.loop-key in
    let labels = texts_of c.args.entries.now in
    let all : texts_of (take l.key-index c.args.entries.now) ≡ labels = ap texts_of (take_all l.key-index c.args.entries.now (omega arith)) in
    on_ok_weaker c.end_object.result (λ e.
    subst (λ ts. Adds c.args.out.now c.end_object.new.self (begin_object ∷ ts))
    (ap (λ ls. label_tokens ls ++ end_object ∷ []) all ∙ members_tokens-labels labels ∙ ap (λ ms. members_tokens (members_outline ms)) (sym (with_labels-in_order labels c.requires)))
    (both (one c.args.out.now c.begin_object.new.self c.in_ok-begin_object.ensures.room.0 c.in_ok-begin_object.ensures.ok)
    (both l.invariant (one l.out c.end_object.new.self c.end_object.ensures.room.0 e)))) c.end_object.ensures.ok
