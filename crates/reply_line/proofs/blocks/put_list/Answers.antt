use Rattle.std.proofs.Common.{
  ◌∙◌,
  ◌+◌,
  ◌++◌,
  ◌∷◌,
  [],
  map,
  drop,
  true,
  false,
  ap,
  sym,
  subst,
  arith,
}
use Rattle.std.proofs.lemmas.List.{drop_more, drop_all}
use Rattle.std.proofs.lemmas.Result.{on_ok_weaker, on_err_weaker}
use Rattle.serde_json.specs.Written.{compact_text, comma_if, items_text}
use Rattle.serde_json.specs.View.{items_of}
use Rattle.reply_line.specs.Blocks.{Puts}
use Rattle.reply_line.proofs.Putting.{fails_first, fails_then, fails_as, puts_then, holds_on_err}
use Rattle.reply_line.proofs.ReportTexts.{item_more}
use Rattle.reply_line.proofs.blocks.put_list.Goals as goal

pub returns-in_err-put_text-clause-err : goal.returns-in_err-put_text-clause-err
returns-in_err-put_text-clause-err g c =
    holds_on_err c.from_residual.result (fails_first (g.W.Write.contents c.args.writer.now)
    (g.W.Write.contents c.put_text.new.writer) c.args.block.now.items (91 ∷ [])
    (items_text false (items_of (map g.T.PutJson.as_data c.args.list.now)))
    c.in_err-put_text.ensures.err)

-- one item more
pub loop-item-preserved : goal.loop-item-preserved
loop-item-preserved g c =
    let l = c.loop-item in
    let as_data = g.T.PutJson.as_data in
    let h0 = g.W.Write.contents c.args.writer.now in
    let text = comma_if l.later ++ compact_text (as_data c.item-item.result) in
    let rest = items_text true (items_of (map as_data (drop (l.item-index + 1) c.args.list.now))) in
    let left = drop_more c.args.list.now l.item-index c.item-item.result (omega (
      arith,
      c.loop-item-test.true,
    )) ∙ ap (λ x. x ∷ drop (l.item-index + 1) c.args.list.now) (sym
    c.item-item.is) in (
      l.invariant.0 ++ text,
      puts_then h0 (g.W.Write.contents l.writer) (g.W.Write.contents c.put_item.new.writer)
          c.args.block.now.items l.block.items c.put_item.new.block.items l.invariant.0 text
          l.invariant.1 c.in_ok-put_item.ensures.ok,
      item_more l.invariant.0 (compact_text (as_data c.item-item.result)) rest l.later
          ∙ sym (ap (λ items.
          l.invariant.0 ++ items_text l.later (items_of (map as_data items))) left)
          ∙ l.invariant.2,
    )

-- the item isn't whole
pub returns-in_err-put_item-clause-err : goal.returns-in_err-put_item-clause-err
returns-in_err-put_item-clause-err g c =
    let l = c.loop-item in
    let as_data = g.T.PutJson.as_data in
    let h0 = g.W.Write.contents c.args.writer.now in
    let h2 = g.W.Write.contents c.put_item.new.writer in
    let b0 = c.args.block.now.items in
    let text = comma_if l.later ++ compact_text (as_data c.item-item.result) in
    let rest = items_text true (items_of (map as_data (drop (l.item-index + 1) c.args.list.now))) in
    let left = drop_more c.args.list.now l.item-index c.item-item.result (omega (
      arith,
      c.loop-item-test.true,
    )) ∙ ap (λ x. x ∷ drop (l.item-index + 1) c.args.list.now) (sym
    c.item-item.is) in
    let is = item_more l.invariant.0 (compact_text (as_data c.item-item.result)) rest l.later
    ∙ sym (ap (λ items. l.invariant.0 ++ items_text l.later (items_of (map as_data items)))
    left) ∙ l.invariant.2 in
    holds_on_err c.from_residual-in_err-put_item.result
    (fails_as h0 h2 b0 _ _ is (fails_first h0 h2 b0 (l.invariant.0 ++ text) rest
    (fails_then h0 (g.W.Write.contents l.writer) h2 b0 l.block.items l.invariant.0 text
    l.invariant.1 c.in_err-put_item.ensures.err)))

-- no item is left
pub returns-clause-ok : goal.returns-clause-ok
returns-clause-ok g c =
    let l = c.loop-item in
    let as_data = g.T.PutJson.as_data in
    let h0 = g.W.Write.contents c.args.writer.now in
    let h2 = g.W.Write.contents c.put_text-2.new.writer in
    let none = drop_all l.item-index c.args.list.now (omega (arith, c.loop-item-test.false)) in
    let is = sym (ap (λ items. l.invariant.0 ++ items_text l.later (items_of (map as_data items)))
    none) ∙ l.invariant.2 in
    on_ok_weaker c.put_text-2.result (λ w. subst (Puts h0 c.args.block.now.items h2
    c.put_text-2.new.block.items) is
    (puts_then h0 (g.W.Write.contents l.writer) h2 c.args.block.now.items l.block.items
    c.put_text-2.new.block.items l.invariant.0 (93 ∷ []) l.invariant.1 w))
    c.put_text-2.ensures.ok

pub returns-clause-err : goal.returns-clause-err
returns-clause-err g c =
    let l = c.loop-item in
    let as_data = g.T.PutJson.as_data in
    let h0 = g.W.Write.contents c.args.writer.now in
    let h2 = g.W.Write.contents c.put_text-2.new.writer in
    let none = drop_all l.item-index c.args.list.now (omega (arith, c.loop-item-test.false)) in
    let is = sym (ap (λ items. l.invariant.0 ++ items_text l.later (items_of (map as_data items)))
    none) ∙ l.invariant.2 in
    on_err_weaker c.put_text-2.result (λ w. fails_as h0 h2 c.args.block.now.items _ _ is
    (fails_then h0 (g.W.Write.contents l.writer) h2 c.args.block.now.items l.block.items
    l.invariant.0 (93 ∷ []) l.invariant.1 w)) c.put_text-2.ensures.err
