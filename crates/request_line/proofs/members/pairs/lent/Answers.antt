use Rattle.std.proofs.Common.{◌∙◌, ap, sym, map, take}
use Rattle.std.proofs.lemmas.List.{take_more}
use Rattle.request_line.proofs.RawLabels.{lent_turn}
use Rattle.request_line.proofs.members.pairs.lent.Goals as goal

-- each turn puts one pair behind those before
pub loop-text-preserved : goal.loop-text-preserved
loop-text-preserved c =
    let l = c.loop-text in
    let more = take_more c.args.texts.now l.text-index _ c.loop-text-test.true in
    lent_turn l.entries.items _ (take l.text-index c.args.texts.now) _ c.lent.result
    c.lent-in-loop-text.result l.invariant c.lent.ensures c.lent-in-loop-text.ensures
    c.in_ok-push.ensures.items
    ∙ ap (map (λ t. (t.0.now, t.1.now))) (sym more)
