use Rattle.std.proofs.Common.{◌≡◌, [], ◌∷◌, ◌++◌, string_bytes, sym, ap, ◌∙◌, append_assoc}
use Rattle.serde_json.proofs.Views.{Entry}
use Rattle.request_line.proofs.RawLabels.{pairs_turn}
use Rattle.request_line.proofs.members.pairs.pairs_of.Goals as goal

-- each turn puts one member behind those before
pub loop-name-preserved : goal.loop-name-preserved
loop-name-preserved c =
    let l = c.loop-name in
    let done = l.invariant.0 in
    let e : Entry = (c.in-Some.name.now, c.in-Some.value.now) in
    let left = c.next.new.self in
    let all : c.args.members.now.entries ≡ done ++ e ∷ left =
    l.invariant.1 ∙ ap (λ es. done ++ es) c.in-Some.ensures.steps in
    let named : string_bytes c.in_ok-key.key ≡ string_bytes e.0 = c.in_ok-key.ensures.cases in (
      done ++ e ∷ [],
      all ∙ sym (append_assoc done (e ∷ []) left),
      pairs_turn l.entries.items _ done e c.new.result c.in_ok-text.text l.invariant.2 (c.new.ensures ∙ named) c.in_ok-text.ensures.ok c.in_ok-push.ensures.items,
    )
