use Rattle.std.proofs.Common.{◌≡◌, ◌∙◌, ap, subst, [], ◌∷◌, ◌++◌, take, arith}
use Rattle.std.proofs.lemmas.List.{take_all}
use Rattle.std.proofs.lemmas.Result.{on_ok_weaker}
use Rattle.json.specs.Token.{begin_array, end_array}
use Rattle.gc_report.specs.Writing.{Adds}
use Rattle.gc_report.proofs.Adding.{one, both, each, items_tokens-each}
use Rattle.gc_report.proofs.writing.write_list.Goals as goal

-- the bracket, each item in its turn, and the closing bracket
pub returns : goal.returns
returns g c =
    let l = c.loop-item in
    let items = c.args.list.now in
    let as_data = g.T.WriteJson.as_data in
    let all : take l.item-index items ≡ items = take_all l.item-index items (omega arith) in
    on_ok_weaker c.end_array.result (λ e.
    subst (λ ts. Adds c.args.out.now c.end_array.new.self (begin_array ∷ ts)) (ap (λ xs. each as_data xs ++ end_array ∷ []) all ∙ items_tokens-each as_data items)
    (both (one c.args.out.now c.begin_array.new.self c.in_ok-begin_array.ensures.room.0 c.in_ok-begin_array.ensures.ok) (both l.invariant (one l.out c.end_array.new.self c.end_array.ensures.room.0 e)))) c.end_array.ensures.ok
