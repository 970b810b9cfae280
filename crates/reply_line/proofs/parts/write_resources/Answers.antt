use Rattle.std.proofs.Common.{◌≡◌, ◌∙◌, ap, sym, subst, [], ◌∷◌, ◌++◌, take, arith}
use Rattle.std.proofs.lemmas.List.{take_all}
use Rattle.std.proofs.lemmas.Result.{on_ok_weaker}
use Rattle.json.specs.Token.{begin_array, end_array}
use Rattle.gc_report.specs.Writing.{Adds}
use Rattle.gc_report.proofs.Adding.{one, both, each, each-more, items_tokens-each}
use Rattle.reply_line.specs.Replies.{resource_data}
use Rattle.reply_line.proofs.parts.write_resources.Goals as goal

-- each turn writes one resource
pub loop-resource-preserved : goal.loop-resource-preserved
loop-resource-preserved c =
    let l = c.loop-resource in
    subst (Adds c.begin_array.new.self c.write_resource.new.out) (sym (each-more resource_data c.args.resources.now l.resource-index c.resource-item.result (omega arith) c.resource-item.is))
    (both l.invariant c.in_ok-write_resource.ensures)

-- the bracket, each resource in its turn, and the closing bracket
pub returns : goal.returns
returns c =
    let l = c.loop-resource in
    let items = c.args.resources.now in
    let all : take l.resource-index items ≡ items = take_all l.resource-index items (omega arith) in
    on_ok_weaker c.end_array.result (λ e.
    subst (λ ts. Adds c.args.out.now c.end_array.new.self (begin_array ∷ ts)) (ap (λ xs. each resource_data xs ++ end_array ∷ []) all ∙ items_tokens-each resource_data items)
    (both (one c.args.out.now c.begin_array.new.self c.in_ok-begin_array.ensures.room.0 c.in_ok-begin_array.ensures.ok)
    (both l.invariant (one l.out c.end_array.new.self c.end_array.ensures.room.0 e)))) c.end_array.ensures.ok
