use Rattle.std.proofs.Common.{◌≡◌, ◌∙◌, ap, sym, subst, [], ◌∷◌, ◌++◌, take, arith}
use Rattle.std.proofs.lemmas.List.{take_all}
use Rattle.std.proofs.lemmas.Result.{on_ok_weaker}
use Rattle.json.specs.Token.{begin_array, end_array}
use Rattle.gc_report.specs.Writing.{Adds}
use Rattle.gc_report.proofs.Adding.{one, both, each, each-more, items_tokens-each}
use Rattle.reply_line.specs.Explained.{step_data}
use Rattle.reply_line.proofs.explanation.write_path.Goals as goal

-- each turn writes one thing
pub loop-step-preserved : goal.loop-step-preserved
loop-step-preserved c =
    let l = c.loop-step in
    subst (Adds c.begin_array.new.self c.write_step.new.out) (sym (each-more step_data c.args.path.now l.step-index c.step-item.result (omega arith) c.step-item.is))
    (both l.invariant c.in_ok-write_step.ensures)

-- the bracket, each thing in its turn, and the closing bracket
pub returns : goal.returns
returns c =
    let l = c.loop-step in
    let items = c.args.path.now in
    let all : take l.step-index items ≡ items = take_all l.step-index items (omega arith) in
    on_ok_weaker c.end_array.result (λ e.
    subst (λ ts. Adds c.args.out.now c.end_array.new.self (begin_array ∷ ts)) (ap (λ xs. each step_data xs ++ end_array ∷ []) all ∙ items_tokens-each step_data items)
    (both (one c.args.out.now c.begin_array.new.self c.in_ok-begin_array.ensures.room.0 c.in_ok-begin_array.ensures.ok)
    (both l.invariant (one l.out c.end_array.new.self c.end_array.ensures.room.0 e)))) c.end_array.ensures.ok
