use Rattle.std.proofs.Common.{◌∙◌, ℕ, List, sym, ap, get_or, take}
use Rattle.std.proofs.lemmas.List.{take_more}
use Rattle.mark_core.specs.Claims.{claim, claim_all}
use Rattle.mark_core.proofs.ClaimLemmas.{claim_all-push}
use Rattle.mark_core.proofs.found.Found.add_all.Goals as goal

-- one more number is claimed, behind those before it
pub loop-n-preserved : goal.loop-n-preserved
loop-n-preserved c =
    let old : List ℕ = c.args.self.now.order.items in
    let ns : List ℕ = c.args.numbers.now in
    let k : ℕ = c.loop-n.n-index in
    let more = take_more ns k 0 c.loop-n-test.true in
    record {
      room = c.in_ok-add.ensures.room ∙ c.loop-n.invariant.room;
      claims = c.in_ok-add.ensures.claims
          ∙ ap (λ l. claim l (get_or ns k 0)) c.loop-n.invariant.claims
          ∙ sym (ap (claim_all old) more ∙ claim_all-push old (take k ns) (get_or ns k 0));
    }
