use Rattle.std.proofs.Common.{◌≡◌, ◌∙◌, ◌+◌, ℕ, suc, length, sym, ap, subst, arith}
use Rattle.gc_graph.specs.Stored.{records_of}
use Rattle.mark_core.specs.Firsts.{leads}
use Rattle.explaining.specs.ThingRows.{numbered}
use Rattle.explaining.specs.Firsts.{number_before, chosen, first_leading, AreWithin}
use Rattle.explaining.proofs.Puts.{all_within}
use Rattle.explaining.proofs.firsts.first_before.Goals as goal

-- one number more
pub loop-from-preserved : goal.loop-from-preserved
loop-from-preserved c =
    let records = records_of c.args.rows.now in
    let depths = c.args.depths.now in
    let graph = c.args.graph.now in
    let from = c.loop-from.from in
    record {
      count = c.put_from.ensures.count ∙ c.loop-from.invariant.count;
      within = all_within (number_before records) from (length (numbered records)) (let lt = c.loop-from-test.true in let e = c.requires.numbers in omega (arith, lt, e)) c.loop-from.before.items c.put_from.new.before.items
          (λ t. leads graph depths from t) (length depths) c.loop-from.invariant.count (c.put_from.ensures.count ∙ c.loop-from.invariant.count) c.loop-from.invariant.within c.put_from.ensures.each;
      each = λ t lt. c.put_from.ensures.each t lt ∙ ap (chosen (number_before records) (leads graph depths from t) from) (c.loop-from.invariant.each t lt) ∙ ap (λ k. first_leading records graph depths t k) (let up : suc from ≡ from + 1 = omega arith in up);
    }

pub returns-clause-within : goal.returns-clause-within
returns-clause-within c = subst (λ (k : ℕ). AreWithin k c.loop-from.before.items) (sym (c.loop-from.invariant.count ∙ c.requires.numbers)) c.loop-from.invariant.within
