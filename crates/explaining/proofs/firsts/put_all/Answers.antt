use Rattle.std.proofs.Common.{◌∙◌, length, get_or, None, arith}
use Rattle.std.specs.Prelude.{◌&&◌, ◌==◌}
use Rattle.gc_graph.specs.Stored.{records_of}
use Rattle.mark_core.specs.Firsts.{is_step}
use Rattle.explaining.specs.ThingRows.{numbered}
use Rattle.explaining.specs.Firsts.{number_before}
use Rattle.explaining.proofs.Puts.{all_within, target_more}
use Rattle.explaining.proofs.firsts.put_all.Goals as goal

-- one target more
pub loop-target-preserved : goal.loop-target-preserved
loop-target-preserved c =
    let records = records_of c.args.rows.now in
    let depths = c.args.depths.now in
    let targets = c.args.targets.now in
    let i = c.loop-target.target-index in
    let from = c.args.from in
    let here = get_or targets i 0 in
    record {
      count = c.put.ensures.count ∙ c.loop-target.invariant.count;
      within = all_within (number_before records) from (length (numbered records)) (let lt = c.requires.from in let e = c.requires.numbers in omega (arith, lt, e)) c.loop-target.before c.put.new.before
          (λ t. (here == t) && is_step (get_or depths from None) (get_or depths t None)) (length depths) c.loop-target.invariant.count (c.put.ensures.count ∙ c.loop-target.invariant.count) c.loop-target.invariant.within c.put.ensures.each;
      each = λ t lt. target_more (number_before records) from targets i t 0 (is_step (get_or depths from None) (get_or depths t None)) (get_or c.args.before.now t None) (get_or c.loop-target.before t None) (get_or c.put.new.before t None)
          c.loop-target-test.true (c.loop-target.invariant.each t lt) (c.put.ensures.each t lt);
    }
