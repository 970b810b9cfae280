use Rattle.std.proofs.Common.{◌≡◌, ◌∙◌, ◌+◌, suc, ap, arith}
use Rattle.gc_graph.specs.Stored.{records_of}
use Rattle.explaining.specs.Firsts.{chosen}
use Rattle.explaining.specs.Ends.{nearer, nearest_below}
use Rattle.explaining.specs.Questions.{asked_by}
use Rattle.explaining.proofs.nearest.nearest.Goals as goal

-- one number more
pub loop-number-preserved : goal.loop-number-preserved
loop-number-preserved c =
    let records = records_of c.args.rows.now in
    let depths = c.args.depths.now in
    let number = c.loop-number.number in
    let up : suc number ≡ number + 1 = omega arith in
    record {
      nearest = c.chosen-best.ensures.chosen ∙ (λ i. chosen (nearer records depths) (c.is_end-fits.ensures i) number (c.loop-number.invariant.nearest i))
          ∙ ap (λ k. nearest_below records (asked_by c.args.question) depths k) up;
      range = c.chosen-best.ensures.range;
    }
