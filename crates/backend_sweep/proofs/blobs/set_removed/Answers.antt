use Rattle.std.proofs.Common.{rules, ◌≡◌, ◌<◌, [], length, refl, slice_index_or}
use Rattle.backend_sweep.specs.declared.outcomes.Outcome.TheVariants as F
use Rattle.backend_sweep.proofs.ObjectOutcomes.{any_default, set_more}
use Rattle.backend_sweep.proofs.blobs.set_removed.Goals as goal

-- one more went
pub loop-i-preserved : goal.loop-i-preserved
loop-i-preserved c =
    let i = c.loop-i.invariant in
    let names = c.args.names.now in
    let n = slice_index_or names c.loop-i.i [] in
    let here : c.loop-i.i < length names = search rules in
    record {
      set = set_more (λ name. F.Removed) names c.loop-i.outcomes c.loop-i.i n F.Removed i.set
          (any_default names c.loop-i.i [] n here) here i.same refl;
      same = search rules;
    }
