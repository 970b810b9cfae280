use Rattle.std.proofs.Common.{◌∙◌, sym, refl}
use Rattle.kept_store.proofs.Replayed.{line_first, none_left, first_counts, none_counts}
use Rattle.kept_store.proofs.replaying.replay_lines.Goals as goal

pub loop-line-init : goal.loop-line-init
loop-line-init g c = record { done = refl; counted = refl }

pub loop-line-preserved : goal.loop-line-preserved
loop-line-preserved g c =
    let cut = c.in-Some.ensures.some in
    record {
      done = line_first c.loop-line.store _ c.loop-line.rest.now
          c.in-Some.line.now c.in-Some.later.now cut.0 cut.1 c.in_ok-replay_line.ensures.ok
          ∙ c.loop-line.invariant.done;
      counted = first_counts c.loop-line.lines _ c.loop-line.rest.now
          c.in-Some.line.now c.in-Some.later.now cut.0 cut.1 c.in_ok-replay_line.ensures.counts
          ∙ c.loop-line.invariant.counted;
    }

pub returns-clause-ok : goal.returns-clause-ok
returns-clause-ok g c =
    sym (none_left c.loop-line.store c.loop-line.rest.now c.in_default.ensures.none)
    ∙ c.loop-line.invariant.done

pub returns-clause-counts : goal.returns-clause-counts
returns-clause-counts g c =
    sym (none_counts c.loop-line.lines c.loop-line.rest.now c.in_default.ensures.none)
    ∙ c.loop-line.invariant.counted
