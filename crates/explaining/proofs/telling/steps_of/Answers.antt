use Rattle.std.proofs.Common.{◌-◌, length, refl}
use Rattle.explaining.specs.StepWords.{root_word}
use Rattle.explaining.proofs.TellPaths.{told_round}
use Rattle.explaining.proofs.telling.steps_of.Goals as goal

-- a step more
pub loop-done-preserved : goal.loop-done-preserved
loop-done-preserved c =
    told_round c.args.profile (root_word c.args.ended) c.in_ok-by.by c.args.path.now c.loop-done.done (length c.args.path.now - 1 - c.loop-done.done) c.index-path-place.result c.loop-done.steps.items c.push.new.self.items c.in_ok-step_of.field-0
    c.loop-done-test.true refl c.index-path-place.is c.in_ok-by.ensures.ok c.in_ok-step_of.ensures.ok c.in_ok-push.ensures.items c.loop-done.invariant
