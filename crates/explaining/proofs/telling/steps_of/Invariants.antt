use Rattle.std.proofs.Common.{◌-◌, drop, length, map}
use Rattle.meta_types.specs.Explanations.{AreTold}
use Rattle.explaining.specs.ThingRows.{thing_of}
use Rattle.explaining.specs.StepWords.{root_word}
use Rattle.explaining.proofs.telling.steps_of.Given as goal

-- the things that are left out stand before the place
abbrev pub invariant-loop-done : goal.invariant-loop-done
invariant-loop-done l = AreTold l.profile (root_word l.ended) (drop (length l.path - l.done) (map thing_of l.path)) l.steps.items
