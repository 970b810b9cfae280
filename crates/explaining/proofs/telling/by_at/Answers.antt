use Rattle.std.proofs.Common.{◌∙◌, sym, ap, Some}
use Rattle.std.specs.Prelude.{option_map}
use Rattle.explaining.specs.Reasons.{by_of}
use Rattle.explaining.specs.StepWords.{root_word}
use Rattle.explaining.proofs.TellPaths.{root_by, below_next, no_gap, told_by}
use Rattle.explaining.proofs.telling.by_at.Goals as goal

pub returns-then-behind-path-clause-ok : goal.returns-then-behind-path-clause-ok
returns-then-behind-path-clause-ok c = root_by (root_word c.args.ended) c.root_word.result c.args.path.now c.args.place c.if-behind-path.true c.root_word.ensures

-- there is a reason
pub unreachable-requires : goal.unreachable-requires
unreachable-requires c =
    no_gap c.args.path.now c.args.place c.index-path-behind.result c.index-path-place.result (below_next c.args.place _ c.requires.place c.if-behind-path.false) c.index-path-behind.is c.index-path-place.is c.requires.linked
    (ap (option_map by_of) (sym c.in-None.is) ∙ c.in_ok-why.ensures.ok)

pub returns-clause-ok : goal.returns-clause-ok
returns-clause-ok c =
    told_by c.args.path.now c.args.place c.index-path-behind.result c.index-path-place.result (below_next c.args.place _ c.requires.place c.if-behind-path.false) c.index-path-behind.is c.index-path-place.is (root_word c.args.ended) c.in_ok-by-in-Some.by
    (sym (ap Some c.in_ok-by-in-Some.ensures.ok ∙ ap (option_map by_of) (sym c.in-Some.is) ∙ c.in_ok-why.ensures.ok))
