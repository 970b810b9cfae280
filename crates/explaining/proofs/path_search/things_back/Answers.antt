use Rattle.std.proofs.Common.{◌<◌, ◌∷◌, ◌++◌, ◌-◌, ◌+◌, ◌∙◌, [], ℕ, List, Option, None, length, map, get_or, subst, ap}
use Rattle.std.specs.Prelude.{IfSome}
use Rattle.std.proofs.lemmas.List.{map-append}
use Rattle.meta_types.specs.Walks.{end_of}
use Rattle.meta_types.specs.Paths.{Thing}
use Rattle.gc_graph.specs.Stored.{records_of}
use Rattle.explaining.specs.ThingRows.{thing_of, thing_at}
use Rattle.explaining.specs.Firsts.{chain}
use Rattle.explaining.proofs.Chains.{all_there, last_there, one_back, last_back, none_of}
use Rattle.explaining.proofs.path_search.things_back.Goals as goal

pub returns-in_default-clause-things : goal.returns-in_default-clause-things
returns-in_default-clause-things c =
    let f = thing_at (records_of c.args.rows.now) in
    let before = c.args.before.now in
    all_there f before c.loop-step.here c.args.steps c.loop-step.step (map thing_of c.loop-step.things.items) (map f (c.args.number ∷ chain before c.args.steps c.args.number))
    (none_of (get_or before c.loop-step.here None) c.in_default.not-Some) c.loop-step.invariant.things

pub returns-in_default-clause-last : goal.returns-in_default-clause-last
returns-in_default-clause-last c =
    let before = c.args.before.now in
    last_there (thing_at (records_of c.args.rows.now)) before c.loop-step.here c.args.steps c.loop-step.step (end_of c.args.number (chain before c.args.steps c.args.number))
    (none_of (get_or before c.loop-step.here None) c.in_default.not-Some) c.loop-step.invariant.last

-- a number more
pub loop-step-preserved : goal.loop-step-preserved
loop-step-preserved c =
    let f = thing_at (records_of c.args.rows.now) in
    let before = c.args.before.now in
    let here = c.loop-step.here in
    let next = c.in-Some.next in
    record {
      place = subst (λ (o : Option ℕ). IfSome o (λ b. b < length before)) c.in-Some.is (c.requires.within here c.loop-step.invariant.place);
      things = ap (λ (l : List Thing). l ++ map f (chain before (c.args.steps - (c.loop-step.step + 1)) next))
          (ap (map thing_of) c.in_ok-push-2.ensures.items ∙ map-append thing_of c.loop-step.things.items (c.thing_at-in-loop-step.result ∷ []) ∙ ap (λ (t : Thing). map thing_of c.loop-step.things.items ++ t ∷ []) c.thing_at-in-loop-step.ensures)
          ∙ one_back f before here c.args.steps c.loop-step.step next (map thing_of c.loop-step.things.items) (map f (c.args.number ∷ chain before c.args.steps c.args.number)) c.loop-step-test.true c.in-Some.is c.loop-step.invariant.things;
      last = last_back f before here c.args.steps c.loop-step.step next (end_of c.args.number (chain before c.args.steps c.args.number)) c.loop-step-test.true c.in-Some.is c.loop-step.invariant.last;
    }
