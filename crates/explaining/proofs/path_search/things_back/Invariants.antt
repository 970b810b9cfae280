use Rattle.std.proofs.Common.{◌≡◌, ◌<◌, ◌-◌, ◌∷◌, ◌++◌, length, map}
use Rattle.meta_types.specs.Walks.{end_of}
use Rattle.gc_graph.specs.Stored.{records_of}
use Rattle.explaining.specs.ThingRows.{thing_of, thing_at}
use Rattle.explaining.specs.Firsts.{chain}
use Rattle.explaining.proofs.path_search.things_back.Given as goal

-- what is left of the chain is that of the number that was come to
abbrev pub invariant-loop-step : goal.invariant-loop-step
invariant-loop-step l = record {
  place : l.here < length l.before;
  things : map thing_of l.things.items ++ map (thing_at (records_of l.rows)) (chain l.before (l.steps - l.step) l.here) ≡ map (thing_at (records_of l.rows)) (l.number ∷ chain l.before l.steps l.number);
  last : end_of l.here (chain l.before (l.steps - l.step) l.here) ≡ end_of l.number (chain l.before l.steps l.number);
}
