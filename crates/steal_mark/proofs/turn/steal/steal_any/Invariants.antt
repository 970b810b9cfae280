use Rattle.std.proofs.Common.{◌≡◌, map}
use Rattle.std.specs.Prelude.{All}
use Rattle.steal_mark.specs.Stealing.{IsOther, pass_views, parts_of}
use Rattle.steal_mark.proofs.turn.steal.steal_any.Given as goal

-- so far nothing was found, and nothing changed
abbrev pub invariant-loop-k : goal.invariant-loop-k
invariant-loop-k l = All (IsOther l.graph) l.others × (map (λ o. o.stealer) l.others ≡ map (λ o. o.stealer) l.initial.others) × (pass_views l.others ≡ pass_views l.initial.others) × (parts_of l.others ≡ parts_of l.initial.others)
