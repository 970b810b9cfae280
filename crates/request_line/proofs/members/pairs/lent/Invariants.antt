use Rattle.std.proofs.Common.{◌≡◌, map, take}
use Rattle.request_line.proofs.members.pairs.lent.Given as goal

abbrev pub invariant-loop-text : goal.invariant-loop-text
invariant-loop-text l =
    l.entries.items ≡ map (λ t. (t.0.now, t.1.now)) (take l.text-index l.texts)
