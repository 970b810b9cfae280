use Rattle.std.proofs.Common.{◌≡◌, take, length}
use Rattle.mark_core.specs.Claims.{claim_all}
use Rattle.mark_core.proofs.found.Found.add_all.Given as goal

-- the numbers before the place are claimed
abbrev pub invariant-loop-n : goal.invariant-loop-n
invariant-loop-n l = record {
  room : length l.self.marks ≡ length l.initial.self.marks;
  claims : l.self.order.items ≡ claim_all l.initial.self.order.items (take l.n-index l.numbers);
}
