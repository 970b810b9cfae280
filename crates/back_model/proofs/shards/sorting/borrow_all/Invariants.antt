use Rattle.std.proofs.Common.{◌≡◌, take, map}
use Rattle.back_model.proofs.shards.sorting.borrow_all.Given as goal

-- the entries so far are lent
abbrev pub invariant-loop-entry : goal.invariant-loop-entry
invariant-loop-entry g l = map (λ entry. entry.now) l.list.items ≡ take l.entry-index l.shards
