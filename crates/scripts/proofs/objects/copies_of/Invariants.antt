use Rattle.std.proofs.Common.{◌≡◌, map, take}
use Rattle.scripts.proofs.objects.copies_of.Given as goal

-- the digests so far are copied
abbrev pub invariant-loop-digest : goal.invariant-loop-digest
invariant-loop-digest l = l.digests.items ≡ map (λ digest. digest.now) (take l.digest-index l.lent)
