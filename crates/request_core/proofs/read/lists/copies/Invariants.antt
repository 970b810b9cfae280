use Rattle.std.proofs.Common.{◌≡◌, map, take}
use Rattle.request_core.proofs.read.lists.copies.Given as goal

-- the resources so far are copied
abbrev pub invariant-loop-resource : goal.invariant-loop-resource
invariant-loop-resource l = l.copies.items ≡ map (λ resource. resource.now) (take l.resource-index l.resources)
