use Rattle.std.proofs.Common.{◌≡◌, take}
use Rattle.request_core.proofs.read.lists.listing_of.Given as goal

-- the names so far are listed
abbrev pub invariant-loop-name : goal.invariant-loop-name
invariant-loop-name l = l.listing ≡ take l.name-index l.names
