use Rattle.std.proofs.Common.{◌≡◌, length}
use Rattle.kept_store.specs.Numbers.{number_after}
use Rattle.kept_store.proofs.numbers.value.Given as goal

abbrev pub invariant-reading : goal.invariant-reading
invariant-reading l = number_after l.number l.rest ≡ number_after 0 l.digits

abbrev pub decreases-reading : goal.decreases-reading
decreases-reading l = length l.rest
