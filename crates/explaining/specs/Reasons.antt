-- Borrowed reasons. Ours, unless a source stands beside.
use Rattle.meta_types.specs.declared.explanation.By.{By}
use Rattle.meta_types.specs.declared.explanation.By.TheVariants as B
use Rattle.explaining.specs.declared.reasons.Why.{Why}
use Rattle.explaining.specs.declared.reasons.Why.TheVariants as W

-- the reason that a borrowed one is
abbrev pub by_of : Why → By
by_of W.Target = B.Target
by_of W.Snapshot = B.Snapshot
by_of W.Resource = B.Resource
by_of W.Expected = B.Expected
by_of W.Parent = B.Parent
by_of (W.Label key) = B.Label key.now
