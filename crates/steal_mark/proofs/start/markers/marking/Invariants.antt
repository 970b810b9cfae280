use Rattle.std.specs.Prelude.{Some}
use Rattle.steal_mark.proofs.start.markers.marking.Given as goal

-- the graph of the claim words
abbrev pub ghosts-learn : goal.ghosts-learn
ghosts-learn a = record { graph = Some a.claim_table.now.shared.key }
