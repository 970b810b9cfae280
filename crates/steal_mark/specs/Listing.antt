-- The result of a marking. Ours, unless a source stands beside.
use Rattle.std.specs.Prelude.{◌≡◌, ℕ, ◌<◌, List, sum_by}
use Rattle.mark_core.specs.declared.graph.Graph.{Graph}
use Rattle.mark_core.specs.Bits.{times}
use Rattle.mark_core.specs.Reach.{Reached}

-- how often n stands in the lists
abbrev pub listed : ℕ → List (List ℕ) → ℕ
listed n lists = sum_by (λ l. times n l) lists

-- the lists together hold each reached node exactly once and nothing else
abbrev pub HoldsEachOnce : Graph → List (List ℕ) → Type 0
HoldsEachOnce g lists = (n : ℕ) → (Reached g n → listed n lists ≡ 1) × (0 < listed n lists → Reached g n)
