-- Of all nodes that lead to one from a step nearer, the first. Ours, unless a source stands beside.
use Rattle.std.specs.Prelude.{ℕ, zero, suc, ◌+◌, ◌==◌, Bool, false, ◌&&◌, List, Option, Some, None, get_or, if◌then◌else◌}
use Rattle.std.specs.List.{list_any}
use Rattle.mark_core.specs.declared.graph.Graph.{Graph}
use Rattle.mark_core.specs.Reach.{targets}

-- the second is known, and a step farther than the first
abbrev pub is_step : Option ℕ → Option ℕ → Bool
is_step None there = false
is_step (Some a) None = false
is_step (Some a) (Some b) = a + 1 == b

-- the first leads to the second, from a step nearer
abbrev pub leads : Graph → List (Option ℕ) → ℕ → ℕ → Bool
leads g depths a t = list_any (λ b. b == t) (targets g a)
    && is_step (get_or depths a None) (get_or depths t None)

-- the number that was filled in already, or else this one where the test holds
abbrev pub filled : Option ℕ → Bool → ℕ → Option ℕ
filled (Some a) test n = Some a
filled None test n = if test then Some n else None

-- of the numbers below the bound, the first that leads to this one
abbrev pub first_leading : Graph → List (Option ℕ) → ℕ → ℕ → Option ℕ
first_leading g depths t zero = None
first_leading g depths t (suc n) = filled (first_leading g depths t n) (leads g depths n t) n
