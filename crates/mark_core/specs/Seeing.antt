-- What a search has seen, as a list with no node twice. Ours, unless a source stands beside.
use Rattle.std.specs.Prelude.{ℕ, Bool, nat_lt, ◌==◌, if◌then◌else◌, List, [], ◌∷◌, ◌++◌, count_by, Option}

-- A node that a search has seen: the place of the one whose target it is (a start has none), and the
-- cost of its start, with 1 for each step from there.
pub record Seen : Type 0 where
  pub node : ℕ
  pub before : Option ℕ
  pub depth : ℕ

-- how often the node was seen
abbrev pub times_seen : ℕ → List Seen → ℕ
times_seen n seen = count_by (λ s. s.node == n) seen

-- the node was seen
abbrev pub is_seen : ℕ → List Seen → Bool
is_seen n seen = nat_lt 0 (times_seen n seen)

-- a node is seen, unless it was before
abbrev pub see : List Seen → Seen → List Seen
see seen it = if is_seen it.node seen then seen else seen ++ it ∷ []

-- each node is seen, found from one place and at one depth
abbrev pub see_all : Option ℕ → ℕ → List Seen → List ℕ → List Seen
see_all before depth seen [] = seen
see_all before depth seen (n ∷ ns) =
    see_all before depth (see seen (record { node = n; before = before; depth = depth })) ns
