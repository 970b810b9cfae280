-- The snapshots of a backend in memory, with how many children each has. Ours, unless a source
-- stands beside.
use Rattle.std.specs.Prelude.{◌≡◌, ℕ, Option, List, map, sum_by, if◌then◌else◌}
use Rattle.std.specs.BTreeMap.{BTreeMap, values, get, IsOrdered}
use Rattle.std.specs.Option.{option_map_or}
use Rattle.std.specs.Ordering.{nat_cmp}
use Rattle.std.specs.FinMap as finmap
use Rattle.back_model.specs.Snaps.{Snaps, is_number}
use Rattle.back_model.specs.declared.mem_backend.Node.{Node}

-- the parent of each number
abbrev pub parents_of : List (ℕ × Node) → List (ℕ × Option ℕ)
parents_of entries = map (λ entry. (entry.0, entry.1.parent)) entries

-- what the backend holds
abbrev pub snaps_of : BTreeMap ℕ Node → Snaps
snaps_of nodes = finmap.from_entries (parents_of nodes.entries)

-- one where this is the parent
abbrev pub one_if : ℕ → Option ℕ → ℕ
one_if number parent = if is_number number parent then 1 else 0

-- how many snapshots have it as their parent
abbrev pub children_of : ℕ → BTreeMap ℕ Node → ℕ
children_of number nodes = sum_by (λ node. one_if number node.parent) (values nodes)

-- how many children are counted for it: none where it isn't there
abbrev pub counted : ℕ → BTreeMap ℕ Node → ℕ
counted number nodes = option_map_or (λ node. node.children) (get nat_cmp nodes number) 0

-- the snapshots stand by number, and the children of each are counted
pub record AreCounted (nodes : BTreeMap ℕ Node) : Type 0 where
  pub order : IsOrdered nat_cmp nodes
  pub each : (number : ℕ) → counted number nodes ≡ children_of number nodes
