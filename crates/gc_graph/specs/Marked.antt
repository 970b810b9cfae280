-- What marks on numbers say of things. Ours, unless a source stands beside.
use Rattle.std.specs.Prelude.{ℕ, Bool, false, ◌==◌, List, ℤ}
use Rattle.std.specs.Option.{option_map_or}
use Rattle.meta_types.specs.Paths.{Thing, is_root}
use Rattle.mark_core.specs.Bits.{bit_of}
use Rattle.gc_graph.specs.declared.node.Node.{Node}
use Rattle.gc_graph.specs.Targets.{node_of}
use Rattle.gc_graph.specs.Built.{number_of}

-- the number is marked
abbrev pub is_marked : List ℕ → ℕ → Bool
is_marked marks n = bit_of marks n == 1

-- the node has a number, and that is marked
abbrev pub is_marked_node : List Node → List ℕ → Node → Bool
is_marked_node book marks node = option_map_or (is_marked marks) (number_of book node) false

-- a thing with a number is reached where that is marked, any other where it is a root
abbrev pub reached_by : ℕ → List Node → List ℕ → ℤ → Thing → Bool
reached_by profile book marks at thing = option_map_or (is_marked_node book marks) (node_of thing) (is_root profile at thing)
