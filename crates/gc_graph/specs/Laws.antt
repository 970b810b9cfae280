-- What marks on a store's graph say of the store. The statement is the contract of a function of
-- the module `laws`. Ours, unless a source stands beside.
use Rattle.std.specs.Prelude.{◌≡◌, ℕ, List, Bool, Contains, ◌↔◌, ℤ}
use Rattle.meta_types.specs.Rows.{Records}
use Rattle.meta_types.specs.Paths.{Thing, things, TellsReached}
use Rattle.mark_core.specs.Bits.{bit_of}
use Rattle.mark_core.specs.Reach.{Reached}
use Rattle.mark_core.specs.declared.graph.Graph.{Graph}
use Rattle.gc_graph.specs.declared.node.Node.{Node}
use Rattle.gc_graph.specs.Built.{IsBuilt}
use Rattle.gc_graph.specs.Marked.{reached_by}

-- a bit is set exactly where its number is reached
abbrev pub AreReached : Graph → List ℕ → Type 0
AreReached graph marks = (n : ℕ) → (bit_of marks n ≡ 1) ↔ Reached graph n

-- marks that are the reached numbers of a store's graph tell where its paths end
abbrev pub MarksTellWherePathsEnd : Type 0
MarksTellWherePathsEnd = (records : Records) (at : ℤ) (book : List Node) (graph : Graph) (marks : List ℕ) → IsBuilt records at book graph → AreReached graph marks
    → TellsReached records at (reached_by records.profile book marks at)

-- a test tells where paths end in a store whatever the order of its rows
abbrev pub PathsSeeNoOrder : Type 0
PathsSeeNoOrder = (these those : Records) (at : ℤ) (reached : Thing → Bool) → these.profile ≡ those.profile → ((thing : Thing) → Contains (things these) thing ↔ Contains (things those) thing)
    → TellsReached these at reached → TellsReached those at reached
