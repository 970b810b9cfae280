-- One deque: what it holds, and what each pass has pushed and taken. Ours,
-- unless a source stands beside.
use Rattle.std.specs.Prelude.{◌≡◌, ℕ, ◌+◌, ◌-◌, ◌<◌, ◌≤◌, List, [], ◌++◌, All, sum_by, Option, Some, None}
use mathlib.Core.Option.{some}
use lib.ListN.{get_elem?}
use Rattle.mark_core.specs.declared.graph.Graph.{Graph}
use Rattle.mark_core.specs.Bits.{times}
use Rattle.mark_core.specs.Reach.{Reached}
use Rattle.crossbeam_deque.specs.Handles.{worker_deque, worker_flavor}
use Rattle.crossbeam_deque.specs.declared.handles.Worker.{Worker}
use Rattle.steal_mark.specs.declared.shared.deques.PassView.{PassView}

-- the view of a pass, of its parts, its graph and its two lists
abbrev pub pass_view : ℕ → Option Graph → List ℕ → List ℕ → PassView
pass_view parts graph pushed taken = record { parts = parts; graph = graph; pushed = pushed; taken = taken }

-- the node is reached in the graph, of which a new deque has none
abbrev pub ReachedIn : Option Graph → ℕ → Type 0
ReachedIn None n = ⊥
ReachedIn (Some g) n = Reached g n

-- a pass knows the graph. One with no part has pushed and taken nothing
pub record Holds (graph : Option Graph) (v : PassView) : Type 0 where
  pub knows : 0 < v.parts → v.graph ≡ graph
  pub idle : v.parts ≡ 0 → (v.pushed ≡ []) × (v.taken ≡ [])

-- what was pushed is what was taken and what the deque holds, and that is reached
pub record IsDealt (items : List ℕ) (views : List PassView) : Type 0 where
  pub graph : Option Graph
  pub parts : sum_by (λ v. v.parts) views ≡ 1024
  pub counted : (n : ℕ) → sum_by (λ v. times n v.pushed) views ≡ sum_by (λ v. times n v.taken) views + times n items
  pub reached : All (ReachedIn graph) items
  pub each : (port : ℕ) (v : PassView) → get_elem? views port ≡ some v → Holds graph v

-- the nodes were pushed, and nothing else changed
abbrev pub Pushed : PassView → List ℕ → PassView → Type 0
Pushed v xs w = w ≡ pass_view v.parts v.graph (v.pushed ++ xs) v.taken

-- the nodes were taken, and they are reached
abbrev pub Taken : PassView → List ℕ → PassView → Type 0
Taken v xs w = (w ≡ pass_view v.parts v.graph v.pushed (v.taken ++ xs)) × All (ReachedIn v.graph) xs

-- who has every part finds the deque empty only if it took all that it pushed
abbrev pub Emptied : PassView → Type 0
Emptied v = v.parts ≡ 1024 → (n : ℕ) → times n v.pushed ≡ times n v.taken

-- the owner's view after a new pass was made
abbrev pub cut_left : PassView → PassView
cut_left v = pass_view (v.parts - 1) v.graph v.pushed v.taken

-- the view of a new pass, which has one part
abbrev pub cut_right : PassView → PassView
cut_right v = pass_view 1 v.graph [] []

-- the view of two passes together
abbrev pub joined : PassView → PassView → PassView
joined v w = pass_view (v.parts + w.parts) v.graph (v.pushed ++ w.pushed) (v.taken ++ w.taken)

-- the deque is the same one
abbrev pub SameDeque : {T A V P : Type 0} → Worker T A V P → Worker T A V P → Type 0
SameDeque old new = (worker_deque new ≡ worker_deque old) × (worker_flavor new ≡ worker_flavor old)

-- who has every part knows that no more was taken than was pushed
abbrev pub NoMore : PassView → List ℕ → Type 0
NoMore v items = v.parts ≡ 1024 → (n : ℕ) → times n v.taken ≤ times n v.pushed
