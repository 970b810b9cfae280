-- The passes of a worker on the deques. Ours, unless a source stands beside.
use Rattle.std.specs.Prelude.{◌≡◌, ◌≢◌, ℕ, ◌<◌, List, [], ◌∷◌, ◌++◌, length, map, slice_index, slice_set, Some}
use mathlib.Core.Option.{some}
use lib.ListN.{get_elem?}
use Rattle.crossbeam_deque.specs.Handles.{view, IsPassOf, stealer_deque, stealer_flavor}
use Rattle.mark_core.specs.declared.graph.Graph.{Graph}
use Rattle.steal_mark.specs.declared.shared.deques.PassView.{PassView}
use Rattle.steal_mark.specs.declared.turn.thief_pass.ThiefPass.{ThiefPass}
use Rattle.steal_mark.specs.Dealing.{pass_view}

-- a pass on a deque of this graph's marking
pub record IsOther (g : Graph) (o : ThiefPass) : Type 0 where
  pub pass : IsPassOf (stealer_deque o.stealer) o.pass
  pub fifo : stealer_flavor o.stealer ≡ 0
  pub graph : (view o.pass).graph ≡ Some g
  pub unpushed : (view o.pass).pushed ≡ []

-- what a pass has pushed and taken
abbrev pub pass_view_of : ThiefPass → PassView
pass_view_of o = view o.pass

-- what each pass has pushed and taken
abbrev pub pass_views : List ThiefPass → List PassView
pass_views others = map pass_view_of others

-- how many parts each pass has
abbrev pub parts_of : List ThiefPass → List ℕ
parts_of others = map (λ (o : ThiefPass). (pass_view_of o).parts) others

-- a worker has one part of each deque, but none of its own beside the owner's
abbrev pub IsPlaced : ℕ → List ℕ → Type 0
IsPlaced number parts = (k : ℕ) → k < length parts → (k ≡ number → slice_index parts k ≡ 0) × (k ≢ number → slice_index parts k ≡ 1)

-- the view after n was taken
abbrev pub took : ℕ → PassView → PassView
took n v = pass_view v.parts v.graph v.pushed (v.taken ++ n ∷ [])

-- one of the passes has taken n
abbrev pub TookOne : ℕ → List PassView → List PassView → Type 0
TookOne n vs ws = (k : ℕ) × (v : PassView) × (get_elem? vs k ≡ some v) × (ws ≡ slice_set vs k (took n v))
