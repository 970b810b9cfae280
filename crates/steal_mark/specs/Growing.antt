-- What a scan adds to a seat and to the deque. Ours, unless a source stands beside.
use Rattle.std.specs.Prelude.{◌≡◌, ℕ, ◌<◌, List, ◌++◌, All}
use Rattle.mark_core.specs.declared.graph.Graph.{Graph}
use Rattle.mark_core.specs.Reach.{Reached, node_count}
use Rattle.steal_mark.specs.declared.shared.claims.Claims.{Claims}
use Rattle.steal_mark.specs.declared.shared.deques.PassView.{PassView}
use Rattle.steal_mark.specs.Claiming.{claims}
use Rattle.steal_mark.specs.Dealing.{pass_view}

-- each target was seen claimed, and what was claimed was pushed
pub record Grows (targets : List ℕ) (v w : Claims) (a b : PassView) : Type 0 where
  pub more : List ℕ
  pub seat : w ≡ claims v.parts (v.claimed ++ more) (v.seen ++ targets)
  pub deque : b ≡ pass_view a.parts a.graph (a.pushed ++ more) a.taken

-- the targets may be claimed
abbrev pub MayClaim : Graph → List ℕ → Type 0
MayClaim g targets = All (λ t. Reached g t × (t < node_count g)) targets
