-- What the calling thread scans of a deque that is closed. Ours, unless a source stands beside.
use Rattle.std.specs.Prelude.{◌≡◌, ℕ, List, ◌++◌, length}
use Rattle.mark_core.specs.declared.graph.Graph.{Graph}
use Rattle.mark_core.specs.Bits.{times}
use Rattle.steal_mark.specs.declared.shared.claims.Claims.{Claims}
use Rattle.steal_mark.specs.declared.shared.deques.PassView.{PassView}
use Rattle.steal_mark.specs.Claiming.{claims}
use Rattle.steal_mark.specs.Dealing.{pass_view}
use Rattle.steal_mark.specs.Working.{Saw}

-- `count` nodes were drained and listed, each target of them was seen, and
-- what was claimed was pushed
pub record Drains (g : Graph) (count : ℕ) (v w : Claims) (a b : PassView) (old new : List ℕ) : Type 0 where
  pub more : List ℕ
  pub looks : List ℕ
  pub drained : List ℕ
  pub seat : w ≡ claims v.parts (v.claimed ++ more) (v.seen ++ looks)
  pub deque : b ≡ pass_view a.parts a.graph (a.pushed ++ more) (a.taken ++ drained)
  pub list : new ≡ old ++ drained
  pub saw : Saw g looks drained
  pub many : length drained ≡ count

-- and at the end all that was pushed was taken
abbrev pub IsDry : PassView → Type 0
IsDry b = (n : ℕ) → times n b.pushed ≡ times n b.taken

-- nodes were drained until all that was pushed was taken
abbrev pub DrainsAll : Graph → Claims → Claims → PassView → PassView → List ℕ → List ℕ → Type 0
DrainsAll g v w a b old new = ((count : ℕ) × Drains g count v w a b old new) × IsDry b
