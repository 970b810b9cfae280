-- A forest has exactly what is reached from its starts.
use Rattle.std.proofs.Common.{◌≡◌, ℕ, List, [], ◌∷◌, ◌++◌, get_or, refl}
use Rattle.std.specs.Prelude.{Contains}
use Rattle.meta_types.specs.Walks.{IsWalk, end_of}

-- a walk can go on to a target of the node in which it ends
pub walk_push : (edges : List (List ℕ)) (a : ℕ) (walk : List ℕ) (b : ℕ) → IsWalk edges a walk → Contains (get_or edges (end_of a walk) []) b → IsWalk edges a (walk ++ b ∷ [])
walk_push edges a [] b w c = (c, tt)
walk_push edges a (x ∷ walk) b w c = (w.0, walk_push edges x walk b w.1 c)

-- a walk that goes on to a node ends in it
pub end_push : (a : ℕ) (walk : List ℕ) (b : ℕ) → end_of a (walk ++ b ∷ []) ≡ b
end_push a [] b = refl
end_push a (x ∷ walk) b = end_push x walk b
