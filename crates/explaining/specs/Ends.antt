-- The thing that is asked for at which a path ends. Ours, unless a source stands beside.
use Rattle.std.specs.Prelude.{ℕ, zero, suc, ℤ, Bool, true, false, ◌&&◌, ◌||◌, ◌==◌, nat_lt, List, Option, Some, None, get_or, is_some, fold}
use Rattle.meta_types.specs.Rows.{Records}
use Rattle.meta_types.specs.Paths.{Thing, is_root}
use Rattle.meta_types.specs.Explanations.{goes_before}
use Rattle.gc_graph.specs.Targets.{root_things}
use Rattle.explaining.specs.ThingRows.{thing_at}
use Rattle.explaining.specs.Firsts.{chosen, number_before}

-- of two depths the less goes first, and none goes last; of equals the rest says
abbrev pub depth_before : Option ℕ → Option ℕ → Bool → Bool
depth_before (Some a) (Some b) rest = nat_lt a b || (a == b && rest)
depth_before (Some a) None rest = true
depth_before None (Some b) rest = false
depth_before None None rest = rest

-- the first number is nearer, or as near and its thing goes before
abbrev pub nearer : Records → List (Option ℕ) → ℕ → ℕ → Bool
nearer records depths a b = depth_before (get_or depths a None) (get_or depths b None) (number_before records a b)

-- the number's thing is asked for, and its depth is known
abbrev pub is_end : Records → (Thing → Bool) → List (Option ℕ) → ℕ → Bool
is_end records asked depths n = asked (thing_at records n) && is_some (get_or depths n None)

-- of the numbers below the bound whose things are asked for, the nearest
abbrev pub nearest_below : Records → (Thing → Bool) → List (Option ℕ) → ℕ → Option ℕ
nearest_below records asked depths zero = None
nearest_below records asked depths (suc n) = chosen (nearer records depths) (is_end records asked depths n) n (nearest_below records asked depths n)

-- the thing is asked for, and is a root
abbrev pub is_asked_root : ℕ → ℤ → (Thing → Bool) → Thing → Bool
is_asked_root profile at asked thing = asked thing && is_root profile at thing

-- of these and the one so far, the first root that is asked for
abbrev pub root_among : ℕ → ℤ → (Thing → Bool) → Option Thing → List Thing → Option Thing
root_among profile at asked best candidates = fold (λ so_far thing. chosen goes_before (is_asked_root profile at asked thing) thing so_far) best candidates

-- the first image, container or lease that is asked for and a root
abbrev pub first_root : Records → ℤ → (Thing → Bool) → Option Thing
first_root records at asked = root_among records.profile at asked None (root_things records)
