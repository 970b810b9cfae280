-- The first of several by an order, as they come. Ours, unless a source stands beside.
use Rattle.std.specs.Prelude.{ℕ, zero, suc, ◌<◌, ℤ, Bool, ◌&&◌, List, [], ◌∷◌, length, Option, Some, None, get_or, is_some, option_map, fold, IfSome, if◌then◌else◌}
use Rattle.std.specs.Option.{option_map_or}
use Rattle.meta_types.specs.Rows.{Records}
use Rattle.meta_types.specs.Paths.{Thing, is_root}
use Rattle.meta_types.specs.Reasons.{reason_of}
use Rattle.meta_types.specs.Explanations.{goes_before}
use Rattle.mark_core.specs.declared.graph.Graph.{Graph}
use Rattle.gc_graph.specs.Targets.{root_things}
use Rattle.mark_core.specs.Firsts.{leads}
use Rattle.explaining.specs.ThingRows.{thing_at}

abbrev pub or_else : {X : Type 0} → Option X → Option X → Option X
or_else None other = other
or_else (Some x) other = Some x

-- the newcomer, where it fits and goes before the one so far
abbrev pub chosen : {X : Type 0} → (X → X → Bool) → Bool → X → Option X → Option X
chosen before fits new None = if fits then Some new else None
chosen before fits new (Some best) = if fits && before new best then Some new else Some best

-- the first is a root, and references the second
abbrev pub is_holder : ℕ → ℤ → Thing → Thing → Bool
is_holder profile at held thing = is_root profile at thing && is_some (reason_of thing held)

-- of these and the one so far, the first that holds the thing
abbrev pub holder_among : ℕ → ℤ → Thing → Option Thing → List Thing → Option Thing
holder_among profile at held best candidates = fold (λ so_far thing. chosen goes_before (is_holder profile at held thing) thing so_far) best candidates

-- the first image, container or lease that holds it
abbrev pub holder_of : Records → ℤ → Thing → Option Thing
holder_of records at held = holder_among records.profile at held None (root_things records)

-- the thing of the first number goes before that of the second
abbrev pub number_before : Records → ℕ → ℕ → Bool
number_before records a b = goes_before (thing_at records a) (thing_at records b)

-- of the numbers below the bound that lead to this one from a step nearer,
-- the one whose thing goes first
abbrev pub first_leading : Records → Graph → List (Option ℕ) → ℕ → ℕ → Option ℕ
first_leading records g depths t zero = None
first_leading records g depths t (suc n) = chosen (number_before records) (leads g depths n t) n (first_leading records g depths t n)

-- back from a number by the steps, each to the first that leads there
abbrev pub chain : List (Option ℕ) → ℕ → ℕ → List ℕ
chain before zero n = []
chain before (suc steps) n = option_map_or (λ b. b ∷ chain before steps b) (get_or before n None) []

-- each number that is there is below the count
abbrev pub AreWithin : ℕ → List (Option ℕ) → Type 0
AreWithin count list = (n : ℕ) → n < length list → IfSome (get_or list n None) (λ b. b < count)

-- the root before a thing that is one step from it: what holds it, else the
-- first number that leads there
abbrev pub root_before : Records → ℤ → List (Option ℕ) → ℕ → Option Thing
root_before records at before n = or_else (holder_of records at (thing_at records n)) (option_map (thing_at records) (get_or before n None))

-- what there is, as a list
abbrev pub listed : {X : Type 0} → Option X → List X
listed None = []
listed (Some x) = x ∷ []
