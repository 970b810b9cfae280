-- The ends of roots, and the last of them at which a path led to the row. Ours, unless a source
-- stands beside.
use Rattle.std.specs.Prelude.{◌≡◌, ◌≤◌, ◌<◌, ℕ, ℤ, int_lt, Bool, false, List, [], ◌∷◌, length, get_or, Option, Some, None, option_map, Contains, IsTrue, if◌then◌else◌}
use Rattle.meta_types.specs.CollectorLabels.{expiry_of}
use Rattle.meta_types.specs.Rows.{Records}
use Rattle.meta_types.specs.Paths.{Thing, image, lease, ingest, images_expire}
use Rattle.meta_types.specs.Explanations.{Explains}

-- the last moment at which a thing is a root, where there is one
abbrev pub root_end : ℕ → Thing → Option ℤ
root_end profile (image row) = if images_expire profile then expiry_of row.labels else None
root_end profile (lease row) = expiry_of row.labels
root_end profile (ingest row) = option_map (λ end. end.0) row.expires
root_end profile _ = None

-- the end, where there is one before the moment
abbrev pub past : ℤ → Option ℤ → List ℤ
past at None = []
past at (Some end) = if int_lt end at then end ∷ [] else []

-- the same of a thing
abbrev pub past_end : ℕ → ℤ → Thing → List ℤ
past_end profile at thing = past at (root_end profile thing)

-- none goes before one that stands in front of it
abbrev pub AreRising : List ℤ → Type 0
AreRising ends =
    (i j : ℕ) (d : ℤ) → i ≤ j → j < length ends → int_lt (get_or ends j d) (get_or ends i d) ≡ false

-- the things of the last of these moments at which a path ends in a thing that is asked for; none
-- where there is no such moment among them
abbrev pub IsLastOf : Records → (Thing → Bool) → List ℤ → List Thing → Type 0
IsLastOf records asked ends [] = (end : ℤ) → Contains ends end → Explains records end asked []
IsLastOf records asked ends (last ∷ path) =
    (at : ℤ) × Contains ends at × Explains records at asked (last ∷ path)
    × ((later : ℤ) → Contains ends later → IsTrue (int_lt at later) → Explains records later asked
    [])
