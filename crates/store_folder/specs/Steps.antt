-- What a step between two runs does to a folder.
use Rattle.std.specs.Prelude.{◌≡◌, ℕ, List, [], Option, Some}

-- the lines that were held are held
abbrev pub Keeps : (List (List ℕ) → List (List ℕ) → Type 0)
    → (List (List ℕ) → List (List ℕ) → Type 0) → Type 0
Keeps old new = (kept : List (List ℕ)) → old kept [] → new kept []

-- where lines are held that make something, such lines are held
abbrev pub Remakes : (List (List ℕ) → Type 0) → (List (List ℕ) → List (List ℕ) → Type 0)
    → (List (List ℕ) → List (List ℕ) → Type 0) → Type 0
Remakes makes old new = (kept : List (List ℕ)) → old kept [] → makes kept
    → (more : List (List ℕ)) × makes more × new more []

-- where lines were held that make something, a start may find nothing but such lines
abbrev pub Retells : (List (List ℕ) → Type 0) → (List (List ℕ) → List (List ℕ) → Type 0)
    → (Option (List (List ℕ)) → Type 0) → Type 0
Retells makes old may_tell = (kept : List (List ℕ)) → old kept [] → makes kept
    → (told : Option (List (List ℕ))) → may_tell told
    → (more : List (List ℕ)) × makes more × (told ≡ Some more)

-- the lines of a checkpoint are held in place of those that were
abbrev pub Turns : (List (List ℕ) → List (List ℕ) → Type 0) → (List (List ℕ) → Type 0)
    → (List (List ℕ) → List (List ℕ) → Type 0) → Type 0
Turns old has new = (kept more : List (List ℕ)) → old kept [] → has more → new more []
