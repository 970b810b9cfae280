-- What a settling that was begun leaves.
use Rattle.std.specs.Prelude.{◌≡◌, ◌⊎◌, ℕ, List, [], ◌++◌, take, Option, Some}
use Rattle.std.specs.Io.KnownBytes.{Appends}

-- Some of the bytes were written. A start finds the lines that waited behind those that were kept,
-- or these alone, and then nothing was written.
abbrev pub Settles : List (List ℕ) → List (List ℕ) → List ℕ → (Option (List (List ℕ)) → Type 0)
    → Option (List ℕ) → Option (List ℕ) → Type 0
Settles kept waiting bytes finds before contents =
    (count : ℕ) × Appends before contents (take count bytes)
    × ((found : Option (List (List ℕ))) → finds found
    → (found ≡ Some (kept ++ waiting)) ⊎ ((found ≡ Some kept) × (take count bytes ≡ [])))
