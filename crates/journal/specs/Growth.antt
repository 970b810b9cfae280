-- What a file is read as that was made larger.
use Rattle.std.specs.Prelude.{◌≡◌, ℕ, List, ◌++◌, drop, replicate}
use Rattle.journal.specs.Reading.{found}

-- the text, and zeros behind it or nothing
abbrev pub Longer : List ℕ → List ℕ → Type 0
Longer text longer = (count : ℕ) × (longer ≡ text ++ replicate count 0)

-- what stands behind a place of the files that a crash may leave
abbrev pub Behind : ℕ → (List ℕ → Type 0) → List ℕ → Type 0
Behind from outcomes text = (file : List ℕ) × outcomes file × (text ≡ drop from file)

-- Zeros behind a file change nothing that is found in it, be it sound or damaged.
abbrev pub ZerosChangeNothing : Type 0
ZerosChangeNothing = (first text longer : List ℕ) → Longer text longer
    → found first longer ≡ found first text
