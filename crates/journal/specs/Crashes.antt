-- What a crash leaves of a file.
use Rattle.std.specs.Prelude.{⊤, ◌≡◌, ◌⊎◌, ℕ, ◌+◌, List, [], ◌∷◌, ◌++◌, length, take, drop}

-- a crash leaves this text and no other
abbrev pub Only : List ℕ → (List ℕ → Type 0) → Type 0
Only text outcomes = (c : List ℕ) → outcomes c → c ≡ text

-- each byte is one of these or of those
abbrev pub Mixes : List ℕ → List ℕ → List ℕ → Type 0
Mixes [] [] [] = ⊤
Mixes (a ∷ old) (b ∷ new) (c ∷ mixed) = ((c ≡ a) ⊎ (c ≡ b)) × Mixes old new mixed
Mixes old new mixed = ⊥

-- a file in which bytes are written over those at a place
abbrev pub written : ℕ → List ℕ → List ℕ → List ℕ
written at bytes text = take at text ++ (bytes ++ drop (at + length bytes) text)

-- after a write that a crash cut short each byte is the old one or the new one
abbrev pub PutCrash : List ℕ → ℕ → List ℕ → (List ℕ → Type 0) → Type 0
PutCrash text at bytes new = (c : List ℕ) → new c → (mixed : List ℕ)
    × Mixes (take (length bytes) (drop at text)) bytes mixed × (c ≡ written at mixed text)

-- each byte is there or lost
abbrev pub Holes : List ℕ → List ℕ → Type 0
Holes [] [] = ⊤
Holes [] (c ∷ left) = ⊥
Holes (b ∷ bytes) [] = ⊥
Holes (b ∷ bytes) (c ∷ left) = ((c ≡ 0) ⊎ (c ≡ b)) × Holes bytes left
