-- The steps of a service whose replies begin with the number of their line.
use Rattle.std.specs.Prelude.{◌≡◌, ◌⊎◌, ◌+◌, ◌%◌, ◌^◌, ℕ, List, [], ◌∷◌, ◌++◌, Bool}
use Rattle.std.specs.Fmt.{decimal}

-- the digits of a number, and a space
abbrev pub number_text : ℕ → List ℕ
number_text number = decimal number ++ 32 ∷ []

-- A reply begins with the number of its line. A line without a reply has none.
abbrev pub IsNumbered : ℕ → List ℕ → List ℕ → Type 0
IsNumbered number inner reply =
    ((inner ≡ []) × (reply ≡ [])) ⊎ (reply ≡ number_text number ++ inner)

-- From this service and this number of lines a line is answered by this reply, may have changed the
-- service, and leads there. The next line has the next number, or 0 behind the greatest of 64 bits.
abbrev pub NumberedSteps : {S : Type 0} → (S → List ℕ → List ℕ → Bool → S → Type 0)
    → S → ℕ → List ℕ → List ℕ → Bool → S → ℕ → Type 0
NumberedSteps steps service lines line reply changes next next_lines =
    (inner : List ℕ) × steps service line inner changes next
    × (next_lines ≡ (lines + 1) % 2 ^ 64) × IsNumbered next_lines inner reply
