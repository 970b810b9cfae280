-- What is written for a script, computed. Ours, unless a source stands beside.
use Rattle.std.specs.Prelude.{◌≡◌, ℕ, List, [], ◌∷◌, ◌++◌, drop, Option, None}
use Rattle.meta_types.specs.Rows.{State, empty_store}
use Rattle.scripts.specs.LineSteps.{Supplied, line_step, IsTrueAt}
use Rattle.scripts.specs.Lines.{lines_of, whole_lines}

-- What a run supplies, one place a line. A list that is too short supplies nothing to the lines
-- behind it.
abbrev pub Supplies : Type 0
Supplies = List (Option Supplied)

-- what is supplied to the next line
abbrev pub first_supplied : Supplies → Option Supplied
first_supplied [] = None
first_supplied (supplied ∷ later) = supplied

-- what is written for the lines, from a store on: a line is answered, and the next
-- meets the store that it left
abbrev pub output_from : State → Supplies → List (List ℕ) → List ℕ
output_from state supplies [] = []
output_from state supplies (line ∷ lines) =
    (line_step state (first_supplied supplies) line).0 ++ output_from (line_step state (first_supplied supplies) line).1 (drop 1 supplies) lines

-- what is written for a script, from the empty store on
abbrev pub output_of : Supplies → List ℕ → List ℕ
output_of supplies script = output_from empty_store supplies (lines_of script)

-- from a store on, all answers to questions are right
abbrev pub AreTrue : State → Supplies → List (List ℕ) → Type 0
AreTrue state supplies [] = Unit {0}
AreTrue state supplies (line ∷ lines) =
    IsTrueAt state (first_supplied supplies) line
    × AreTrue (line_step state (first_supplied supplies) line).1 (drop 1 supplies) lines

-- the bytes are the output for the script, whatever the run supplies, and all answers to its
-- questions are right
abbrev pub IsOutput : List ℕ → List ℕ → Type 0
IsOutput script bytes = (supplies : Supplies) × (bytes ≡ output_of supplies script)
    × AreTrue empty_store supplies (lines_of script)

-- the bytes are the output for the whole lines of the script, whatever the run supplies
abbrev pub IsWholeOutput : List ℕ → List ℕ → Type 0
IsWholeOutput script bytes = IsOutput (whole_lines script) bytes

-- the bytes begin the output for the script, whatever the run supplies
abbrev pub IsBeginning : List ℕ → List ℕ → Type 0
IsBeginning script bytes = (supplies : Supplies) × (rest : List ℕ)
    × (bytes ++ rest ≡ output_of supplies script) × AreTrue empty_store supplies (lines_of script)
