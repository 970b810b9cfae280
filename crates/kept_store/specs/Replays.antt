-- What a store is after lines, and which lines are logged.
use Rattle.std.specs.Prelude.{ℕ, not, List, [], ◌∷◌, filter, Bool}
use Rattle.std.specs.Option.{option_map_or}
use Rattle.meta_types.specs.Rows.{State}
use Rattle.journal.specs.Text.{is_commit}
use Rattle.journal.specs.Reading.{whole_lines}
use Rattle.scripts.specs.Changes.{after_line, Changes}
use Rattle.store_front.specs.NextNumber.{raised}
use Rattle.kept_store.specs.Numbers.{number_in}

-- the store after a line of a journal: `number N` raises the next number, any other is a request
abbrev pub after_kept_line : State → List ℕ → State
after_kept_line state line =
    option_map_or (λ number. raised number state) (number_in line) (after_line state line)

-- the store after lines of a journal, one after the other
abbrev pub store_after : State → List (List ℕ) → State
store_after state [] = state
store_after state (line ∷ lines) = store_after (after_kept_line state line) lines

-- the lines that aren't commit lines
abbrev pub requests_among : List (List ℕ) → List (List ℕ)
requests_among lines = filter (λ line. not (is_commit line)) lines

-- the lines of a text that aren't commit lines
abbrev pub requests_in : List ℕ → List (List ℕ)
requests_in text = requests_among (whole_lines text)

-- How a service answers lines: from one state a line is replied so, may have changed it, and leads
-- there.
abbrev pub StepsOf : Type 0 → Type 1
StepsOf S = S → List ℕ → List ℕ → Bool → S → Type 0

-- each step of a service changes the store that it answers from as its line does: it has its effect
-- where the line is logged, and none where it isn't
abbrev pub KeepsLines : {S : Type 0} → StepsOf S → (S → State) → Type 0
KeepsLines {S} steps store_of = (old new : S) (line reply : List ℕ) (changes : Bool)
    → steps old line reply changes new → Changes (store_of old) line changes (store_of new)
