-- Which lines a load does. Ours.
use Rattle.std.specs.Prelude.{◌≡◌, ℕ, ◌||◌, not, List, [], ◌∷◌, ◌++◌, filter, take, Bool, true, false, if◌then◌else◌, bytes_eq, codes, None}
use Rattle.std.specs.List.{list_any, AllByRecursion}
use Rattle.journal.specs.Text.{is_commit, lines_text, journal_text, IsLine, AreLines, AreGroups}
use Rattle.journal.specs.Reading.{whole_lines}
use Rattle.request_line.specs.Lines.{command_in}
use Rattle.line_loop.specs.JournalLines.{lines_of}
use Rattle.kept_store.specs.Numbers.{is_marked}
use Rattle.kept_store.specs.Replays.{requests_among}

-- "end ", by which no request begins
abbrev pub is_end : List ℕ → Bool
is_end line = bytes_eq (take 4 line) (codes "end ")

-- the lines that are done: no commit line, and no end of a checkpoint
abbrev pub loaded_among : List (List ℕ) → List (List ℕ)
loaded_among lines = filter (λ line. not (is_end line)) (requests_among lines)

-- those of a text
abbrev pub loaded_in : List ℕ → List (List ℕ)
loaded_in text = loaded_among (whole_lines text)

-- whether a checkpoint has begun and not ended behind a line: `number N` begins it, `end N` ends it
abbrev pub is_open_behind : Bool → List ℕ → Bool
is_open_behind is_open line = if is_end line then false else (is_open || is_marked line)

-- the same behind lines, one after the other
abbrev pub is_open_after : Bool → List (List ℕ) → Bool
is_open_after is_open [] = is_open
is_open_after is_open (line ∷ lines) = is_open_after (is_open_behind is_open line) lines

-- What a script writes, the lines of a checkpoint, its end and later lines, loads as these lines.
abbrev pub ScriptsLoad : Type 0
ScriptsLoad = (lines more : List (List ℕ)) (mark : List ℕ) → AreLines lines → AreLines more
    → list_any is_end lines ≡ false → list_any is_end more ≡ false
    → IsLine mark → is_end mark ≡ true
    → loaded_in (lines_text (lines ++ mark ∷ more)) ≡ lines ++ more

-- The groups of a journal load as its lines.
abbrev pub GroupsLoad : Type 0
GroupsLoad = (first : List ℕ) (groups : List (List (List ℕ))) → AreGroups groups
    → list_any is_end (lines_of groups) ≡ false
    → loaded_in (journal_text first groups) ≡ lines_of groups

-- A line that begins by "end " asks for nothing, so no run logs it.
abbrev pub EndsAskNothing : Type 0
EndsAskNothing = (rest : List ℕ) → command_in (codes "end " ++ rest) ≡ None
