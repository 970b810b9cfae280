-- The command line. Ours, unless a source stands beside.
use Rattle.std.specs.Prelude.{◌≡◌, ℕ, Bool, true, List, Option, Some, MatchOption, codes}
use Rattle.std.specs.Str.Parse.{IsNumeral, digits_value, without_leading_plus}
use Rattle.clap.specs.Words.{App, Row, Rule, Text, first_of, new_app, new_rule, subcommand_of, takes, with_rule, with_subcommand}
use Rattle.meta_types.specs.Limits.{is_worker_count}

-- the option `--workers`, which takes a value
abbrev pub workers_rule : Rule
workers_rule = record (new_rule (codes "workers")) { long = Some (codes "workers") }

-- the subcommand `run`
abbrev pub run_command : App
run_command = with_rule (new_app (codes "run")) workers_rule

-- the program's words: its name, and its one subcommand
abbrev pub metad_command : App
metad_command = with_subcommand (new_app (codes "metad")) run_command.top

-- the text is the number in decimal digits, before which a plus may stand (Rust, `usize::from_str`)
abbrev pub IsNumber : Text → ℕ → Type 0
IsNumber text n = IsNumeral 10 (without_leading_plus text)
    × (n ≡ digits_value 10 (without_leading_plus text))

-- the value of `--workers` is a number of workers that is allowed, or there is none and the number
-- is 1
abbrev pub HasWorkers : List Row → ℕ → Type 0
HasWorkers rows n = (is_worker_count n ≡ true)
    × MatchOption (first_of (codes "workers") rows) (n ≡ 1) (λ text. IsNumber text n)

-- whether the command reads the words (clap)
unfoldable pub are_read : List Text → Bool
are_read words = takes metad_command words

-- the subcommand of the words, and the values of its arguments (clap)
unfoldable pub subcommand : List Text → Option (Text × List Row)
subcommand words = subcommand_of metad_command words

-- the words ask for a run with n workers
abbrev pub AsksFor : List Text → ℕ → Type 0
AsksFor words n = (rows : List Row) × (subcommand words ≡ Some (codes "run", rows))
    × HasWorkers rows n
