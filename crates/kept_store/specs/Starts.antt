-- What a start finds.
use Rattle.std.specs.Prelude.{◌≡◌, ℕ, List, [], Bool, Some}
use Rattle.meta_types.specs.Rows.{State, empty_store}
use Rattle.journal.specs.Reading.{found}
use Rattle.line_loop.specs.JournalLines.{lines_found, HasLines}
use Rattle.kept_store.specs.Replays.{store_after}

-- The file had no damage. The store is the one after its lines, and the file now has these lines
-- and nothing behind them.
pub record Starts (first old : List ℕ) (clean : Bool) (text : List ℕ) (outcomes : List ℕ → Type 0)
    (last : List ℕ) (end : ℕ) (store : State) : Type 0 where
  pub lines : List (List ℕ)
  pub sound : lines_found (found first old) ≡ Some lines
  pub replayed : store ≡ store_after empty_store lines
  pub has : HasLines first clean text outcomes last end [] lines []
