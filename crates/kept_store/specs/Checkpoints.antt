-- What a checkpoint is: a journal whose lines make a store again. Ours.
use Rattle.std.specs.Prelude.{◌≡◌, ℕ, ◌*◌, ◌&&◌, List, length, replicate, nat_lt, Bool}
use Rattle.meta_types.specs.Rows.{State, empty_store}
use Rattle.journal.specs.Text.{lines_text, AreLines}
use Rattle.journal.specs.Crashes.{Only}
use Rattle.journal.specs.Groups.{HasGroups}
use Rattle.line_loop.specs.JournalLines.{lines_of}
use Rattle.kept_store.specs.Replays.{store_after}

-- the file is zeros alone, and they are on the disk
pub record IsBlank (text : List ℕ) (outcomes : List ℕ → Type 0) : Type 0 where
  pub zeros : text ≡ replicate (length text) 0
  pub durable : Only text outcomes

-- Groups stand in the file behind a first sum, and behind them lines wait to be committed.
pub record Drafts (first text : List ℕ) (outcomes : List ℕ → Type 0) (last : List ℕ) (end : ℕ)
    (pending : List ℕ) : Type 0 where
  pub groups : List (List (List ℕ))
  pub has : HasGroups text outcomes last end first groups
  pub waiting : List (List ℕ)
  pub each : AreLines waiting
  pub waits : pending ≡ lines_text waiting

-- The file has groups behind a first sum, of which the lines make this store from nothing. A run
-- may go on behind them.
pub record Makes (first text : List ℕ) (outcomes : List ℕ → Type 0) (last : List ℕ) (end : ℕ)
    (store : State) : Type 0 where
  pub groups : List (List (List ℕ))
  pub has : HasGroups text outcomes last end first groups
  pub makes : store ≡ store_after empty_store (lines_of groups)

-- A checkpoint is due where a journal has more than 64 MiB and is more than four times as long as
-- after its last checkpoint.
abbrev pub is_due : ℕ → ℕ → Bool
is_due end checkpoint = nat_lt 67108864 end && nat_lt (4 * checkpoint) end
