-- What a run of the program read and handed on. Ours, unless a source stands beside.
use Rattle.std.specs.Prelude.{ℕ, List, Option}
use Rattle.scripts.specs.Exchanging.{Exchanges}

-- What was read of the reader's bytes and what was written are so related, as far as reader and
-- writer tell their bytes. The reader goes with the run, so what is left in it has no name.
abbrev pub ExchangesFrom : (List ℕ → List ℕ → Type 0) → Option (List ℕ) → Option (List ℕ)
    → Option (List ℕ) → Type 0
ExchangesFrom IsRelated left_old held_old held =
    (left : Option (List ℕ)) × Exchanges IsRelated left_old left held_old held
