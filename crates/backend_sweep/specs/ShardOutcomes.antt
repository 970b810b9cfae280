-- What becomes of the numbers of one shard. Ours, unless a source stands beside.
use Rattle.std.specs.Prelude.{ℕ, List, [], length, if◌then◌else◌, ⊤}
use Rattle.back_model.specs.Answers.{NeverFails}
use Rattle.backend_sweep.specs.Sweep.{Swept}
use Rattle.backend_sweep.specs.declared.shard_outcome.ShardOutcome.{ShardOutcome}
use Rattle.backend_sweep.specs.declared.shard_outcome.ShardOutcome.TheVariants as T

-- all of the list went
abbrev pub all_gone : List ℕ → Swept
all_gone list = record { removed = list; failed = []; kept = []; parents = []; room = 0 }

-- nothing of the list was swept yet, and there is room for what becomes of each number
abbrev pub none_gone : List ℕ → Swept
none_gone list =
    record { removed = []; failed = []; kept = []; parents = []; room = length list }

-- what was swept of the list
abbrev pub swept_of : List ℕ → ShardOutcome → Swept
swept_of list (T.Each swept) = swept
swept_of list (T.Whole went) = if went then all_gone list else none_gone list

-- it tells what becomes of each number, or no device of the kind ever fails
abbrev pub FitsDevice : {Backend : Type 0} → (Backend → ℕ) → ShardOutcome → Type 0
FitsDevice fails (T.Each swept) = ⊤
FitsDevice fails (T.Whole went) = NeverFails fails
