-- A store whose next backend number is raised. Ours.
use Rattle.std.specs.Prelude.{ℕ, max}
use Rattle.meta_types.specs.Rows.{State}

-- the next backend number is at least this one
abbrev pub raised : ℕ → State → State
raised number state =
    record state { records = record state.records { next = max number state.records.next } }
