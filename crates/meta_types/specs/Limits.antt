-- The limits of a store. Ours, unless a source stands beside.
use Rattle.std.specs.Prelude.{ℕ, Bool, nat_le, nat_lt, ◌&&◌, ◌+◌, ◌*◌, length}
use Rattle.meta_types.specs.Rows.{Records, State}
use Rattle.meta_types.specs.declared.limits.TheConstants.{MAX_WORKERS, MAX_NODES, MAX_NUMBER}

-- a collection takes 1 to 16 workers
abbrev pub is_worker_count : ℕ → Bool
is_worker_count workers = nat_le 1 workers && nat_le workers MAX_WORKERS

-- a collection marks at most 16,777,216 nodes: two for each content and
-- snapshot row, one for each ingest
abbrev pub is_too_large : Records → Bool
is_too_large records = nat_lt MAX_NODES (2 * (length records.tables.content + length records.tables.snapshots) + length records.tables.ingests)

-- the next backend number is past 4,000,000,000
abbrev pub is_out_of_numbers : State → Bool
is_out_of_numbers state = nat_lt MAX_NUMBER state.records.next
