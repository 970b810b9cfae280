-- The report of a store that holds nothing. Ours, unless a source stands beside.
use Rattle.std.specs.Prelude.{ℕ, [], Bool}
use Rattle.meta_types.specs.Reports.{Report, Kept, Removed}
use Rattle.meta_types.specs.Backends.{no_objects}

-- no row was removed
abbrev pub no_rows : Removed
no_rows = record { content = []; images = []; ingests = []; leases = []; snapshots = [] }

-- no row remains
abbrev pub none_kept : Kept
none_kept = record { containers = 0; content = 0; images = 0; ingests = 0; leases = 0; namespaces = 0; snapshots = 0 }

-- nothing was removed, and nothing remains
abbrev pub empty_report : Bool → ℕ → Report
empty_report dry profile = record {
  backend = no_objects;
  dry = dry;
  failed = no_objects;
  ignored = [];
  ignored_images = [];
  kept = none_kept;
  profile = profile;
  removed = no_rows;
  scanned = 0;
}
