use Rattle.std.proofs.Common.{◌≡◌, length}
use Rattle.journal.specs.Reading.{whole_lines}
use Rattle.kept_store.specs.Replays.{store_after}
use Rattle.kept_store.specs.Loads.{loaded_in, is_open_after}
use Rattle.kept_store.proofs.loading.load_lines.Given as goal

abbrev pub invariant-loading : goal.invariant-loading
invariant-loading g l = record {
  done : store_after l.store (loaded_in l.rest) ≡ store_after l.fn.store (loaded_in l.text);
  goes_on : is_open_after l.progress.is_open (whole_lines l.rest)
      ≡ is_open_after l.fn.progress.is_open (whole_lines l.text);
}

abbrev pub decreases-loading : goal.decreases-loading
decreases-loading g l = length l.rest
