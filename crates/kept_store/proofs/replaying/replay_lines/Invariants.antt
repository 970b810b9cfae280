use Rattle.std.proofs.Common.{◌≡◌, ◌+◌, length}
use Rattle.kept_store.specs.Replays.{store_after, requests_in}
use Rattle.kept_store.proofs.replaying.replay_lines.Given as goal

abbrev pub invariant-loop-line : goal.invariant-loop-line
invariant-loop-line g l = record {
  done : store_after l.store (requests_in l.rest) ≡ store_after l.fn.store (requests_in l.text);
  counted : l.lines + length (requests_in l.rest) ≡ l.fn.lines + length (requests_in l.text);
}

abbrev pub decreases-loop-line : goal.decreases-loop-line
decreases-loop-line g l = length l.rest
