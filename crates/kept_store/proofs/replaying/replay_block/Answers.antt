use Rattle.std.proofs.Common.{◌∙◌, ap, ℕ, List, ◌+◌, ◌-◌, take, drop, length}
use Rattle.kept_store.specs.Replays.{store_after, requests_in}
use Rattle.kept_store.proofs.Replayed.{block_first, block_counts}
use Rattle.kept_store.proofs.replaying.replay_block.Goals as goal

pub returns-clause-ok : goal.returns-clause-ok
returns-clause-ok g c clean order =
    block_first c.args.store.now _
    (take (c.args.end - c.args.at) (drop c.args.at (g.D.Log.text c.args.log.now)))
    c.next_lines.new.text.items
    (take (c.args.end - c.in_ok-next.next) (drop c.in_ok-next.next (g.D.Log.text c.args.log.now)))
    (c.in_ok-next.ensures.lines clean order) (c.in_ok-replay_lines.ensures.ok
    ∙ ap (λ (t : List ℕ). store_after c.args.store.now (requests_in t)) c.deref.ensures.value)

pub returns-clause-counts : goal.returns-clause-counts
returns-clause-counts g c clean order =
    block_counts c.args.blocks.now.lines _
    (take (c.args.end - c.args.at) (drop c.args.at (g.D.Log.text c.args.log.now)))
    c.next_lines.new.text.items
    (take (c.args.end - c.in_ok-next.next) (drop c.in_ok-next.next (g.D.Log.text c.args.log.now)))
    (c.in_ok-next.ensures.lines clean order) (c.in_ok-replay_lines.ensures.counts
    ∙ ap (λ (t : List ℕ). c.args.blocks.now.lines + length (requests_in t)) c.deref.ensures.value)
