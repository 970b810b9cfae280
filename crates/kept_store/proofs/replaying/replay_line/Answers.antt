use Rattle.std.proofs.Common.{◌∙◌, sym}
use Rattle.kept_store.proofs.Replayed.{commit_only, line_only, commit_counts}
use Rattle.kept_store.proofs.replaying.replay_line.Goals as goal

pub returns-then-is_commit-clause-ok : goal.returns-then-is_commit-clause-ok
returns-then-is_commit-clause-ok g c =
    commit_only c.args.store.now c.args.line.now (sym c.is_commit.ensures ∙ c.if-is_commit.true)

pub returns-then-is_commit-clause-counts : goal.returns-then-is_commit-clause-counts
returns-then-is_commit-clause-counts g c =
    commit_counts _ c.args.line.now (sym c.is_commit.ensures ∙ c.if-is_commit.true)

pub returns-clause-ok : goal.returns-clause-ok
returns-clause-ok g c =
    line_only c.args.store.now _ c.args.line.now
    (sym c.is_commit.ensures ∙ c.if-is_commit.false) c.in_ok-redo.ensures.ok
