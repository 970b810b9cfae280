use Rattle.std.proofs.Common.{◌∙◌, ap, take}
use Rattle.meta_types.specs.Rows.{State}
use Rattle.kept_store.specs.Replays.{store_after, requests_in}
use Rattle.kept_store.proofs.taking.made_again.Goals as goal

pub returns-clause-ok : goal.returns-clause-ok
returns-clause-ok g c clean =
    c.in_default-replay_journal.ensures.ok clean
    ∙ ap (λ (s : State). store_after s
    (requests_in (take c.args.journal.now.end (g.E.Log.text c.args.journal.now.log))))
    c.in-Ok.ensures.ok
