use Rattle.std.proofs.Common.{◌∙◌, ap}
use Rattle.meta_types.specs.Rows.{State}
use Rattle.kept_store.specs.Replays.{store_after}
use Rattle.kept_store.specs.Loads.{loaded_in}
use Rattle.kept_store.proofs.loading.load.Goals as goal

pub returns-clause-ok : goal.returns-clause-ok
returns-clause-ok g c =
    c.in-Ok-load_all.ensures.ok
    ∙ ap (λ (s : State). store_after s (loaded_in c.args.text.now)) c.in-Ok.ensures.ok
