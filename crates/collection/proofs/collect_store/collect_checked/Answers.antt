use Rattle.std.proofs.Common.{◌∙◌, sym, ap, subst}
use Rattle.meta_types.specs.Limits.{is_too_large}
use Rattle.meta_types.specs.Sound.{IsSound}
use Rattle.request_core.specs.Follows.{Store}
use Rattle.request_core.specs.declared.state.Records.{Records as Kept}
use Rattle.back_model.specs.Held.{held}
use Rattle.collection.specs.Stores.{records_in, store_in}
use Rattle.collection.proofs.collect_store.collect_checked.Goals as goal

-- the records that are taken out are sound as they were
pub collect_arrived-reports-requires-clause-sound :
    goal.collect_arrived-reports-requires-clause-sound
collect_arrived-reports-requires-clause-sound g c κs within =
    let back = c.state.inside.backends in
    subst (λ (r : Kept). IsSound
    (store_in r (held g.B.BlobBackend.contents g.I.IngestBackend.contents back))) (sym c.take_out-arrived.ensures)
    (subst IsSound (sym (ap (λ (s : Store). s.state) c.state.view_is)) c.requires.sound)

pub collect_arrived-reports-requires-clause-few : goal.collect_arrived-reports-requires-clause-few
collect_arrived-reports-requires-clause-few g c κs within =
    ap (λ (r : Kept). is_too_large (records_in r)) c.take_out-arrived.ensures
    ∙ ap (λ (s : Store). is_too_large s.state.records) c.state.view_is ∙ c.requires.few
