use Rattle.std.proofs.Common.{sym, subst, refl}
use Rattle.std.specs.Prelude.{option_copied}
use Rattle.meta_types.specs.Rows.{Records, BackLists, State}
use Rattle.meta_types.specs.Reports.{Report, Collects}
use Rattle.meta_types.specs.Sound.{IsSound}
use Rattle.meta_types.proofs.SoundAfter.{a_collected_store_is_sound}
use Rattle.back_model.specs.Held.{held}
use Rattle.collection.specs.Arrived.{in_order, arrived_in}
use Rattle.collection.specs.Leaving.{less}
use Rattle.collection.specs.Stores.{records_in, store_in}
use Rattle.collection.proofs.LeftOut.{sound_less}
use Rattle.collection.proofs.PlansLess.{planned_less, rows_fit, rows_numbered, swept_less}
use Rattle.collection.proofs.Telling.{none_failed, all_went, can_tell, can_fill}
use Rattle.collection.proofs.collect_store.collect_arrived.Goals as goal

-- the plan is one of the store without what is named, which is sound
pub sweep_all-requires-clause-planned : goal.sweep_all-requires-clause-planned
sweep_all-requires-clause-planned g c κs within =
    let old = c.args.backends.now in
    let lists : BackLists = held g.B.BlobBackend.contents g.I.IngestBackend.contents old in
    let named = option_copied c.args.task.now.without in
    planned_less (in_order c.args.arrived.now) (arrived_in c.args.arrived.now) named lists
    c.args.task.now.at.0 c.in_ok-planned.planned refl c.requires.sound c.in_ok-planned.ensures.ok

-- a sweep that is refused leaves rows and backends as they were
pub returns-in-Err-sweep_all-clause-arrived_err : goal.returns-in-Err-sweep_all-clause-arrived_err
returns-in-Err-sweep_all-clause-arrived_err g c =
    let arrived = c.args.arrived.now in
    let e = c.in-Err-sweep_all.ensures in
    (λ i. record { tables = e.tables_err i; leases = e.leases_err i; next = arrived.next; profile = arrived.profile })

pub returns-in-Err-sweep_all-clause-sound : goal.returns-in-Err-sweep_all-clause-sound
returns-in-Err-sweep_all-clause-sound g c =
    let arrived = c.args.arrived.now in
    let e = c.in-Err-sweep_all.ensures in
    let new = c.sweep_all.new.backends in
    let kept : IsSound (store_in (in_order arrived) (held g.B.BlobBackend.contents g.I.IngestBackend.contents new)) =
    subst (λ b. IsSound (store_in (in_order arrived) (held g.B.BlobBackend.contents g.I.IngestBackend.contents b))) (sym e.backends_err) c.requires.sound in
    subst (λ r. IsSound (store_in (in_order r) (held g.B.BlobBackend.contents g.I.IngestBackend.contents new)))
    (λ i. record { tables = sym e.tables_err i; leases = sym e.leases_err i; next = arrived.next; profile = arrived.profile }) kept

-- nothing has changed since the blobs were lent
pub sweep_all-requires-clause-marks : goal.sweep_all-requires-clause-marks
sweep_all-requires-clause-marks g c κs within = c.in_ok-planned.ensures.blobs

pub sweep_all-requires-clause-others : goal.sweep_all-requires-clause-others
sweep_all-requires-clause-others g c κs within = c.in_ok-planned.ensures.ok.others.fit

pub sweep_all-requires-clause-rows : goal.sweep_all-requires-clause-rows
sweep_all-requires-clause-rows g c κs within =
    let old = c.args.backends.now in
    let lists : BackLists = held g.B.BlobBackend.contents g.I.IngestBackend.contents old in
    let named = option_copied c.args.task.now.without in
    rows_fit (arrived_in c.args.arrived.now) named lists c.args.task.now.at.0
    c.in_ok-planned.planned c.in_ok-planned.ensures.ok

pub sweep_all-requires-clause-numbered : goal.sweep_all-requires-clause-numbered
sweep_all-requires-clause-numbered g c κs within =
    let old = c.args.backends.now in
    let lists : BackLists = held g.B.BlobBackend.contents g.I.IngestBackend.contents old in
    let named = option_copied c.args.task.now.without in
    rows_numbered (in_order c.args.arrived.now) (arrived_in c.args.arrived.now) named lists
    c.args.task.now.at.0 c.in_ok-planned.planned refl c.requires.sound c.in_ok-planned.ensures.ok

-- the plan, both sweeps and the report are a collection
pub returns-clause-ok : goal.returns-clause-ok
returns-clause-ok g c =
    let arrived = c.args.arrived.now in
    let old = c.args.backends.now in
    let lists : BackLists = held g.B.BlobBackend.contents g.I.IngestBackend.contents old in
    let named = option_copied c.args.task.now.without in
    let new = c.sweep_all.new in
    let back : BackLists = held g.B.BlobBackend.contents g.I.IngestBackend.contents new.backends
    in
    let at = c.args.task.now.at.0 in
    let state : State = record {
      records = less (records_in (in_order arrived)) named;
      backends = lists;
    } in
    let left : Records = records_in (in_order (record {
      tables = new.tables;
      leases = new.leases;
      next = arrived.next;
      profile = arrived.profile;
    })) in
    subst (λ (r : Report). Collects state at r.failed r
    (record { records = left; backends = back }))
    (sym c.reports_of.ensures)
    (swept_less (in_order arrived) (arrived_in arrived) named lists at c.in_ok-planned.planned refl
    c.requires.sound c.in_ok-planned.ensures.ok c.in-Ok-sweep_all.outcomes new.tables new.leases
    back
    c.in-Ok-sweep_all.ensures.tables c.in-Ok-sweep_all.ensures.leases c.in-Ok-sweep_all.ensures.ok)

-- where no device ever fails, all that the plan names went
pub reports_of-requires-clause-room : goal.reports_of-requires-clause-room
reports_of-requires-clause-room g c =
    let new = c.sweep_all.new.backends in
    let may = c.may_fail-may in
    let plan = c.in_ok-planned.planned.plan in
    can_tell may.result plan.report.backend c.in-Ok-sweep_all.outcomes c.in-Ok.ready.rooms
    c.in-Ok.ensures.rooms
    (λ sure. all_went _ _ _ _ plan c.in-Ok-sweep_all.outcomes _ _ _
    c.in_ok-planned.ensures.ok.plan_is
    c.in-Ok-sweep_all.ensures.ok c.in-Ok-sweep_all.ensures.count
    (none_failed _ _ _ (c.none_failed.ensures (may.ensures.snapshots sure))
    (may.ensures.blobs sure new.blobs) (may.ensures.ingests sure new.ingests)))

pub reports_of-requires-clause-spares : goal.reports_of-requires-clause-spares
reports_of-requires-clause-spares g c =
    let new = c.sweep_all.new.backends in
    let may = c.may_fail-may in
    let plan = c.in_ok-planned.planned.plan in
    can_fill g.K.HistoryMode.KEPT may.result plan.report c.in-Ok-sweep_all.outcomes
    c.in-Ok.ready.spares
    c.in-Ok.ensures.spares
    (λ sure. all_went _ _ _ _ plan c.in-Ok-sweep_all.outcomes _ _ _
    c.in_ok-planned.ensures.ok.plan_is
    c.in-Ok-sweep_all.ensures.ok c.in-Ok-sweep_all.ensures.count
    (none_failed _ _ _ (c.none_failed.ensures (may.ensures.snapshots sure))
    (may.ensures.blobs sure new.blobs) (may.ensures.ingests sure new.ingests)))

-- what a collection leaves is sound
pub returns-clause-sound : goal.returns-clause-sound
returns-clause-sound g c =
    let old = c.args.backends.now in
    let lists : BackLists = held g.B.BlobBackend.contents g.I.IngestBackend.contents old in
    let named = option_copied c.args.task.now.without in
    let state : State = record {
      records = records_in (in_order c.args.arrived.now);
      backends = lists;
    } in
    let left : State = record { records = less state.records named; backends = lists } in
    a_collected_store_is_sound left c.args.task.now.at.0 c.reports_of.result.failed
    c.reports_of.result _
    (sound_less state named c.requires.sound) (returns-clause-ok g c)
