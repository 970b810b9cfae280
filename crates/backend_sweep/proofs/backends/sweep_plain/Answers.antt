use Rattle.std.proofs.Common.{sym, ap, subst}
use Rattle.backend_sweep.specs.ObjectOutcomes.{AllOutcomes}
use Rattle.backend_sweep.specs.Shards.{is_number}
use Rattle.backend_sweep.specs.Singles.{AreHeldOnce}
use Rattle.backend_sweep.specs.Tasks.{MaySweepBlobs}
use Rattle.backend_sweep.proofs.Allowed.{may_sweep}
use Rattle.backend_sweep.proofs.NamesStand.{names_stand}
use Rattle.backend_sweep.proofs.Backs.{held_blobs, held_ingests, ready, news_apart, swept_by, count_by}
use Rattle.backend_sweep.proofs.backends.sweep_plain.Goals as goal

-- the plan's names stand by snapshotter
pub take-requires-after_bounds : goal.take-requires-after_bounds
take-requires-after_bounds g c κs within = names_stand _ _ (may_sweep _ _ c.requires.planned)

pub sweep_in_turn-requires-after_bounds : goal.sweep_in_turn-requires-after_bounds
sweep_in_turn-requires-after_bounds g c κs within =
    ready g.S.SnapBackend.contents g.S.SnapBackend.fails c.args.backends.now.shards _ _ c.args.plan.now.report.backend (may_sweep _ _ c.requires.planned) c.in_ok-task.ensures.order c.in_ok-task.task c.in_ok-task.ensures.jobs

-- taking the shards leaves blobs and ingests
pub sweep_singles-requires-clause-blobs : goal.sweep_singles-requires-clause-blobs
sweep_singles-requires-clause-blobs g c κs within =
    subst (λ b. MaySweepBlobs c.args.plan.now (g.B.BlobBackend.contents b) (g.B.BlobBackend.arrived b)) (sym (ap (λ b. b.blobs) c.in_ok-task.ensures.ok))
    (held_blobs _ _ _ c.args.plan.now.report.backend (may_sweep _ _ c.requires.planned), c.requires.marks)

pub sweep_singles-requires-clause-ingests : goal.sweep_singles-requires-clause-ingests
sweep_singles-requires-clause-ingests g c κs within =
    subst (λ b. AreHeldOnce is_number c.args.plan.now.report.backend.ingests (g.I.IngestBackend.contents b)) (sym (ap (λ b. b.ingests) c.in_ok-task.ensures.ok))
    (held_ingests _ _ _ c.args.plan.now.report.backend (may_sweep _ _ c.requires.planned))

pub put_back-requires-clause-names : goal.put_back-requires-clause-names
put_back-requires-clause-names g c κs within = names_stand _ _ (may_sweep _ _ c.requires.planned)

-- the shards that are left are apart
pub put_back-requires-clause-apart : goal.put_back-requires-clause-apart
put_back-requires-clause-apart g c κs within =
    news_apart g.S.SnapBackend.contents g.S.SnapBackend.fails c.args.backends.now.shards _ _ c.args.plan.now.report.backend (may_sweep _ _ c.requires.planned) c.in_ok-task.ensures.order c.in_ok-task.task c.in_ok-task.ensures.jobs c.sweep_in_turn.new.self c.sweep_in_turn.ensures

-- all is swept, as the outcomes say
pub returns-clause-ok : goal.returns-clause-ok
returns-clause-ok g c =
    let taken = c.in_ok-task.ensures.ok in
    let put = c.put_back.ensures.shards in
    let last : AllOutcomes = c.put_back.new.outcomes in
    swept_by g.S.SnapBackend.contents g.S.SnapBackend.fails g.B.BlobBackend.contents g.B.BlobBackend.fails g.I.IngestBackend.contents g.I.IngestBackend.fails c.args.backends.now.shards c.args.backends.now.blobs c.take.new.backends.blobs c.sweep_singles.new.backends.blobs c.put_back.new.backends.blobs
    c.args.backends.now.ingests c.take.new.backends.ingests c.sweep_singles.new.backends.ingests c.put_back.new.backends.ingests c.args.plan.now.report.backend
    (may_sweep _ _ c.requires.planned) c.in_ok-task.ensures.order c.in_ok-task.task
    c.in_ok-task.ensures.jobs c.sweep_in_turn.new.self c.sweep_in_turn.ensures
    c.sweep_singles.new.outcomes last c.put_back.ensures.set
    (ap (λ b. b.blobs) taken) (ap (λ b. b.blobs) put) (ap (λ b. b.ingests) taken) (ap (λ b. b.ingests) put) c.sweep_singles.ensures.blobs c.sweep_singles.ensures.ingests c.put_back.new.backends.shards (ap (λ b. b.shards) put)

pub returns-clause-count : goal.returns-clause-count
returns-clause-count g c =
    let taken = c.in_ok-task.ensures.ok in
    let put = c.put_back.ensures.shards in
    let last : AllOutcomes = c.put_back.new.outcomes in
    count_by g.S.SnapBackend.contents g.S.SnapBackend.fails g.B.BlobBackend.contents g.B.BlobBackend.fails g.I.IngestBackend.contents g.I.IngestBackend.fails c.args.backends.now.shards c.args.backends.now.blobs c.take.new.backends.blobs c.sweep_singles.new.backends.blobs c.put_back.new.backends.blobs
    c.args.backends.now.ingests c.take.new.backends.ingests c.sweep_singles.new.backends.ingests c.put_back.new.backends.ingests c.args.plan.now.report.backend
    (may_sweep _ _ c.requires.planned) c.in_ok-task.ensures.order c.in_ok-task.task
    c.in_ok-task.ensures.jobs c.sweep_in_turn.new.self c.sweep_in_turn.ensures
    c.sweep_singles.new.outcomes last c.put_back.ensures.set
    (ap (λ b. b.blobs) taken) (ap (λ b. b.blobs) put) (ap (λ b. b.ingests) taken) (ap (λ b. b.ingests) put) c.sweep_singles.ensures.blobs c.sweep_singles.ensures.ingests c.put_back.new.backends.shards (ap (λ b. b.shards) put)
