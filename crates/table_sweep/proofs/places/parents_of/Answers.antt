use Rattle.std.proofs.Common.{ℕ, List, Option, subst, sym}
use Rattle.table_sweep.specs.SnapshotPlaces.{LeadUp}
use Rattle.table_sweep.proofs.Sought.{all_lead}
use Rattle.table_sweep.proofs.places.parents_of.Goals as goal

pub returns-clause-ok : goal.returns-clause-ok
returns-clause-ok c =
    subst (λ (parents : List (Option ℕ)). LeadUp c.args.snapshots.now c.args.goes.now parents)
    (sym c.in_ok-parents-2.ensures.ok) (all_lead c.args.snapshots.now c.args.goes.now)
