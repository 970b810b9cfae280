-- What holds of the rows that were read holds of the tables that they were read from.
use Rattle.std.proofs.Common.{◌≡◌, List, subst}
use Rattle.meta_types.specs.Sound.{AreNumbered}
use Rattle.meta_types.specs.declared.rows.IngestRow.{IngestRow}
use Rattle.meta_types.specs.declared.rows.SnapRow.{SnapRow}

-- rows that are numbered stay so, whatever they are called
pub numbered_as : (snaps also : List SnapRow) (begun other : List IngestRow) → snaps ≡ also → begun ≡ other → AreNumbered snaps begun → AreNumbered also other
numbered_as snaps also begun other s g h = subst (λ (l : List IngestRow). AreNumbered also l) g (subst (λ (l : List SnapRow). AreNumbered l begun) s h)
