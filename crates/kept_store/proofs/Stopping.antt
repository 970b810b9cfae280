-- On a run that stopped.
use Rattle.std.proofs.Common.{◌≡◌, Bool, Result, Ok, Err}
use Rattle.std.specs.Prelude.{IfSome, IsErrOf, OnOk}
use Rattle.line_loop.specs.declared.ending.RunError.{RunError}
use Rattle.line_loop.specs.declared.ending.RunError.TheVariants.{ReadFailed}
use Rattle.line_loop.specs.declared.ending.Stop.{Stop}
use Rattle.line_loop.specs.declared.ending.Stop.TheVariants.{End, CheckpointDue}
use Rattle.line_loop.specs.Runs.{stopped_at_end}

-- what holds where it stopped holds where nothing failed
pub where_well : (result : Result Stop RunError) (P : Type 0)
    → IfSome (stopped_at_end result) (λ at_end. P) → OnOk result P
where_well (Ok End) P p = p
where_well (Ok CheckpointDue) P p = p
where_well (Err error) P p = tt

-- and where the reader failed
pub where_unread : (result : Result Stop RunError) (P : Type 0)
    → IfSome (stopped_at_end result) (λ at_end. P) → IsErrOf result ReadFailed → P
where_unread result P p is = rw is at p
