-- Where the loop of a run stopped, and which fault tells it.
use Rattle.std.proofs.Common.{◌≡◌, refl, Bool, true, false, Result, Ok, Err}
use Rattle.std.specs.Prelude.{IfSome}
use Rattle.meta_types.specs.declared.fault.Fault.{Fault}
use Rattle.meta_types.specs.declared.fault.Fault.TheVariants.{ReadFailed}
use Rattle.line_loop.specs.declared.ending.RunError.{RunError}
use Rattle.line_loop.specs.declared.ending.RunError.TheVariants as E
use Rattle.line_loop.specs.declared.ending.Stop.{Stop}
use Rattle.line_loop.specs.declared.ending.Stop.TheVariants.{End}
use Rattle.line_loop.specs.Runs.{stopped_at_end}
use Rattle.scripts.specs.Endings.{IsFaultOf}

-- what holds where the loop stopped holds at the end
pub at_end : (result : Result Stop RunError) (P : Bool → Type 0) (stop : Stop) → result ≡ Ok stop
    → stop ≡ End → IfSome (stopped_at_end result) P → P true
at_end result P stop is end stopped = rw (is, end) at stopped

-- and where the reader failed
pub where_unread : (result : Result Stop RunError) (P : Bool → Type 0) (error : RunError)
    → result ≡ Err error → error ≡ E.ReadFailed → IfSome (stopped_at_end result) P → P false
where_unread result P error is failed stopped = rw (is, failed) at stopped

-- that fault says that the reader failed
pub reader_failed : (error : RunError) (fault : Fault) → IsFaultOf error fault
    → fault ≡ ReadFailed → error ≡ E.ReadFailed
reader_failed E.OutOfMemory fault is read = absurd cc
reader_failed E.LogFailed fault is read = absurd is
reader_failed E.ReadFailed fault is read = refl
reader_failed E.WriteFailed fault is read = absurd cc
