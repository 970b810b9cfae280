-- On how a run ended.
use Rattle.std.proofs.Common.{◌≡◌, ◌∙◌, sym, subst, Bool, false, Result, Ok, Err}
use Rattle.std.specs.Prelude.{IfSome}
use Rattle.std.specs.Result.{IsErrAnd}
use Rattle.line_loop.specs.declared.ending.RunError.{RunError}
use Rattle.line_loop.specs.declared.ending.RunError.TheVariants.{OutOfMemory, LogFailed, ReadFailed, WriteFailed}
use Rattle.line_loop.specs.declared.ending.Stop.{Stop}
use Rattle.line_loop.specs.Runs.{EndsAnswering, stopped_at_end}

-- where the reader failed, the run stopped between two reads
pub stopped_reading : (result : Result Stop RunError) (error : RunError) (P : Bool → Type 0)
    → IsErrAnd result (λ other. other ≡ error) → error ≡ ReadFailed → P false
    → IfSome (stopped_at_end result) P
stopped_reading (Ok stop) error P same is p = absurd same
stopped_reading (Err other) error P same is p =
    subst (λ (e : RunError). IfSome (stopped_at_end (Err e)) P) (sym (same ∙ is)) p

-- where anything else failed, it stopped nowhere
pub not_stopped : (keeps : Bool) (error : RunError) (P : Bool → Type 0) → EndsAnswering keeps error
    → IfSome (stopped_at_end (Err error)) P
not_stopped keeps OutOfMemory P late = tt
not_stopped keeps LogFailed P late = tt
not_stopped keeps ReadFailed P late = absurd late
not_stopped keeps WriteFailed P late = tt
