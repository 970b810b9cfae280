-- Which fault a run ends with, by what ended its loop. Ours.
use Rattle.std.specs.Prelude.{◌≡◌}
use Rattle.meta_types.specs.declared.fault.Fault.{Fault}
use Rattle.meta_types.specs.declared.fault.Fault.TheVariants.{OutOfMemory, ReadFailed, WriteFailed}
use Rattle.line_loop.specs.declared.ending.RunError.{RunError}
use Rattle.line_loop.specs.declared.ending.RunError.TheVariants as E

-- this fault says what ended the loop; a log that keeps nothing never fails
abbrev pub IsFaultOf : RunError → Fault → Type 0
IsFaultOf E.OutOfMemory fault = fault ≡ OutOfMemory
IsFaultOf E.LogFailed fault = ⊥
IsFaultOf E.ReadFailed fault = fault ≡ ReadFailed
IsFaultOf E.WriteFailed fault = fault ≡ WriteFailed
