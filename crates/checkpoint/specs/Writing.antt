-- How the writing of a checkpoint may stop. Ours.
use Rattle.std.specs.Prelude.{◌≡◌, ◌⊎◌}
use Rattle.meta_types.specs.declared.fault.Fault.{Fault}
use Rattle.meta_types.specs.declared.fault.Fault.TheVariants.{OutOfMemory}

-- memory ran out, or a line was refused
abbrev pub Stops : (Fault → Type 0) → Fault → Type 0
Stops refuses fault = (fault ≡ OutOfMemory) ⊎ refuses fault
