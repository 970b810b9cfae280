-- Why a line isn't read. Ours, unless a source stands beside.
use Rattle.std.specs.Prelude.{◌≡◌, ◌⊎◌, Option, None}
use Rattle.meta_types.specs.declared.fault.Fault.{Fault}
use Rattle.meta_types.specs.declared.fault.Fault.TheVariants.{BadLine, OutOfMemory}
use Rattle.request_line.specs.declared.command.Command.{Command}

-- memory ran out, or nothing is asked for
abbrev pub IsUnread : Option Command → Fault → Type 0
IsUnread command fault = (fault ≡ OutOfMemory) ⊎ ((fault ≡ BadLine) × (command ≡ None))
