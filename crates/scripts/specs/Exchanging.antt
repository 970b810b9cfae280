-- What a run read and wrote, and what ends it. Ours, unless a source stands beside.
use Rattle.std.specs.Prelude.{◌≡◌, ℕ, List, Option, ◌⊎◌}
use Rattle.std.specs.Io.KnownBytes.{Appends, Consumes}
use Rattle.meta_types.specs.declared.fault.Fault.{Fault}
use Rattle.meta_types.specs.declared.fault.Fault.TheVariants.{InvalidArgument, OutOfMemory, ReadFailed, WriteFailed}

-- what can end a run after it began
abbrev pub IsLateFault : Fault → Type 0
IsLateFault fault = (fault ≡ OutOfMemory) ⊎ (fault ≡ WriteFailed)

-- what can end a run whose number of workers is allowed
abbrev pub IsStartedFault : Fault → Type 0
IsStartedFault fault = (fault ≡ ReadFailed) ⊎ IsLateFault fault

-- what can end a run
abbrev pub IsRunFault : Fault → Type 0
IsRunFault fault = (fault ≡ InvalidArgument) ⊎ IsStartedFault fault

-- what a run read and wrote is so related, as far as reader and writer tell their bytes
pub record Exchanges (IsRelated : List ℕ → List ℕ → Type 0) (left_old left held_old held : Option (List ℕ)) : Type 0 where
  pub read : List ℕ
  pub written : List ℕ
  pub consumes : Consumes left_old left read
  pub appends : Appends held_old held written
  pub related : IsRelated read written
