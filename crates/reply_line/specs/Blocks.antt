-- Text that is written block by block. Ours.
use Rattle.std.specs.Prelude.{◌≡◌, ℕ, List, ◌++◌, Option, ◌⊎◌}
use Rattle.std.specs.Io.KnownBytes.{Appends}
use Rattle.meta_types.specs.declared.fault.Fault.{Fault}
use Rattle.meta_types.specs.declared.fault.Fault.TheVariants.{OutOfMemory, WriteFailed}

-- the writer took the bytes but for the rest
abbrev pub WritesFront : Option (List ℕ) → Option (List ℕ) → List ℕ → List ℕ → Type 0
WritesFront held_old held rest bytes = (front : List ℕ) × (front ++ rest ≡ bytes) × Appends held_old
    held front

-- Of what stood in the block and this text behind it, the writer took all but the rest.
abbrev pub Puts : Option (List ℕ) → List ℕ → Option (List ℕ) → List ℕ → List ℕ → Type 0
Puts held_old stood held rest text = WritesFront held_old held rest (stood ++ text)

-- what can end a text that is written in blocks
abbrev pub IsBlockFault : Fault → Type 0
IsBlockFault fault = (fault ≡ OutOfMemory) ⊎ (fault ≡ WriteFailed)
