-- What a backend answers, and when. Ours, unless a source stands beside.
use Rattle.std.specs.Prelude.{◌≡◌, ℕ, Bool, true, false, Result, Ok, Err}
use Rattle.back_model.specs.declared.faults.MakeFault.{MakeFault}
use Rattle.back_model.specs.declared.faults.MakeFault.TheVariants as M
use Rattle.back_model.specs.declared.faults.RemoveFault.{RemoveFault}
use Rattle.back_model.specs.declared.faults.RemoveFault.TheVariants as R

-- an object is Taken where it is held, else Missing where its parent isn't; else it is made, or the
-- device failed, or memory ran out
abbrev pub Makes : Result (Unit {0}) MakeFault → Bool → Bool → Type 0
Makes (Ok _) held parent = (held ≡ false) × (parent ≡ true)
Makes (Err M.Taken) held parent = held ≡ true
Makes (Err M.Missing) held parent = (held ≡ false) × (parent ≡ false)
Makes (Err M.Device) held parent = (held ≡ false) × (parent ≡ true)
Makes (Err M.Memory) held parent = (held ≡ false) × (parent ≡ true)

-- An object is Missing where it isn't held, else it HasChildren where it is a parent. Else it is
-- removed, or the device failed. Containerd snapshots service: a parent isn't removed before its
-- children.
abbrev pub Removes : Result (Unit {0}) RemoveFault → Bool → Bool → Type 0
Removes (Ok _) held child = (held ≡ true) × (child ≡ false)
Removes (Err R.Missing) held child = held ≡ false
Removes (Err R.HasChildren) held child = (held ≡ true) × (child ≡ true)
Removes (Err R.Device) held child = (held ≡ true) × (child ≡ false)

-- how many failures of the device a making adds
abbrev pub make_fails : Result (Unit {0}) MakeFault → ℕ
make_fails (Ok _) = 0
make_fails (Err M.Taken) = 0
make_fails (Err M.Missing) = 0
make_fails (Err M.Device) = 1
make_fails (Err M.Memory) = 0

-- no device of this kind ever fails
abbrev pub NeverFails : {Backend : Type 0} → (Backend → ℕ) → Type 0
NeverFails fails = (backend : _) → fails backend ≡ 0

-- how many failures of the device a removal adds
abbrev pub remove_fails : Result (Unit {0}) RemoveFault → ℕ
remove_fails (Ok _) = 0
remove_fails (Err R.Missing) = 0
remove_fails (Err R.HasChildren) = 0
remove_fails (Err R.Device) = 1
