-- What isn't refused has none of the faults.
use Rattle.std.proofs.Common.{◌≡◌, Bool, true, false, None, refl}
use Rattle.meta_types.specs.Faults.{least_of}

-- what isn't refused has none of the faults
pub passed : (missing there forbidden : Bool) → least_of false missing there forbidden ≡ None
    → (missing ≡ false) × (there ≡ false) × (forbidden ≡ false)
passed false false false h = (refl, refl, refl)
passed false false true h = absurd cc
passed false true forbidden h = absurd cc
passed true there forbidden h = absurd cc
