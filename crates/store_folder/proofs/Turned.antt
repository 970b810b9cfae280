-- What a start finds in two files, in the order in which they stand in the folder.
use Rattle.std.proofs.Common.{◌≡◌, sym, ℕ, List, Bool, true, false, Option}
use Rattle.std.proofs.lemmas.Bool.{false≢true}
use Rattle.store_folder.specs.Folders.{MayTell}

-- the second file counts
pub told_second : (is_second : Bool) (counts other : List ℕ → Type 0)
    (told : Option (List (List ℕ))) → is_second ≡ true → MayTell false other counts told
    → MayTell is_second counts other told
told_second true counts other told is may = (may.0, may.1, may.2, may.3)
told_second false counts other told is may = absurd (false≢true is)

-- the first one does
pub told_first : (is_second : Bool) (counts other : List ℕ → Type 0)
    (told : Option (List (List ℕ))) → is_second ≡ false → MayTell false counts other told
    → MayTell is_second counts other told
told_first true counts other told is may = absurd (false≢true (sym is))
told_first false counts other told is may = may
