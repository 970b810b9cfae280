use Rattle.std.proofs.Common.{◌≡◌, Bool, true, false, List, ℕ, Option}
use Rattle.store_folder.specs.Folders.{MayTell}
use Rattle.store_folder.proofs.serving.closing.close.Goals as goal

module _ (is_second : Bool) (counts other first second : List ℕ → Type 0)
    (told : Option (List (List ℕ))) where
  -- the second file counts
  tells_second : is_second ≡ true → ((a : List ℕ) → second a → counts a)
      → ((b : List ℕ) → first b → other b) → MayTell false first second told
      → MayTell is_second counts other told
  tells_second is one two may =
      rw is (may.0, may.1, (two may.0 may.2.0, one may.1 may.2.1), may.3)

  -- the first one counts
  tells_first : is_second ≡ false → ((a : List ℕ) → first a → counts a)
      → ((b : List ℕ) → second b → other b) → MayTell false first second told
      → MayTell is_second counts other told
  tells_first is one two may =
      rw is (may.0, may.1, (one may.0 may.2.0, two may.1 may.2.1), may.3)

pub returns-then-is_second-clause-reads : goal.returns-then-is_second-clause-reads
returns-then-is_second-clause-reads g c right =
    (c.into_disk-disk.ensures.clean right.1, right.0)

pub returns-then-is_second-clause-finds : goal.returns-then-is_second-clause-finds
returns-then-is_second-clause-finds g c told may =
    tells_second _ _ _ _ _ told c.if-is_second.true c.into_disk-disk.ensures.leaves
    (λ b left. left) may

pub returns-clause-reads : goal.returns-clause-reads
returns-clause-reads g c right = (c.into_disk-disk.ensures.clean right.0, right.1)

pub returns-clause-finds : goal.returns-clause-finds
returns-clause-finds g c told may =
    tells_first _ _ _ _ _ told c.if-is_second.false c.into_disk-disk.ensures.leaves
    (λ b left. left) may
