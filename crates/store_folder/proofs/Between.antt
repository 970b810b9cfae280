-- On the steps between two runs, one behind the other.
use Rattle.std.proofs.Common.{List, [], ℕ, Option}
use Rattle.line_loop.specs.Runs.{FindsOnly}
use Rattle.store_folder.specs.Serves.{Stays, Passes, Closes}

module _ {F : Type 0} (read_of rest_of : F → Type 0)
    (hold_of : F → List (List ℕ) → List (List ℕ) → Type 0)
    (makes : List (List ℕ) → Type 0) where
  -- the same lines make the same
  pub stays_passes : (old new : F) → Stays read_of rest_of hold_of old new
      → Passes read_of rest_of hold_of makes old new
  stays_passes old new stays = record {
    reads = stays.reads;
    stands = λ right had. (had.0, had.1, stays.holds right had.0 had.2);
    rests = stays.rests;
  }

  pub passes_both : (a b c : F) → Passes read_of rest_of hold_of makes a b
      → Passes read_of rest_of hold_of makes b c → Passes read_of rest_of hold_of makes a c
  passes_both a b c one two = record {
    reads = λ right. one.reads (two.reads right);
    stands = λ right had. two.stands right (one.stands (two.reads right) had);
    rests = λ had. two.rests (one.rests had);
  }

  module _ {G : Type 0} (read_at : G → Type 0) (find_at : G → Option (List (List ℕ)) → Type 0) where
    -- it keeps what makes the same until it is closed
    pub passes_closes : (a b : F) (c : G) → Passes read_of rest_of hold_of makes a b
        → Closes read_of hold_of makes read_at find_at b c
        → Closes read_of hold_of makes read_at find_at a c
    passes_closes a b c one two = record {
      reads = λ right. one.reads (two.reads right);
      tells = λ right had told may. two.tells right (one.stands (two.reads right) had) told may;
    }

-- what it keeps is found
pub closes_kept : {F G : Type 0} (read_of : F → Type 0)
    (hold_of : F → List (List ℕ) → List (List ℕ) → Type 0) (makes : List (List ℕ) → Type 0)
    (read_at : G → Type 0) (find_at : G → Option (List (List ℕ)) → Type 0) (old : F) (new : G)
    → (read_at new → read_of old)
    → ((kept : List (List ℕ)) → hold_of old kept [] → read_at new → FindsOnly kept (find_at new))
    → Closes read_of hold_of makes read_at find_at old new
closes_kept read_of hold_of makes read_at find_at old new reads finds = record {
  reads = reads;
  tells = λ right had told may. (had.0, had.1, finds had.0 had.2 right told may);
}
