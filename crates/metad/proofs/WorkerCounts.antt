-- On the number of workers.
use Rattle.std.proofs.Common.{◌≡◌, refl, ℕ, List, Option, Some, None, IfSome, IfNone, codes, true}
use Rattle.clap.specs.Words.{Row, Text, first_of}
use Rattle.meta_types.specs.Limits.{is_worker_count}
use Rattle.metad.specs.Args.{IsNumber, HasWorkers}

-- the text that stands there is the number
pub has_text : (rows : List Row) (text : Text) → first_of (codes "workers") rows ≡ Some text
    → (o : Option ℕ) → IfSome o (λ n. (is_worker_count n ≡ true) × IsNumber text n)
    → IfSome o (HasWorkers rows)
has_text rows text e None h = tt
has_text rows text e (Some n) h = (h.0, rw e h.1)

-- the text that stands there is no such number
pub has_no_number : (rows : List Row) (text : Text) → first_of (codes "workers") rows ≡ Some text
    → (o : Option ℕ)
    → IfNone o ((n : ℕ) → is_worker_count n ≡ true → IsNumber text n → ⊥)
    → IfNone o ((n : ℕ) → HasWorkers rows n → ⊥)
has_no_number rows text e None h = λ n has. h n has.0 (rw e at has.1)
has_no_number rows text e (Some n) h = tt

-- none was given
pub has_none : (rows : List Row) → first_of (codes "workers") rows ≡ None → HasWorkers rows 1
has_none rows e = (refl, rw e refl)
