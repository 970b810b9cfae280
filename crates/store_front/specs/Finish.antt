-- What a cut and a finish refuse, and what they give. Ours, unless a source stands beside.
use Rattle.std.specs.Prelude.{ℕ, zero, suc, ◌≡◌, ◌<◌, ◌+◌, ◌==◌, List, [], ◌∷◌, count_by, length, slice_index_or, nat_lt, if◌then◌else◌, true, false, ⊤}
use Rattle.meta_types.specs.Rows.{State}
use Rattle.meta_types.specs.Histories.{Entry, IsLegal}
use Rattle.meta_types.specs.declared.fault.Fault.{Fault}
use Rattle.meta_types.specs.declared.fault.Fault.TheVariants.{InvalidArgument, NotFound, AlreadyExists, FailedPrecondition, BadLine, TooLong, OutOfMemory, NoWorker, BackendFailed, ReadFailed, WriteFailed, Mismatch}
use Rattle.meta_types.specs.Limits.{is_worker_count, is_too_large}
use Rattle.store_front.specs.SessionEntries.{SessionEntry, Seat, Course}
use Rattle.store_front.specs.Parts.{part, IsPart, DifferFirst, AreOpened}

-- memory ran out, or the session's part of the log and its list differ first at the named place
abbrev pub CutFails : Fault → List SessionEntry → List SessionEntry → Type 0
CutFails OutOfMemory xs ys = ⊤
CutFails (Mismatch place) xs ys = DifferFirst xs ys place
CutFails InvalidArgument xs ys = ⊥
CutFails NotFound xs ys = ⊥
CutFails AlreadyExists xs ys = ⊥
CutFails FailedPrecondition xs ys = ⊥
CutFails BadLine xs ys = ⊥
CutFails TooLong xs ys = ⊥
CutFails NoWorker xs ys = ⊥
CutFails BackendFailed xs ys = ⊥
CutFails ReadFailed xs ys = ⊥
CutFails WriteFailed xs ys = ⊥

-- A plan beside the lock is refused for the workers, or for too many rows in the state that the
-- history leads to. It is refused where the session's part of the log and its list differ, and
-- where memory ran out or a thread couldn't be started.
abbrev pub PlanFails : Fault → ℕ → Seat → Type 0
PlanFails InvalidArgument workers session = is_worker_count workers ≡ false
PlanFails FailedPrecondition workers session =
    (base : State) × (log : List Entry) × (state : State) × IsLegal base log state × IsPart log session × (is_too_large state.records ≡ true)
PlanFails (Mismatch place) workers session = (log : List Entry) × DifferFirst (part session.number log) session.list place
PlanFails OutOfMemory workers session = ⊤
PlanFails NoWorker workers session = is_worker_count workers ≡ true
PlanFails NotFound workers session = ⊥
PlanFails AlreadyExists workers session = ⊥
PlanFails BadLine workers session = ⊥
PlanFails TooLong workers session = ⊥
PlanFails BackendFailed workers session = ⊥
PlanFails ReadFailed workers session = ⊥
PlanFails WriteFailed workers session = ⊥

-- the numbers are those below this one, each once
abbrev pub AreEach : ℕ → List Seat → Type 0
AreEach opened seats = (k : ℕ) → count_by (λ s. s.number == k) seats ≡ (if nat_lt k opened then 1 else 0)

-- some session's part of the log and its list differ first at this place
abbrev pub OneDiffers : List Entry → List Seat → ℕ → Type 0
OneDiffers log seats place =
    (i : ℕ) × (d : Seat) × (i < length seats) × DifferFirst (part (slice_index_or seats i d).number log) (slice_index_or seats i d).list place

-- the numbers are wrong, or memory ran out, or a list and its part differ; the last two only where
-- the numbers are right
abbrev pub FinishFails : Fault → ℕ → List Entry → List Seat → Type 0
FinishFails InvalidArgument opened log seats = ¬ (AreEach opened seats)
FinishFails OutOfMemory opened log seats = AreEach opened seats
FinishFails (Mismatch place) opened log seats = AreEach opened seats × OneDiffers log seats place
FinishFails NotFound opened log seats = ⊥
FinishFails AlreadyExists opened log seats = ⊥
FinishFails FailedPrecondition opened log seats = ⊥
FinishFails BadLine opened log seats = ⊥
FinishFails TooLong opened log seats = ⊥
FinishFails NoWorker opened log seats = ⊥
FinishFails BackendFailed opened log seats = ⊥
FinishFails ReadFailed opened log seats = ⊥
FinishFails WriteFailed opened log seats = ⊥

-- the events lead from the base to some store, each with its answer
abbrev pub IsHistory : Course → Type 0
IsHistory h = (state : State) × IsLegal h.base h.log state

-- each entry is of one of these sessions, which have different numbers
abbrev pub AreOfThese : List Entry → List Seat → Type 0
AreOfThese log seats = (opened : ℕ) × AreEach opened seats × AreOpened opened log

-- the session with no answer yet
abbrev pub fresh : Seat → Seat
fresh s = record { number = s.number; list = [] }

-- how many answers these sessions got
abbrev pub told_to : List Seat → ℕ
told_to [] = 0
told_to (s ∷ seats) = length s.list + told_to seats

-- ---- while lists are emptied

-- the first `i` sessions are emptied
abbrev pub cleared : ℕ → List Seat → List Seat
cleared zero seats = seats
cleared (suc i) [] = []
cleared (suc i) (s ∷ seats) = fresh s ∷ cleared i seats

-- how many answers the first `i` sessions got
abbrev pub told_first : ℕ → List Seat → ℕ
told_first zero seats = 0
told_first (suc i) [] = 0
told_first (suc i) (s ∷ seats) = length s.list + told_first i seats
