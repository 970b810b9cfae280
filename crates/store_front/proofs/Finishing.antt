-- What refuses a finish, from the fields to the value.
use Rattle.std.proofs.Common.{◌≡◌, ℕ, List, refl, sym, ap, subst}
use Rattle.std.specs.Prelude.{Result, Ok, Err, IfOk, IfErr, OnOk, All}
use Rattle.std.specs.Result.{IsErrAnd}
use Rattle.meta_types.specs.Histories.{Entry, IsLegal}
use Rattle.meta_types.specs.declared.fault.Fault.{Fault}
use Rattle.meta_types.specs.declared.fault.Fault.TheVariants.{InvalidArgument, NotFound, AlreadyExists, FailedPrecondition, BadLine, TooLong, OutOfMemory, NoWorker, BackendFailed, ReadFailed, WriteFailed, Mismatch}
use Rattle.store_front.specs.SessionEntries.{Seat, Course}
use Rattle.store_front.specs.Front.{Front}
use Rattle.store_front.specs.Parts.{IsPart, AreOpened}
use Rattle.store_front.specs.Finish.{AreEach, FinishFails, IsHistory, AreOfThese}

-- 1 is answered where the numbers are wrong, and nowhere else
abbrev pub IsEach : Result Course Fault → ℕ → List Seat → Type 0
IsEach r opened seats = (r ≡ Err InvalidArgument → ¬ (AreEach opened seats)) × (¬ (AreEach opened seats) → r ≡ Err InvalidArgument)

each_fault : (fault : Fault) (opened : ℕ) (log : List Entry) (seats : List Seat)
    → FinishFails fault opened log seats → IsEach (Err fault) opened seats
each_fault InvalidArgument opened log seats h = (λ e. h, λ n. refl)
each_fault OutOfMemory opened log seats h = (λ e. absurd cc, λ n. absurd (n h))
each_fault (Mismatch place) opened log seats h = (λ e. absurd cc, λ n. absurd (n h.0))
each_fault NotFound opened log seats h = absurd h
each_fault AlreadyExists opened log seats h = absurd h
each_fault FailedPrecondition opened log seats h = absurd h
each_fault BadLine opened log seats h = absurd h
each_fault TooLong opened log seats h = absurd h
each_fault NoWorker opened log seats h = absurd h
each_fault BackendFailed opened log seats h = absurd h
each_fault ReadFailed opened log seats h = absurd h
each_fault WriteFailed opened log seats h = absurd h

-- so it is of the answer that `?` passes on
pub each_refused : (r : Result Course Fault) (fault : Fault) (inside opened : ℕ) (log : List Entry) (now seats : List Seat)
    → IsErrAnd r (λ other. other ≡ fault) → inside ≡ opened → now ≡ seats
    → FinishFails fault inside log now → IsEach r opened seats
each_refused (Ok h) fault inside opened log now seats same o s fails = absurd same
each_refused (Err other) fault inside opened log now seats same o s fails =
    subst (λ (f : Fault). IsEach (Err f) opened seats) (sym same)
    (subst (λ (k : ℕ). IsEach (Err fault) k seats) o (subst (λ (l : List Seat). IsEach (Err fault) inside l) s (each_fault fault inside log now fails)))

-- and of a history
pub each_given : (h : Course) (opened : ℕ) (seats : List Seat) → AreEach opened seats
    → IsEach (Ok h) opened seats
each_given h opened seats all = (λ e. absurd cc, λ n. absurd (n all))

-- ---- from the fields to the value

pub own_as : (log other : List Entry) (now seats : List Seat) → log ≡ other → now ≡ seats
    → All (IsPart log) now → All (IsPart other) seats
own_as log other now seats l s h = subst (λ (x : List Entry). All (IsPart x) seats) l (subst (λ (y : List Seat). All (IsPart log) y) s h)

pub each_as : (inside opened : ℕ) (now seats : List Seat) → inside ≡ opened → now ≡ seats
    → AreEach inside now → AreEach opened seats
each_as inside opened now seats o s h = subst (λ (k : ℕ). AreEach k seats) o (subst (λ (y : List Seat). AreEach inside y) s h)

-- what the check refuses, of the value
pub refused_as : (r : Result Course Fault) (fault : Fault) (inside opened : ℕ)
    (log other : List Entry) (now seats : List Seat)
    → IsErrAnd r (λ answer. answer ≡ fault) → inside ≡ opened → log ≡ other → now ≡ seats
    → FinishFails fault inside log now → IfErr r (λ f. FinishFails f opened other seats)
refused_as (Ok h) fault inside opened log other now seats same o l s fails = absurd same
refused_as (Err answer) fault inside opened log other now seats same o l s fails =
    subst (λ (f : Fault). FinishFails f opened other seats) (sym same)
    (subst (λ (k : ℕ). FinishFails fault k other seats) o
    (subst (λ (x : List Entry). FinishFails fault inside x seats) l
    (subst (λ (y : List Seat). FinishFails fault inside log y) s fails)))

-- what a finish gives, outside the lock
pub outside : (f : Front) (seats : List Seat) (r : Result Course Fault) → IfOk r (λ h. h ≡ record { base = f.base; log = f.log }) → IfOk r (λ h. IsLegal h.base h.log f.store.state × AreOpened f.opened h.log)
    → OnOk r (All (IsPart f.log) seats) → OnOk r (AreEach f.opened seats)
    → IfOk r (λ h. IsHistory h × All (IsPart h.log) seats × AreOfThese h.log seats)
outside f seats (Ok h) whole legal own each =
    let log : f.log ≡ h.log = sym (ap (λ (c : Course). c.log) whole) in
    ((f.store.state, legal.0), subst (λ (l : List Entry). All (IsPart l) seats) log own, (f.opened, each, legal.1))
outside f seats (Err e) whole legal own each = whole
