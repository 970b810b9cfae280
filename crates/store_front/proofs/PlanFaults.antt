-- Why a plan beside the lock is refused, from what refuses the copies and the dry run.
use Rattle.std.proofs.Common.{◌≡◌, ℕ, Bool, true, false, not, List, refl, sym, subst, inl, inr}
use Rattle.std.specs.Prelude.{◌↔◌, Option, Some, None, Result, Ok, Err, IfErr, ⊤, if◌then◌else◌}
use Rattle.std.specs.Result.{IsErrAnd}
use Rattle.meta_types.specs.Rows.{State, Records}
use Rattle.meta_types.specs.Histories.{Entry, IsLegal}
use Rattle.meta_types.specs.Limits.{is_worker_count, is_too_large}
use Rattle.gc_report.specs.declared.report.Report.{Report}
use Rattle.meta_types.specs.declared.fault.Fault.{Fault}
use Rattle.meta_types.specs.declared.fault.Fault.TheVariants.{InvalidArgument, NotFound, AlreadyExists, FailedPrecondition, BadLine, TooLong, OutOfMemory, NoWorker, BackendFailed, ReadFailed, WriteFailed, Mismatch}
use Rattle.steal_mark.specs.Refusing.{RefusesThreads}
use Rattle.collection.specs.Refused.{large_fault}
use Rattle.store_front.specs.SessionEntries.{Seat}
use Rattle.store_front.specs.Parts.{part, IsPart}
use Rattle.store_front.specs.Finish.{CutFails, PlanFails}

-- `?` passes a fault on as it is
pub passed_on : {T : Type 0} (result : Result T Fault) (fault : Fault) (P : Fault → Type 0)
    → IsErrAnd result (λ other. other ≡ fault) → P fault
    → IfErr result P
passed_on (Ok x) fault P same p = absurd same
passed_on (Err other) fault P same p = subst P (sym same) p

-- where the workers are allowed, they aren't what refuses the plan
pub not_for_workers : {T : Type 0} (result : Result T Fault) (workers : ℕ) (session : Seat)
    → is_worker_count workers ≡ true → IfErr result (λ f. PlanFails f workers session)
    → (result ≡ Err InvalidArgument) ↔ (is_worker_count workers ≡ false)
not_for_workers result workers session allowed fails =
    (λ is. subst (λ r. IfErr r (λ f. PlanFails f workers session)) is fails, λ no. absurd cc)

-- what refuses the copies refuses the plan
pub cut_refuses : (workers : ℕ) (session : Seat) (log : List Entry) (f : Fault)
    → CutFails f (part session.number log) session.list → PlanFails f workers session
cut_refuses workers session log OutOfMemory h = h
cut_refuses workers session log (Mismatch place) h = (log, h)
cut_refuses workers session log InvalidArgument h = absurd h
cut_refuses workers session log NotFound h = absurd h
cut_refuses workers session log AlreadyExists h = absurd h
cut_refuses workers session log FailedPrecondition h = absurd h
cut_refuses workers session log BadLine h = absurd h
cut_refuses workers session log TooLong h = absurd h
cut_refuses workers session log NoWorker h = absurd h
cut_refuses workers session log BackendFailed h = absurd h
cut_refuses workers session log ReadFailed h = absurd h
cut_refuses workers session log WriteFailed h = absurd h

module _ (workers : ℕ) (session : Seat) (base : State) (log : List Entry) (state : State) (legal : IsLegal base log state) (own : IsPart log session) where
  by_size : (large : Bool) → is_too_large state.records ≡ large → is_worker_count workers ≡ true
      → (f : Fault)
      → RefusesThreads {X = Report} (Err f) (if large then Some FailedPrecondition else None)
      → PlanFails f workers session
  by_size true is allowed f h = subst (λ (x : Fault). PlanFails x workers session) (sym h) (base, log, state, legal, own, is)
  by_size false is allowed f (inl h) = subst (λ (x : Fault). PlanFails x workers session) (sym h) tt
  by_size false is allowed f (inr h) = subst (λ (x : Fault). PlanFails x workers session) (sym h) allowed

  -- what refuses the dry run of these records, which are the state's, refuses the plan
  pub dry_refuses : (records : Records) → records ≡ state.records → is_worker_count workers ≡ true
      → (f : Fault)
      → RefusesThreads {X = Report} (Err f) (large_fault records)
      → PlanFails f workers session
  dry_refuses records same allowed f h =
      by_size (is_too_large state.records) refl allowed f
      (subst (λ (r : Records). RefusesThreads {X = Report} (Err f) (large_fault r)) same h)
