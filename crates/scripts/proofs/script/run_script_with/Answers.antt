use Rattle.std.proofs.Common.{◌≡◌, Result, Ok, Err}
use Rattle.std.proofs.lemmas.Result.{on_ok_weaker, on_err_weaker}
use Rattle.std.specs.Prelude.{IfErr}
use Rattle.meta_types.specs.declared.fault.Fault.{Fault}
use Rattle.scripts.proofs.AnsweredRuns.{all_answered, whole_answered, front_answered, nothing_answered}
use Rattle.scripts.proofs.script.run_script_with.Goals as goal

-- what holds at a fault, where it is the fault
at_fault : {T : Type 0} (result : Result T Fault) (fault : Fault) (P : Type 0) → IfErr result (λ other. other ≡ fault → P) → result ≡ Err fault → P
at_fault (Ok x) fault P h e = absurd cc
at_fault (Err other) fault P h e = h cc

-- the output answers what was read
pub returns-clause-ok : goal.returns-clause-ok
returns-clause-ok g c =
    on_ok_weaker c.run_named.result (λ e. all_answered e) c.run_named.ensures.ok

-- the reader failed
pub returns-clause-read_failed : goal.returns-clause-read_failed
returns-clause-read_failed g c = λ e.
    whole_answered (at_fault c.run_named.result _ _ c.run_named.ensures.read_failed e)

-- the run broke off
pub returns-clause-err : goal.returns-clause-err
returns-clause-err g c =
    on_err_weaker c.run_named.result (λ e. front_answered e) c.run_named.ensures.err

-- nothing was read, and nothing written
pub returns-in_default-clause-err : goal.returns-in_default-clause-err
returns-in_default-clause-err g c = nothing_answered _ _
