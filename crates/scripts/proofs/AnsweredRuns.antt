-- A run in the words of its promise: what was written answers what was read.
use Rattle.std.proofs.Common.{ℕ, List, Option}
use Rattle.scripts.specs.Output.{IsOutput, IsWholeOutput, IsBeginning}
use Rattle.scripts.specs.Exchanging.{Exchanges}
use Rattle.scripts.specs.WholeScripts.{AnswersScript, AnswersWholeLines, BeginsAnswers}
use Rattle.scripts.proofs.Runs.{Exchanges-none}
use Rattle.scripts.proofs.WholeScripts.{answers_script, answers_whole, begins_answers}

module _ {left_old left held_old held : Option (List ℕ)} where
  -- what is so related is so related too
  exchanges : (P Q : List ℕ → List ℕ → Type 0)
      → ((read written : List ℕ) → P read written → Q read written)
      → Exchanges P left_old left held_old held → Exchanges Q left_old left held_old held
  exchanges P Q more e = record {
    read = e.read;
    written = e.written;
    consumes = e.consumes;
    appends = e.appends;
    related = more e.read e.written e.related;
  }

  pub all_answered : Exchanges IsOutput left_old left held_old held
      → Exchanges AnswersScript left_old left held_old held
  all_answered e = exchanges IsOutput AnswersScript answers_script e

  pub whole_answered : Exchanges IsWholeOutput left_old left held_old held
      → Exchanges AnswersWholeLines left_old left held_old held
  whole_answered e = exchanges IsWholeOutput AnswersWholeLines answers_whole e

  pub front_answered : Exchanges IsBeginning left_old left held_old held
      → Exchanges BeginsAnswers left_old left held_old held
  front_answered e = exchanges IsBeginning BeginsAnswers begins_answers e

-- a run that read and wrote nothing
pub nothing_answered : (left held : Option (List ℕ)) → Exchanges BeginsAnswers left left held held
nothing_answered left held = front_answered (Exchanges-none left held)
