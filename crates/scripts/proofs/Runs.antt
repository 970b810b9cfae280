-- A run of the loop over a store is one of a script.
use Rattle.std.proofs.Common.{◌≡◌, ◌∙◌, ap, sym, refl, subst, ℕ, ◌==◌, List, [], ◌∷◌, ◌++◌, length, true, false, Option, inl, inr}
use Rattle.std.proofs.lemmas.Bool.{cases_Bool}
use Rattle.std.specs.List.{list_any}
use Rattle.meta_types.specs.Rows.{State, empty_store}
use Rattle.meta_types.specs.Steps.{refused}
use Rattle.meta_types.specs.declared.fault.Fault.TheVariants.{OutOfMemory}
use Rattle.reply_line.specs.Replies.{answer_text}
use Rattle.line_loop.specs.Reads.{cut_long}
use Rattle.line_loop.specs.Runs.{Start, Kept, Answers as Loops}
use Rattle.line_loop.specs.Scripts.{AnswersLines, answers_by, MayRefuse, up_to_last, onto_first as onto_heard, lines_of as heard_lines}
use Rattle.line_loop.proofs.Scripts.{answers_all, answers_wholes, answers_begin}
use Rattle.scripts.specs.LineSteps.{line_step}
use Rattle.scripts.specs.Lines.{is_line_feed, onto_first, lines_of, whole_lines}
use Rattle.scripts.specs.Output.{Supplies, output_from, AreTrue, IsOutput, IsWholeOutput, IsBeginning}
use Rattle.scripts.specs.Exchanging.{Exchanges}
use Rattle.scripts.specs.StoreSteps.{LineSteps}
use Rattle.scripts.proofs.Heard.{heard_answers}
use Rattle.scripts.proofs.Stepping.{empty_steps, refused_steps}
use Rattle.scripts.proofs.Writers.{Consumes-none, Appends-none}

-- ---- the lines of a text, in both words

same_first : (byte : ℕ) (lines : List (List ℕ)) → onto_heard byte lines ≡ onto_first byte lines
same_first byte [] = refl
same_first byte (line ∷ lines) = refl

same_lines : (text : List ℕ) → heard_lines text ≡ lines_of text
same_lines [] = refl
same_lines (byte ∷ text) = elim (cases_Bool (is_line_feed byte)) [
  | inl is ↦ rw is (ap (λ (ls : List (List ℕ)). [] ∷ ls) (same_lines text))
  | inr other ↦
      rw other (same_first byte (heard_lines text) ∙ ap (onto_first byte) (same_lines text))
]

same_wholes : (text : List ℕ) → up_to_last text ≡ whole_lines text
same_wholes [] = refl
same_wholes (byte ∷ text) = elim (cases_Bool (list_any is_line_feed (byte ∷ text))) [
  | inl is ↦ rw is (ap (λ (t : List ℕ). byte ∷ t) (same_wholes text))
  | inr other ↦ rw other refl
]

-- ---- what a run supplies

-- memory may refuse any line
may_refuse : MayRefuse LineSteps
may_refuse state line = elim (cases_Bool (length (cut_long line) == 0)) [
  | inl empty ↦ ([], (false, empty_steps state (cut_long line) empty))
  | inr full ↦ (
    answer_text (refused OutOfMemory) ++ 10 ∷ [],
    (false, refused_steps state (cut_long line) full),
  )
]

-- the lines are answered as they are computed, by what is supplied to each
outputs : (state : State) (lines : List (List ℕ)) (written : List ℕ)
    → AnswersLines (answers_by LineSteps) state lines written
    → (supplies : Supplies) × (written ≡ output_from state supplies lines)
    × AreTrue state supplies lines
outputs state [] written is = ([], is, tt)
outputs state (line ∷ lines) written (reply, new, step, rest, is, more) =
    let one = heard_answers state new line reply step.1.0 in
    let others = outputs new lines rest more in
    let bytes : reply ≡ (line_step state one.0 line).0 =
    sym (ap (λ (s : List ℕ × State). s.0) one.1) in
    let next : new ≡ (line_step state one.0 line).1 =
    sym (ap (λ (s : List ℕ × State). s.1) one.1) in (
      one.0 ∷ others.0,
      is ∙ ap (λ (t : List ℕ). reply ++ t) others.1
          ∙ ap (λ (t : List ℕ). t ++ output_from new others.0 lines) bytes
          ∙ ap (λ (s : State). (line_step state one.0 line).0 ++ output_from s others.0 lines) next,
      (one.2, subst (λ (s : State). AreTrue s others.0 lines) next others.2),
    )

-- ---- a run that began with nothing, over an empty store

module _ (start : Start State) (nothing : start.begun ≡ []) (empty : start.service ≡ empty_store)
  where
    lines_output : (text : List ℕ) (written : List ℕ)
        → AnswersLines (answers_by LineSteps) start.service (heard_lines text) written
        → IsOutput text written
    lines_output text written answers =
        let from_start : AnswersLines (answers_by LineSteps) empty_store (lines_of text) written =
        subst (λ (s : State). AnswersLines (answers_by LineSteps) s (lines_of text) written) empty
        (subst (λ (ls : List (List ℕ)). AnswersLines (answers_by LineSteps) start.service ls written)
        (same_lines text) answers) in
        outputs empty_store (lines_of text) written from_start

    -- at the end all lines are answered
    pub run_outputs : (to : State) (contents : Option (List ℕ)) (piece : List ℕ)
        (left : Option (List ℕ)) (holds : List (List ℕ) → List (List ℕ) → Type 0)
        → Loops LineSteps start true to contents piece left holds
        → Exchanges IsOutput start.unread left start.held contents
    run_outputs to contents piece left holds a =
        let e = answers_all LineSteps start to contents piece left holds nothing a in record {
          read = e.read;
          written = e.written;
          consumes = e.consumes;
          appends = e.appends;
          related = lines_output e.read e.written e.is;
        }

    -- if the reader failed, all whole lines
    pub run_wholes : (to : State) (contents : Option (List ℕ)) (piece : List ℕ)
        (left : Option (List ℕ)) (holds : List (List ℕ) → List (List ℕ) → Type 0)
        → Loops LineSteps start false to contents piece left holds
        → Exchanges IsWholeOutput start.unread left start.held contents
    run_wholes to contents piece left holds a =
        let e = answers_wholes LineSteps start to contents piece left holds nothing a in record {
          read = e.read;
          written = e.written;
          consumes = e.consumes;
          appends = e.appends;
          related = subst (λ (t : List ℕ). IsOutput t e.written) (same_wholes e.read)
              (lines_output (up_to_last e.read) e.written e.is);
        }

    -- whatever failed, what was written begins an answer
    pub run_begins : (contents left : Option (List ℕ)) (finds : Option (List (List ℕ)) → Type 0)
        → Kept LineSteps start contents left finds
        → Exchanges IsBeginning start.unread left start.held contents
    run_begins contents left finds k =
        let e = answers_begin LineSteps may_refuse start contents left finds nothing k in
        let all = lines_output e.read (e.written ++ e.is.0) e.is.1 in record {
          read = e.read;
          written = e.written;
          consumes = e.consumes;
          appends = e.appends;
          related = (all.0, e.is.0, all.1, all.2);
        }

-- a run that read and wrote nothing
pub Exchanges-none : (left held : Option (List ℕ)) → Exchanges IsBeginning left left held held
Exchanges-none left held = record {
  read = [];
  written = [];
  consumes = Consumes-none left;
  appends = Appends-none held;
  related = ([], [], refl, tt);
}
