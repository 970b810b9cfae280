-- A script has one output.
use Rattle.std.proofs.Common.{◌≡◌, ◌∙◌, refl, sym, ap, subst, ℕ, Bool, true, false, List, [], ◌∷◌, ◌++◌, map, drop, length, Option, Some, None, nat_lt}
use Rattle.std.specs.Prelude.{if◌then◌else◌}
use Rattle.std.specs.Option.{option_map_or}
use Rattle.meta_types.specs.Rows.{State, empty_store}
use Rattle.meta_types.specs.Sound.{IsSound}
use Rattle.meta_types.specs.Steps.{refused}
use Rattle.meta_types.specs.Explanations.{question_fault}
use Rattle.meta_types.specs.Impacts.{impact_question_fault}
use Rattle.meta_types.specs.Questions.{QuestionAnswer, explains, foresees, lists, LineAnswer, of_event, of_question}
use Rattle.meta_types.specs.declared.fault.Fault.{Fault}
use Rattle.meta_types.specs.declared.fault.Fault.TheVariants.{BadLine, TooLong}
use Rattle.request_line.specs.Lines.{command_in}
use Rattle.request_line.specs.declared.command.Command.{Command}
use Rattle.request_line.specs.declared.command.Command.TheVariants as A
use Rattle.scripts.specs.LineSteps.{Supplied, out_of_memory, no_worker, gives, supplied_answer, question_step, command_step, line_answer, answer_step, line_step, IsTrueOf, IsTrueAt}
use Rattle.scripts.specs.Lines.{short_request, with_line_feed, lines_of}
use Rattle.reply_line.specs.Explained.{line_answer_text}
use Rattle.scripts.specs.Output.{Supplies, first_supplied, output_from, AreTrue}
use Rattle.scripts.specs.OneOutput.{refused_with, EachScriptHasOneOutput}
use Rattle.scripts.proofs.OneExplanation.{each_explanation_is_one, each_impact_is_one}
use Rattle.request_core.proofs.EmptyStore.{empty_is_sound}
use Rattle.scripts.proofs.WholeScripts.{full_step, step_sound}

-- ---- a question has one answer

module _ (state : State) (s : IsSound state) (one other : QuestionAnswer) where
  asked_once : (asked : Command) → IsTrueOf state (Some asked) (command_step state one asked).0
      → IsTrueOf state (Some asked) (command_step state other asked).0
      → command_step state one asked ≡ command_step state other asked
  asked_once (A.Request request) a b = refl
  asked_once (A.Show request answer there) a b = refl
  asked_once A.BackList a b = refl
  asked_once (A.Collect at dry) a b = refl
  asked_once (A.Remove removal at) a b = refl
  asked_once (A.Explain ns kind name at) a b =
      go one other (question_fault state.records ns kind name at) a b
    where
      go : (one other : QuestionAnswer) (least : Option Fault)
          → IsTrueOf state (Some (A.Explain ns kind name at)) (question_step state one least).0
          → IsTrueOf state (Some (A.Explain ns kind name at)) (question_step state other least).0
          → question_step state one least ≡ question_step state other least
      go one other (Some fault) a b = refl
      go (explains told) (explains again) None a b = let same =
          each_explanation_is_one state s ns kind name at told again a b in
          (λ i. (of_question (explains (same i)), state))
      go (explains told) (foresees impact) None a b = absurd b
      go (explains told) (lists names) None a b = absurd b
      go (foresees impact) other None a b = absurd a
      go (lists names) other None a b = absurd a
  asked_once (A.Impact ns kind name at) a b =
      go one other (impact_question_fault state ns kind name at) a b
    where
      go : (one other : QuestionAnswer) (least : Option Fault)
          → IsTrueOf state (Some (A.Impact ns kind name at)) (question_step state one least).0
          → IsTrueOf state (Some (A.Impact ns kind name at)) (question_step state other least).0
          → question_step state one least ≡ question_step state other least
      go one other (Some fault) a b = refl
      go (foresees impact) (foresees again) None a b = let same =
          each_impact_is_one state ns kind name at impact again a b in
          (λ i. (of_question (foresees (same i)), state))
      go (foresees impact) (explains told) None a b = absurd b
      go (foresees impact) (lists names) None a b = absurd b
      go (explains told) other None a b = absurd a
      go (lists names) other None a b = absurd a

  line_once : (line : List ℕ) → IsTrueOf state (short_request line) (line_answer state one line).0
      → IsTrueOf state (short_request line) (line_answer state other line).0
      → line_answer state one line ≡ line_answer state other line
  line_once line a b = go (nat_lt 65536 (length line)) (command_in line) a b
    where
      go : (long : Bool) (asked : Option Command)
          → let first : LineAnswer × State =
          if long then (of_event (refused TooLong), state) else option_map_or
          (command_step state one) asked (of_event (refused BadLine), state)
          in let second : LineAnswer × State =
          if long then (of_event (refused TooLong), state) else option_map_or
          (command_step state other) asked (of_event (refused BadLine), state)
          in let what : Option Command = if long then None else asked
          in IsTrueOf state what first.0 → IsTrueOf state what second.0 → first ≡ second
      go true asked a b = refl
      go false None a b = refl
      go false (Some asked) a b = asked_once asked a b

-- ---- a line is answered in one way

answer_once : (state : State) → IsSound state → (supplied other : Option Supplied) (line : List ℕ)
    → refused_with supplied ≡ refused_with other
    → IsTrueOf state (short_request line) (answer_step state supplied line).0
    → IsTrueOf state (short_request line) (answer_step state other line).0
    → answer_step state supplied line ≡ answer_step state other line
answer_once state s None None line same a b = refl
answer_once state s None (Some (gives given)) line same a b =
    line_once state s (supplied_answer None) given line a b
answer_once state s (Some (gives given)) None line same a b =
    line_once state s given (supplied_answer None) line a b
answer_once state s (Some (gives given)) (Some (gives again)) line same a b =
    line_once state s given again line a b
answer_once state s (Some out_of_memory) (Some out_of_memory) line same a b = refl
answer_once state s (Some no_worker) (Some no_worker) line same a b = refl
answer_once state s None (Some out_of_memory) line same a b = absurd cc
answer_once state s None (Some no_worker) line same a b = absurd cc
answer_once state s (Some (gives given)) (Some out_of_memory) line same a b = absurd cc
answer_once state s (Some (gives given)) (Some no_worker) line same a b = absurd cc
answer_once state s (Some out_of_memory) None line same a b = absurd cc
answer_once state s (Some no_worker) None line same a b = absurd cc
answer_once state s (Some out_of_memory) (Some (gives given)) line same a b = absurd cc
answer_once state s (Some no_worker) (Some (gives given)) line same a b = absurd cc
answer_once state s (Some out_of_memory) (Some no_worker) line same a b = absurd cc
answer_once state s (Some no_worker) (Some out_of_memory) line same a b = absurd cc

step_once : (state : State) → IsSound state → (supplied other : Option Supplied) (line : List ℕ)
    → refused_with supplied ≡ refused_with other → IsTrueAt state supplied line
    → IsTrueAt state other line
    → line_step state supplied line ≡ line_step state other line
unfolding line_step
step_once state s supplied other [] same a b = refl
step_once state s supplied other (byte ∷ line) same a b =
    full_step state supplied byte line
    ∙ ap (λ (step : LineAnswer × State). (with_line_feed (line_answer_text step.0), step.1))
    (answer_once state s supplied other (byte ∷ line) same a b)
    ∙ sym (full_step state other byte line)

-- ---- so is a script

first_alike : (supplies others : Supplies) → map refused_with supplies ≡ map refused_with others
    → refused_with (first_supplied supplies) ≡ refused_with (first_supplied others)
first_alike [] [] same = refl
first_alike [] (o ∷ others) same = absurd cc
first_alike (r ∷ supplies) [] same = absurd cc
first_alike (r ∷ supplies) (o ∷ others) same = cc

rest_alike : (supplies others : Supplies) → map refused_with supplies ≡ map refused_with others
    → map refused_with (drop 1 supplies) ≡ map refused_with (drop 1 others)
rest_alike [] [] same = refl
rest_alike [] (o ∷ others) same = absurd cc
rest_alike (r ∷ supplies) [] same = absurd cc
rest_alike (r ∷ supplies) (o ∷ others) same = cc

lines_once : (state : State) → IsSound state → (supplies others : Supplies) (lines : List (List ℕ))
    → map refused_with supplies ≡ map refused_with others → AreTrue state supplies lines
    → AreTrue state others lines
    → output_from state supplies lines ≡ output_from state others lines
lines_once state s supplies others [] same a b = refl
lines_once state s supplies others (line ∷ lines) same a b =
    let supplied = first_supplied supplies in
    let other = first_supplied others in
    let step = step_once state s supplied other line (first_alike supplies others same) a.0 b.0 in
    let new = (line_step state other line).1 in
    let left : (line_step state supplied line).1 ≡ new = ap (λ (p : List ℕ × State). p.1) step in
    let right = subst (λ (now : State). AreTrue now (drop 1 supplies) lines) left a.1 in
    let rest =
    lines_once new (step_sound state other line s) (drop 1 supplies) (drop 1 others) lines
    (rest_alike supplies others same) right b.1 in
    ap (λ (p : List ℕ × State). p.0 ++ output_from p.1 (drop 1 supplies) lines) step
    ∙ ap (λ (out : List ℕ). (line_step state other line).0 ++ out) rest

-- two runs that are refused alike, and answer each question rightly, have one output
pub each_script_has_one_output : EachScriptHasOneOutput
each_script_has_one_output supplies others script same a b =
    lines_once empty_store empty_is_sound supplies others (lines_of script) same a b
