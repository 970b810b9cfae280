-- On the answer to a line.
use Rattle.std.proofs.Common.{◌≡◌, ◌∙◌, ◌<◌, ◌≤◌, ◌==◌, ℕ, List, [], ◌∷◌, length, Option, Some, None, Result, Ok, Err, refl, sym, true, false, nat_lt, arith, inl, inr, subst}
use Rattle.std.specs.Result.{IsErrAnd, IfErr}
use Rattle.std.specs.Prelude.{IfOk}
use Rattle.std.proofs.lemmas.Bool.{both_ways}
use Rattle.std.proofs.lemmas.Bool.Decides.{nat_tests}
use Rattle.meta_types.specs.declared.fault.Fault.{Fault}
use Rattle.meta_types.specs.declared.fault.Fault.TheVariants.{OutOfMemory, TooLong}
use Rattle.meta_types.specs.Rows.{State}
use Rattle.meta_types.specs.Steps.{refused}
use Rattle.meta_types.specs.Questions.{QuestionAnswer, LineAnswer, of_event}
use Rattle.request_line.specs.Lines.{command_in}
use Rattle.request_line.specs.Refusals.{IsUnread}
use Rattle.request_line.specs.declared.command.Command.{Command}
use Rattle.reply_line.specs.Explained.{line_answer_text}
use Rattle.scripts.specs.LineSteps.{Supplied, out_of_memory, no_worker, gives, command_step, answer_step, line_step, IsLineAnswer, IsTrueOf, IsTrueAt}
use Rattle.scripts.specs.Lines.{short_request, with_line_feed}
use Rattle.scripts.specs.Served.{IsServed, IsRefused}

pub some_byte : (n : ℕ) → 0 < n → (n == 0) ≡ false
some_byte n some = grind (arith, nat_tests)

not_empty : (n : ℕ) → 65536 < n → (n == 0) ≡ false
not_empty n long = grind (arith, nat_tests)

is_long : (n : ℕ) → 65536 < n → nat_lt 65536 n ≡ true
is_long n long = grind (arith, nat_tests)

-- a line that is too long
pub line_step-long : (state : State) (line : List ℕ) → 65536 < length line
    → line_step state None
    line ≡ (with_line_feed (line_answer_text (of_event (refused TooLong))), state)
unfolding line_step
line_step-long state line long = rw (not_empty (length line) long, is_long (length line) long) refl

-- an empty line
pub line_step-empty : (state : State) (supplied : Option Supplied) (line : List ℕ)
    → (length line == 0) ≡ true → line_step state supplied line ≡ ([], state)
unfolding line_step
line_step-empty state supplied line none = rw none refl

is_short : (n : ℕ) → n ≤ 65536 → nat_lt 65536 n ≡ false
is_short n short = grind (arith, nat_tests)

module _ (state : State) (line : List ℕ) (short : length line ≤ 65536) where
  -- a line that asks for something
  asks : (command : Command) → command_in line ≡ Some command → short_request line ≡ Some command
  asks command e = rw (is_short (length line) short, e) refl

  step-command : (given : QuestionAnswer) (command : Command) → command_in line ≡ Some command
      → answer_step state (Some (gives given)) line ≡ command_step state given command
  step-command given command e = rw (is_short (length line) short, e) refl

  -- a line that can't be read
  pub step-unread : (fault : Fault) → IsUnread (command_in line) fault
      → IsLineAnswer state line (of_event (refused fault)) state
  step-unread fault u = elim u [
    | inl e ↦ (Some out_of_memory, rw e refl, tt)
    | inr e ↦ (None, rw (is_short (length line) short, e.1, e.0) refl, tt)
  ]

  -- what it asks for is done
  served_line : (command : Command) (answer : LineAnswer) (new : State) → command_in line
      ≡ Some command
      → IsServed state command answer new → IsLineAnswer state line answer new
  served_line command answer new e s = (
    Some (gives s.1),
    step-command s.1 command e
        ∙ s.2,
    subst (λ (what : Option Command). IsTrueOf state what answer) (sym (asks command e))
        s.0,
  )

  -- what it asks for is refused
  refused_line : (command : Command) (fault : Fault) (new : State) → command_in line ≡ Some command
      → IsRefused state command fault new → IsLineAnswer state line (of_event (refused fault)) new
  refused_line command fault new e r = elim r [
    | inl f ↦ (Some out_of_memory, (λ i. (of_event (refused (sym f.0 i)), sym f.1 i)), tt)
    | inr f ↦ elim f [
      | inl n ↦ (Some no_worker, rw (is_short (length line) short, e, n.1, n.0, n.2) refl, tt)
      | inr s ↦ served_line command (of_event (refused fault)) new e s
    ]
  ]

  -- the same of what a call answers
  pub served_call : {T : Type 0} (of : T → LineAnswer) (result : Result T Fault) (command : Command)
      (new : State) → command_in line ≡ Some command
      → IfOk result (λ x. IsServed state command (of x) new)
      → IfOk result (λ x. IsLineAnswer state line (of x) new)
  served_call of (Ok x) command new e s = served_line command (of x) new e s
  served_call of (Err fault) command new e s = tt

  pub refused_call : {T : Type 0} (result : Result T Fault) (command : Command) (new : State)
      → command_in line ≡ Some command → IfErr result (λ fault. IsRefused state command fault new)
      → IfErr result (λ fault. IsLineAnswer state line (of_event (refused fault)) new)
  refused_call (Ok x) command new e r = tt
  refused_call (Err fault) command new e r = refused_line command fault new e r

-- a line that isn't empty is answered
pub line_step-answer : (state : State) (supplied : Option Supplied) (line : List ℕ)
    (answer : LineAnswer) (new : State) → (length line == 0) ≡ false
    → answer_step state supplied line ≡ (answer, new)
    → line_step state supplied line ≡ (with_line_feed (line_answer_text answer), new)
unfolding line_step
line_step-answer state supplied line answer new full e = rw (full, e) refl

-- what is right of the answer is right of the step
pub true_at : (state : State) (supplied : Option Supplied) (line : List ℕ) (answer : LineAnswer)
    (new : State) → answer_step state supplied line ≡ (answer, new)
    → IsTrueOf state (short_request line) answer
    → IsTrueAt state supplied line
true_at state supplied [] answer new e right = tt
true_at state supplied (byte ∷ line) answer new e right =
    subst (λ (step : LineAnswer × State). IsTrueOf state (short_request (byte ∷ line)) step.0)
    (sym e) right

-- an empty line asks for nothing
pub true_at_empty : (state : State) (supplied : Option Supplied) (line : List ℕ)
    → (length line == 0) ≡ true → IsTrueAt state supplied line
true_at_empty state supplied [] empty = tt
true_at_empty state supplied (byte ∷ line) empty =
    absurd (both_ways (length (byte ∷ line) == 0)
    (some_byte (length (byte ∷ line)) (omega arith)) empty)

-- nor does one that is too long
pub true_at_long : (state : State) (line : List ℕ) → 65536 < length line → IsTrueAt state None line
true_at_long state line long =
    true_at state None line (of_event (refused TooLong)) state
    (rw (is_long (length line) long) refl) tt

-- memory may refuse any line
pub true_at_memory : (state : State) (line : List ℕ) → IsTrueAt state (Some out_of_memory) line
true_at_memory state [] = tt
true_at_memory state (byte ∷ line) = tt

-- what a line is answered that is too long: a thread that is missing refuses no such line
abbrev long_answer : Option Supplied → LineAnswer
long_answer None = of_event (refused TooLong)
long_answer (Some out_of_memory) = of_event (refused OutOfMemory)
long_answer (Some no_worker) = of_event (refused TooLong)
long_answer (Some (gives given)) = of_event (refused TooLong)

answer_long : (state : State) (supplied : Option Supplied) (line : List ℕ) → 65536 < length line
    → answer_step state supplied line ≡ (long_answer supplied, state)
answer_long state None line long = rw (is_long (length line) long) refl
answer_long state (Some out_of_memory) line long = refl
answer_long state (Some no_worker) line long = rw (is_long (length line) long) refl
answer_long state (Some (gives given)) line long = rw (is_long (length line) long) refl

long_right : (state : State) (supplied : Option Supplied) (command : Option Command)
    → IsTrueOf state command (long_answer supplied)
long_right state None command = tt
long_right state (Some out_of_memory) command = tt
long_right state (Some no_worker) command = tt
long_right state (Some (gives given)) command = tt

-- such a line is answered by no more than what is supplied
pub step_long : (state : State) (supplied : Option Supplied) (line : List ℕ)
    → 65536 < length line
    → line_step state supplied line
    ≡ (with_line_feed (line_answer_text (long_answer supplied)), state)
step_long state supplied line long =
    line_step-answer state supplied line (long_answer supplied) state
    (not_empty (length line) long) (answer_long state supplied line long)

pub true_long : (state : State) (supplied : Option Supplied) (line : List ℕ)
    → 65536 < length line → IsTrueAt state supplied line
true_long state supplied line long =
    true_at state supplied line (long_answer supplied) state
    (answer_long state supplied line long)
    (long_right state supplied (short_request line))

-- `?` passes a fault on as it is
pub passed_on : {T : Type 0} (result : Result T Fault) (fault : Fault) (P : Fault → Type 0)
    → IsErrAnd result (λ other. other ≡ fault) → P fault → IfErr result P
passed_on (Ok x) fault P same p = absurd same
passed_on (Err other) fault P same p = subst P (sym same) p
