-- A line as the loop hears it: of one that is too long the first 65,537 bytes.
use Rattle.std.proofs.Common.{◌≡◌, ◌∙◌, ◌≤◌, ◌<◌, sym, subst, ℕ, List, length, take, true, false, nat_lt, arith, inl, inr}
use Rattle.std.proofs.lemmas.Bool.{cases_Bool}
use Rattle.std.proofs.lemmas.Bool.Decides.{nat_tests}
use Rattle.std.proofs.lemmas.List.{take_all, length-take-le}
use Rattle.meta_types.specs.Rows.{State}
use Rattle.line_loop.specs.Reads.{cut_long}
use Rattle.scripts.specs.StoreSteps.{Answers}
use Rattle.scripts.proofs.LineAnswers.{step_long, true_long}

short_length : (n : ℕ) → nat_lt 65536 n ≡ false → n ≤ 65537
short_length n short = grind (arith, nat_tests)

long_length : (n : ℕ) → nat_lt 65536 n ≡ true → 65536 < n
long_length n long = grind (arith, nat_tests)

-- of a line that is too long too much is heard
long_heard : (line : List ℕ) → 65536 < length line → 65536 < length (cut_long line)
long_heard line long =
    let heard : length (take 65537 line) ≡ 65537 = length-take-le 65537 line (omega (arith, long)) in
    omega (arith, heard)

-- what answers as much of a line as is heard answers the line
pub heard_answers : (old new : State) (line reply : List ℕ)
    → Answers old (cut_long line) reply new → Answers old line reply new
heard_answers old new line reply step = elim (cases_Bool (nat_lt 65536 (length line))) [
  | inl is ↦
      let long = long_length (length line) is in (
        step.0,
        step_long old step.0 line long
            ∙ sym (step_long old step.0 (cut_long line) (long_heard line long)) ∙ step.1,
        true_long old step.0 line long,
      )
  | inr is ↦
      subst (λ (l : List ℕ). Answers old l reply new)
      (take_all 65537 line (short_length (length line) is)) step
]
