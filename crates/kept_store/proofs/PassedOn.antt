-- What `?` passes on: a refusal, and nothing that was promised of a result. Ours.
use Rattle.std.proofs.Common.{◌≡◌, ◌∙◌, sym, ap}
use Rattle.std.specs.Prelude.{Result, Ok, Err, IfOk, IsErrOf}
use Rattle.std.specs.Result.{IsErrAnd}

module _ {T E : Type 0} where
  pub nothing_given : (result : Result T E) (error : E) (P : T → Type 0)
      → IsErrAnd result (λ other. other ≡ error) → IfOk result P
  nothing_given (Ok x) error P same = absurd same
  nothing_given (Err other) error P same = tt

  -- the error of a result, or this one
  abbrev err_or : E → Result T E → E
  err_or default (Ok x) = default
  err_or default (Err error) = error

  pub same_refusal : (result : Result T E) (error refusal : E)
      → IsErrAnd result (λ other. other ≡ error) → IsErrOf result refusal → error ≡ refusal
  same_refusal (Ok x) error refusal same is = absurd same
  same_refusal (Err other) error refusal same is = sym same ∙ ap (err_or other) is
