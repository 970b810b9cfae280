-- What is known of one of two results, carried to what is made of both.
use Rattle.std.proofs.Common.{◌≡◌, subst}
use Rattle.std.specs.Prelude.{Result, Ok, Err, IfOk}

-- what holds of a value holds where the value went
pub carried : {A G E : Type 0} (of : G → A) (P : A → Type 0) (one : Result A E) (made : Result G E)
    → IfOk made (λ g. one ≡ Ok (of g)) → IfOk one P → IfOk made (λ g. P (of g))
carried of P one (Ok g) is has = subst (λ r. IfOk r P) is has
carried of P one (Err e) is has = tt

-- so does what follows from it
pub weaker : {G E : Type 0} (P Q : G → Type 0) (made : Result G E) → ((g : G) → P g → Q g)
    → IfOk made P → IfOk made Q
weaker P Q (Ok g) follows has = follows g has
weaker P Q (Err e) follows has = tt
