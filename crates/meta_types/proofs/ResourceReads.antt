-- What a reader of resources answers, where it has found out the type.
use Rattle.std.proofs.Common.{◌≡◌, Bool, true, false, refl, sym, subst}
use Rattle.std.specs.Prelude.{Some, None, is_some, Result, cond}
use Rattle.meta_types.specs.Faults.{Refuses, unless}
use Rattle.meta_types.specs.declared.resource.Resource.{Resource}
use Rattle.meta_types.specs.declared.fault.Fault.{Fault}
use Rattle.meta_types.specs.declared.fault.Fault.TheVariants.{InvalidArgument}

-- there is one exactly where the test holds
pub is_some_if : {X : Type 0} (b : Bool) (x : X) → is_some (cond b (Some x) None) ≡ b
is_some_if true x = refl
is_some_if false x = refl

-- a refusal by one test is a refusal by an equal test
pub refuses_as : (r : Result Resource Fault) (a b : Bool) → b ≡ a → Refuses r (unless a InvalidArgument) → Refuses r (unless b InvalidArgument)
refuses_as r a b e h = subst (λ (t : Bool). Refuses r (unless t InvalidArgument)) (sym e) h
