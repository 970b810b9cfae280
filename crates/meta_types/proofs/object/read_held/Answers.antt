use Rattle.std.proofs.Common.{◌≡◌, Bool, refl, subst, Option, Some, None, is_some, rules}
use Rattle.std.specs.Prelude.{option_map}
use Rattle.meta_types.specs.Faults.{Refuses, unless}
use Rattle.meta_types.specs.Resources.{resource_of}
use Rattle.meta_types.specs.declared.fault.Fault.TheVariants.{InvalidArgument}
use Rattle.meta_types.specs.declared.resource.Resource.{Resource}
use Rattle.meta_types.specs.declared.object.Object.TheVariants.{Held}
use Rattle.meta_types.proofs.object.read_held.Goals as goal

-- an object is there just where its resource is
same_there : (found : Option Resource) → is_some found ≡ is_some (option_map Held found)
same_there None = refl
same_there (Some resource) = refl

pub returns-in_err-resource-clause-fault : goal.returns-in_err-resource-clause-fault
returns-in_err-resource-clause-fault c =
    subst (λ (b : Bool). Refuses c.from_residual.result (unless b InvalidArgument)) (same_there (resource_of c.args.kind.now c.args.name.now)) (Prim.search (rules))
