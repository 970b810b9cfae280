use Rattle.std.proofs.Common.{◌≡◌, Bool, true, subst}
use Rattle.back_model.specs.Snaps.{Snaps, is_held, has_child}
use Rattle.backend_sweep.proofs.Children.{child_there}
use Rattle.std.specs.Prelude.{Err}
use Rattle.back_model.specs.Answers.{Removes}
use Rattle.back_model.specs.declared.faults.RemoveFault.{RemoveFault}
use Rattle.back_model.specs.declared.faults.RemoveFault.TheVariants as F
use Rattle.backend_sweep.proofs.shard.try_remove.Goals as goal

parent_is : (f : RemoveFault) (held child : Bool) → f ≡ F.HasChildren → Removes (Err f) held child → child ≡ true
parent_is f held child is h = (let at : Removes (Err F.HasChildren) held child = subst (λ (x : RemoveFault). Removes (Err x) held child) is h in at.1)

pub unreachable-requires-in-Err-HasChildren : goal.unreachable-requires-in-Err-HasChildren
unreachable-requires-in-Err-HasChildren g c =
    let m : Snaps = g.S.SnapBackend.contents c.args.shard.now in
    let child = child_there m c.args.number (parent_is c.in-Err-HasChildren.field-0 (is_held m c.args.number) (has_child m c.args.number) c.in-Err-HasChildren.field-0-is c.in-Err-HasChildren.ensures.fault) in
    c.requires.children c.if-is_above.false child.0 child.1
