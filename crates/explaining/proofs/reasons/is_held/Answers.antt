use Rattle.std.proofs.Common.{◌∙◌, sym, ap, map, is_some, Bor, Option}
use Rattle.std.specs.Prelude.{option_map}
use Rattle.meta_types.specs.Paths.{is_resource}
use Rattle.meta_types.specs.declared.resource.Resource.{Resource}
use Rattle.explaining.specs.ThingRows.{thing_of}
use Rattle.explaining.proofs.ReasonEdges.{found_if_any}
use Rattle.explaining.proofs.Searches.{find_at, find_past, find_end}
use Rattle.explaining.proofs.reasons.is_held.Goals as goal

pub returns-then-is_resource : goal.returns-then-is_resource
returns-then-is_resource c =
    let p = λ (held : Resource). is_resource held c.args.mode (thing_of c.args.thing) in
    let f = λ (r : Bor Resource). r.now in
    sym (sym (found_if_any p (λ (x : Resource). x) (map f c.args.resources.now))
    ∙ ap (λ (o : Option Resource). is_some (option_map (λ (x : Resource). x) o)) (find_at p f c.args.resources.now c.loop-resource.resource-index c.resource-item.result c.loop-resource.invariant c.loop-resource-test.true c.resource-item.is (sym c.is_resource.ensures ∙ c.if-is_resource.true)))

pub loop-resource-preserved : goal.loop-resource-preserved
loop-resource-preserved c =
    find_past (λ (held : Resource). is_resource held c.args.mode (thing_of c.args.thing)) (λ (r : Bor Resource). r.now) c.args.resources.now c.loop-resource.resource-index c.resource-item.result c.loop-resource.invariant c.loop-resource-test.true c.resource-item.is (sym c.is_resource.ensures ∙ c.if-is_resource.false)

pub returns : goal.returns
returns c =
    let p = λ (held : Resource). is_resource held c.args.mode (thing_of c.args.thing) in
    let f = λ (r : Bor Resource). r.now in
    sym (sym (found_if_any p (λ (x : Resource). x) (map f c.args.resources.now))
    ∙ ap (λ (o : Option Resource). is_some (option_map (λ (x : Resource). x) o)) (find_end p f c.args.resources.now c.loop-resource.resource-index c.loop-resource.invariant c.loop-resource-test.false))
