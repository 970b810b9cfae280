use Rattle.std.proofs.Common.{◌∷◌, [], ◌∙◌, refl}
use Rattle.meta_types.specs.Keys.{is_before}
use Rattle.meta_types.specs.Explanations.{name_of}
use Rattle.explaining.specs.ThingRows.{thing_of}
use Rattle.explaining.proofs.order.goes_before.Goals as goal

-- from the last texts of the keys to the first
pub returns : goal.returns
returns c =
    let name = name_of (thing_of c.args.a) in
    let other = name_of (thing_of c.args.b) in
    let modes = c.place_before-modes.ensures [] [] refl in
    let names = c.name_before-names.ensures ((c.mode_place.result ∷ []) ∷ []) ((c.mode_place-2.result ∷ []) ∷ []) modes in
    let groups = c.text_before-groups.ensures (name ∷ (c.mode_place.result ∷ []) ∷ []) (other ∷ (c.mode_place-2.result ∷ []) ∷ []) names in
    let spaces = c.text_before-namespaces.ensures (c.group_of.result.now ∷ name ∷ (c.mode_place.result ∷ []) ∷ []) (c.group_of-2.result.now ∷ other ∷ (c.mode_place-2.result ∷ []) ∷ []) groups in
    c.place_before.ensures (c.namespace_of.result.now ∷ c.group_of.result.now ∷ name ∷ (c.mode_place.result ∷ []) ∷ [])
    (c.namespace_of-2.result.now ∷ c.group_of-2.result.now ∷ other ∷ (c.mode_place-2.result ∷ []) ∷ []) spaces
    ∙ (λ i. is_before ((c.kind_place.ensures i ∷ []) ∷ c.namespace_of.ensures i ∷ c.group_of.ensures i ∷ name ∷ (c.mode_place.ensures i ∷ []) ∷ [])
    ((c.kind_place-2.ensures i ∷ []) ∷ c.namespace_of-2.ensures i ∷ c.group_of-2.ensures i ∷ other ∷ (c.mode_place-2.ensures i ∷ []) ∷ []))
