use Rattle.std.proofs.Common.{◌∙◌, ap, Some}
use Rattle.meta_types.proofs.LabelPlaces.{value_found}
use Rattle.meta_types.proofs.labels.value_in.Goals as goal

-- the value stands beside the key that was found
pub returns-in-Ok : goal.returns-in-Ok
returns-in-Ok c = ap Some c.as_str.ensures.value ∙ value_found c.args.entries.now c.args.key.now c.in-Ok.place _ c.in-Ok.ensures.found c.index-entries-place.is
