use Rattle.std.proofs.Common.{◌∙◌, ap}
use Rattle.meta_types.specs.Text.{texts_of}
use Rattle.meta_types.proofs.LabelPlaces.{removed_texts}
use Rattle.meta_types.proofs.labels.remove_found.Goals as goal

-- the texts lose what the entries lose
pub returns-in-Ok-clause-there : goal.returns-in-Ok-clause-there
returns-in-Ok-clause-there c = rw c.in-Ok.is (ap texts_of c.remove-label.ensures.items ∙ removed_texts c.args.entries.now.items c.in-Ok.place)
