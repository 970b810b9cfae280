use Rattle.std.proofs.Common.{◌∙◌, refl}
use Rattle.table_sweep.proofs.Sought.{any_true}
use Rattle.table_sweep.proofs.places.has_any.Goals as goal

pub returns : goal.returns
returns c = c.contains.ensures.value ∙ any_true _ refl refl c.args.goes.now
