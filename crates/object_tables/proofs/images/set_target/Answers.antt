use Rattle.std.proofs.Common.{◌∷◌, [], ◌∙◌}
use Rattle.meta_types.specs.Rows.{image_key}
use Rattle.object_tables.specs.Edits.{with_target}
use Rattle.row_tables.proofs.ChangedThere.{became}
use Rattle.object_tables.proofs.OrderStays.{nothing_to_change}
use Rattle.object_tables.proofs.images.set_target.Goals as goal

-- the row that was found has the target
pub returns-in-Some-clause-left : goal.returns-in-Some-clause-left
returns-in-Some-clause-left c =
    let done = c.in-Some.ensures.changed in
    became image_key (c.args.ns.now ∷ c.args.name.now ∷ []) (with_target c.args.target) done.0 done.1 c.args.images.now c.change.new.self done.3 done.2

-- what isn't there isn't changed
pub returns-in-None-clause-left : goal.returns-in-None-clause-left
returns-in-None-clause-left c =
    c.in-None.ensures.same ∙ nothing_to_change image_key (c.args.ns.now ∷ c.args.name.now ∷ []) (with_target c.args.target) c.args.images.now c.in-None.ensures.absent
