use Rattle.std.proofs.Common.{◌∷◌, []}
use Rattle.object_tables.specs.Children.{family_names}
use Rattle.object_tables.proofs.NamesAfter.{names_set}
use Rattle.object_tables.proofs.children.Snapshots.set.Goals as goal

-- labels and data are no part of the names
pub invariant_of-self : goal.invariant_of-self
invariant_of-self c = names_set c.self.inside.rows (family_names c.self.inside.families)
    c.self.invariant
    (c.args.at.now.ns ∷ c.args.at.now.snapshotter ∷ c.args.at.now.name ∷ [])
    (λ row. c.args.labels) (λ row. c.args.extra)
    c.set_snap.new.table c.set_snap.ensures.left
