use Rattle.std.proofs.Common.{◌∷◌, []}
use Rattle.meta_types.specs.Labels.{put_label}
use Rattle.object_tables.specs.Children.{family_names}
use Rattle.object_tables.proofs.NamesAfter.{names_labelled}
use Rattle.object_tables.proofs.children.Snapshots.relabel.Goals as goal

-- labels are no part of the names
pub invariant_of-self : goal.invariant_of-self
invariant_of-self c = names_labelled c.self.inside.rows (family_names c.self.inside.families) c.self.invariant
    (c.args.at.now.ns ∷ c.args.at.now.snapshotter ∷ c.args.at.now.name ∷ [])
    (λ row. put_label c.args.key.now c.args.value.now row.labels)
    c.relabel_snap.new.table c.relabel_snap.result c.relabel_snap.ensures.ok c.relabel_snap.ensures.err
