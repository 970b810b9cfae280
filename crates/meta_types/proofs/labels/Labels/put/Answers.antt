use Rattle.meta_types.proofs.LabelLemmas.{stored_after}
use Rattle.meta_types.proofs.labels.Labels.put.Goals as goal

-- what the old labels could take leaves stored labels
pub invariant_of-self : goal.invariant_of-self
invariant_of-self c = stored_after c.args.key.now c.args.value.now c.self.inside.entries.items c.put_in.new.entries.items c.put_in.result c.put_in.ensures.fault c.put_in.ensures.ok c.put_in.ensures.err c.self.invariant
