use Rattle.std.proofs.Common.{arith}
use Rattle.meta_types.proofs.LabelPlaces.{set_texts}
use Rattle.meta_types.proofs.labels.set_value.Goals as goal

-- the entry at the place has its key, and the new value
pub returns-clause-ok : goal.returns-clause-ok
returns-clause-ok c = set_texts c.args.entries.now.items c.args.place c.index_mut.result.now c.in_ok-value.value c.args.value.now (omega (arith, c.args.entries.now.ok.0)) c.index_mut.ensures.value c.in_ok-value.ensures.ok
