use Rattle.std.proofs.Common.{rules}
use Rattle.back_model.proofs.Sets.{without_one}
use Rattle.back_model.proofs.mem_ingests.MemIngestsIngestBackend.remove.Goals as goal

-- the number goes
pub returns-clause-ok : goal.returns-clause-ok
returns-clause-ok c = rw (c.remove.ensures.keys, ← c.self.view_is) (without_one c.args.number c.self.inside.numbers.keys (search rules))
