use Rattle.std.proofs.Common.{◌∙◌, sym, refl, ap}
use Rattle.std.specs.Prelude.{is_some}
use Rattle.row_tables.specs.Arrived.{one_text, sorted}
use Rattle.back_model.proofs.Digests.{held_is, left_is}
use Rattle.back_model.proofs.mem_blobs.MemBlobsBlobBackend.remove.Goals as goal

-- no row has the digest
pub returns-in_default-clause-fault : goal.returns-in_default-clause-fault
returns-in_default-clause-fault c = sym (held_is c.args.digest.now c.args.digest.now c.self.inside.digests (sorted one_text c.args.self.now) refl (ap (sorted one_text) c.self.view_is)) ∙ ap is_some (sym c.in_default.ensures.row)

-- a row has it
pub returns-clause-fault : goal.returns-clause-fault
returns-clause-fault c = (sym (held_is c.args.digest.now c.args.digest.now c.self.inside.digests (sorted one_text c.args.self.now) refl (ap (sorted one_text) c.self.view_is)) ∙ ap is_some (sym c.in-Some.ensures.row), refl)

-- it goes
pub returns-clause-ok : goal.returns-clause-ok
returns-clause-ok c = c.take.ensures.left ∙ left_is c.args.digest.now (sorted one_text c.self.inside.digests) (sorted one_text c.args.self.now) c.rows-digests.ensures.order (ap (sorted one_text) c.self.view_is)
