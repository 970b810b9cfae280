use Rattle.std.proofs.Common.{◌∙◌, refl, subst, ap}
use Rattle.row_tables.specs.Arrived.{one_text, sorted}
use Rattle.back_model.specs.Objects.{AreOrderedBlobs}
use Rattle.back_model.proofs.Digests.{held_is, ordered}
use Rattle.back_model.proofs.mem_blobs.MemBlobsBlobBackend.holds.Goals as goal

-- one has the digest where it is held
pub returns-clause-holds : goal.returns-clause-holds
returns-clause-holds c = c.has.ensures ∙ held_is c.args.digest.now c.args.digest.now c.self.inside.digests (sorted one_text c.args.self.now) refl (ap (sorted one_text) c.self.view_is)

-- the table's order is that of the bytes
pub returns-clause-order : goal.returns-clause-order
returns-clause-order c = subst AreOrderedBlobs (ap (sorted one_text) c.self.view_is) (ordered (sorted one_text c.self.inside.digests) c.rows-digests.ensures.order)
