use Rattle.std.proofs.Common.{◌∙◌, sym, refl, ap}
use Rattle.row_tables.specs.Arrived.{one_text, sorted}
use Rattle.back_model.proofs.Digests.{held_is, put_is, free_where_made, held_where_there, free_where_refused}
use Rattle.back_model.proofs.mem_blobs.MemBlobsBlobBackend.make.Goals as goal

-- it was free
pub returns-in_default-add_new-clause-fault : goal.returns-in_default-add_new-clause-fault
returns-in_default-add_new-clause-fault c = (sym (held_is c.args.digest.now c.in-Ok.copy c.self.inside.digests (sorted one_text c.args.self.now) c.in-Ok.ensures.ok (ap (sorted one_text) c.self.view_is)) ∙ free_where_made _ c.in_default-add_new.ensures.fault, refl)

-- it goes to its place
pub returns-in_default-add_new-clause-ok : goal.returns-in_default-add_new-clause-ok
returns-in_default-add_new-clause-ok c = c.in_default-add_new.ensures.ok ∙ put_is c.args.digest.now c.in-Ok.copy c.self.inside.digests (sorted one_text c.args.self.now) c.in-Ok.ensures.ok (ap (sorted one_text) c.self.view_is) (free_where_made _ c.in_default-add_new.ensures.fault)

-- the digest is there
pub returns-in-AlreadyExists-clause-fault : goal.returns-in-AlreadyExists-clause-fault
returns-in-AlreadyExists-clause-fault c = sym (held_is c.args.digest.now c.in-Ok.copy c.self.inside.digests (sorted one_text c.args.self.now) c.in-Ok.ensures.ok (ap (sorted one_text) c.self.view_is)) ∙ held_where_there _ c.in-Err.refused c.in-Err.ensures.fault c.in-AlreadyExists.is

-- memory is asked for a new digest alone
pub returns-clause-fault : goal.returns-clause-fault
returns-clause-fault c = (sym (held_is c.args.digest.now c.in-Ok.copy c.self.inside.digests (sorted one_text c.args.self.now) c.in-Ok.ensures.ok (ap (sorted one_text) c.self.view_is)) ∙ free_where_refused _ c.in-Err.refused c.in-Err.ensures.fault c.in_default-refused.not-AlreadyExists, refl)
