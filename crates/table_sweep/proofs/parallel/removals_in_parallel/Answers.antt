use Rattle.std.proofs.Common.{◌≡◌}
use Rattle.meta_types.specs.Backends.{no_objects, removed_objects}
use Rattle.gc_graph.specs.Stored.{records_of}
use Rattle.table_sweep.specs.Backed.{lists_of, left_by}
use Rattle.table_sweep.specs.BlobMarks.{AreBlobMarks}
use Rattle.table_sweep.specs.InKeyOrder.{names_in_key_order}
use Rattle.table_sweep.specs.Stays.{gone_names}
use Rattle.table_sweep.proofs.Carried.{carried, weaker}
use Rattle.table_sweep.proofs.parallel.removals_in_parallel.Goals as goal

pub both-requires-clause-names : goal.both-requires-clause-names
both-requires-clause-names g c = c.find_both-found.ensures.first.0

pub both-requires-clause-objects : goal.both-requires-clause-objects
both-requires-clause-objects g c = c.find_both-found.ensures.second.0

pub returns-clause-removed : goal.returns-clause-removed
returns-clause-removed g c =
    carried (λ gone. gone.removed)
    (λ r. r ≡ names_in_key_order (gone_names (records_of c.args.rows.now) c.args.masks.now))
    c.find_both-found.result.0 c.both.result c.both.ensures.removed c.find_both-found.ensures.first.1

pub returns-clause-objects : goal.returns-clause-objects
returns-clause-objects g c =
    weaker _ _ c.both.result (λ gone both. both.0)
    (carried (λ gone. (gone.backend, gone.blobs))
    (λ made. (made.0 ≡ removed_objects (left_by (records_of c.args.rows.now) c.args.masks.now)
    no_objects (lists_of c.args.back.now))
    × AreBlobMarks made.0.blobs c.args.back.now.blobs.now made.1.items)
    c.find_both-found.result.1 c.both.result c.both.ensures.objects c.find_both-found.ensures.second.1)

pub returns-clause-blobs : goal.returns-clause-blobs
returns-clause-blobs g c =
    weaker _ _ c.both.result (λ gone both. both.1)
    (carried (λ gone. (gone.backend, gone.blobs))
    (λ made. (made.0 ≡ removed_objects (left_by (records_of c.args.rows.now) c.args.masks.now)
    no_objects (lists_of c.args.back.now))
    × AreBlobMarks made.0.blobs c.args.back.now.blobs.now made.1.items)
    c.find_both-found.result.1 c.both.result c.both.ensures.objects c.find_both-found.ensures.second.1)
