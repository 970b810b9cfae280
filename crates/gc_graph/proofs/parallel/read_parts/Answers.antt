use Rattle.std.proofs.Common.{◌≡◌, ◌<◌, None, max, map, ap, ◌∙◌, arith}
use Rattle.std.specs.Prelude.{IfOk}
use Rattle.rayon.proofs.ListFacts.{AllZip-weaken}
use Rattle.rayon.specs.Lists.{chunks_of}
use Rattle.meta_types.specs.Faults.{Refuses}
use Rattle.meta_types.specs.declared.fault.Fault.{Fault}
use Rattle.gc_graph.proofs.Collected.{ok_rows, refused_alike}
use Rattle.gc_graph.proofs.Parts.{joined_parts, of_full, of_flat}
use Rattle.gc_graph.proofs.parallel.read_parts.Goals as goal

pub returns-clause-fault : goal.returns-clause-fault
returns-clause-fault g c =
    let h = c.in_ok-made.ensures in
    let each = rw c.map.ensures.f at h.1.2 in
    let each_none = AllZip-weaken _ (λ z x. Refuses x None) (λ z x q. q.0) h.1.0 h.0 each in
    refused_alike c.in_ok-made.made _ h.1.0 h.0 each_none h.2

pub returns-clause-full : goal.returns-clause-full
returns-clause-full g c =
    let h = c.in_ok-made.ensures in
    let made = c.in_ok-made.made in
    let slice = ap (λ it. it.slice.now) c.map.ensures.base ∙ c.par_chunks.ensures.slice in
    let wide = ap (λ it. it.size) c.map.ensures.base ∙ c.par_chunks.ensures.size in
    let each = rw c.map.ensures.f at h.1.2 in
    let target = g.R.RowReader.full_of c.args.reader.now in
    let size = max c.args.size 1 in
    let some : 0 < size = omega arith in
    let each_ok =
    AllZip-weaken _ (λ z x. IfOk x (λ part. part.0 ≡ map target z.now)) (λ z x q. of_full _ _ x q.1)
    h.1.0 h.0 each in
    let parts = chunks_of size c.args.rows.now in
    joined_parts target size some (λ part. part.0) made c.args.rows.now
    (ok_rows Fault (λ part. part.0) (map target) made _ parts h.1.0 h.0
    (h.1.1 ∙ (λ i. chunks_of (max (wide i) 1) (slice i))) each_ok h.2)

pub returns-clause-flat : goal.returns-clause-flat
returns-clause-flat g c =
    let h = c.in_ok-made.ensures in
    let made = c.in_ok-made.made in
    let slice = ap (λ it. it.slice.now) c.map.ensures.base ∙ c.par_chunks.ensures.slice in
    let wide = ap (λ it. it.size) c.map.ensures.base ∙ c.par_chunks.ensures.size in
    let each = rw c.map.ensures.f at h.1.2 in
    let target = g.R.RowReader.flat_of c.args.reader.now in
    let size = max c.args.size 1 in
    let some : 0 < size = omega arith in
    let each_ok =
    AllZip-weaken _ (λ z x. IfOk x (λ part. part.1 ≡ map target z.now)) (λ z x q. of_flat _ _ x q.1)
    h.1.0 h.0 each in
    let parts = chunks_of size c.args.rows.now in
    joined_parts target size some (λ part. part.1) made c.args.rows.now
    (ok_rows Fault (λ part. part.1) (map target) made _ parts h.1.0 h.0
    (h.1.1 ∙ (λ i. chunks_of (max (wide i) 1) (slice i))) each_ok h.2)
