use Rattle.std.proofs.Common.{Bor, List}
use Rattle.meta_types.specs.Paths.{ingest}
use Rattle.meta_types.specs.declared.rows.IngestRow.{IngestRow}
use Rattle.explaining.specs.LastPaths.{past_end}
use Rattle.explaining.proofs.InSlices.{slice_more}
use Rattle.explaining.proofs.explain_rows.ends.push_ingests.Goals as goal

pub loop-slice-preserved : goal.loop-slice-preserved
loop-slice-preserved c =
    slice_more (λ (s : Bor (List IngestRow)). s.now)
    (λ (row : IngestRow). past_end c.args.profile c.args.at.0 (ingest row))
    c.as_slices-slices.result.now c.loop-slice.slice-index c.slice-item.result
    c.args.ends.now.items c.loop-slice.ends.items c.push_ingests_in.new.ends.items
    c.loop-slice-test.true c.slice-item.is c.loop-slice.invariant
    c.in_ok-push_ingests_in.ensures.ok
