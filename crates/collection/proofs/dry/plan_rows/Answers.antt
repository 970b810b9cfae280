use Rattle.meta_types.specs.Rows.{Records}
use Rattle.gc_graph.specs.Stored.{records_of}
use Rattle.gc_graph.specs.Marked.{reached_by}
use Rattle.gc_graph.proofs.MarksDecide.{tells}
use Rattle.table_sweep.proofs.RecordsArrived.{told_in_order}
use Rattle.collection.proofs.dry.plan_rows.Goals as goal

-- what is marked tells where paths end
pub returns-clause-ok : goal.returns-clause-ok
returns-clause-ok g c =
    let records : Records = records_of c.args.rows.now in
    let book = c.in_ok-book.book in
    let graph = c.in_ok-book.graph in
    let marks = c.in_ok-marks.marks in
    let at = c.args.at.0 in
    let reached = reached_by c.args.rows.now.profile book marks at in
    record {
      reached = reached;
      tells = told_in_order records at reached
          (tells records at book graph c.in_ok-book.ensures.ok marks c.in_ok-marks.ensures.marks);
      masks = c.in_ok-plan.ensures.masks;
      report_is = c.in_ok-plan.ensures.ok;
    }
