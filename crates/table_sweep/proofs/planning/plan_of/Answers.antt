use Rattle.std.proofs.Common.{◌∙◌, true, ap, arith}
use Rattle.meta_types.specs.Rows.{Records}
use Rattle.meta_types.specs.Backends.{no_objects, removed_objects}
use Rattle.gc_graph.specs.Stored.{records_of}
use Rattle.gc_graph.specs.Marked.{reached_by}
use Rattle.meta_types.specs.Collected.{collected_records}
use Rattle.row_tables.specs.Arrived.{sorted}
use Rattle.table_sweep.specs.InKeyOrder.{names_in_key_order, name_key}
use Rattle.table_sweep.specs.Backed.{lists_of}
use Rattle.table_sweep.proofs.Counted.{scanned_is, thing_count}
use Rattle.table_sweep.proofs.Planned.{fit, removed_is, kept_counts_are, left_is}
use Rattle.table_sweep.proofs.RecordsArrived.{objects_same, tables_left, removed_in_order, kept_in_order, ignored_in_order, ignored_images_in_order, scanned_in_order}
use Rattle.table_sweep.proofs.planning.plan_of.Goals as goal

pub removals_of-requires-clause-fits : goal.removals_of-requires-clause-fits
removals_of-requires-clause-fits g c κs within =
    fit (records_of c.args.rows.now) c.args.at.0 (reached_by c.args.rows.now.profile c.args.book.now c.args.marks.now c.args.at.0) c.in_ok-masks.masks c.in_ok-masks.ensures.ok

-- the masks tell of the rows as they arrived
pub returns-clause-masks : goal.returns-clause-masks
returns-clause-masks g c = c.in_ok-masks.ensures.ok

-- names are sorted, and nothing else of a report sees the order of rows
pub returns-clause-ok : goal.returns-clause-ok
returns-clause-ok g c =
    let rows = c.args.rows.now in
    let records : Records = records_of rows in
    let at = c.args.at.0 in
    let masks = c.in_ok-masks.masks in
    let are = c.in_ok-masks.ensures.ok in
    let reached = reached_by rows.profile c.args.book.now c.args.marks.now at in
    let backend = c.in_ok-gone.ensures.objects ∙ ap (λ tables. removed_objects tables no_objects (lists_of c.args.back.now)) (left_is records at reached masks are)
    ∙ objects_same (collected_records at reached records).tables (lists_of c.args.back.now)
    ∙ ap (λ tables. removed_objects tables no_objects (lists_of c.args.back.now)) (tables_left reached records.profile at records.tables) in
    let removed = c.in_ok-gone.ensures.removed ∙ ap names_in_key_order (removed_is records at reached masks are) ∙ removed_in_order records at reached in
    let kept = c.kept_of-kept.ensures ∙ kept_counts_are records at reached masks are c.args.namespaces ∙ kept_in_order records at reached c.args.namespaces in
    let ignored = c.in_ok-ignored.ensures.ok ∙ ap (sorted name_key) c.requires.ignored ∙ ignored_in_order records in
    let ignored_images = c.in_ok-ignored_images.ensures.ok ∙ ap (sorted name_key) c.requires.images ∙ ignored_images_in_order records in
    let scanned = c.count_marked-scanned.ensures ∙ scanned_is records c.args.book.now c.requires.numbered c.requires.once c.args.marks.now at c.count_nodes.result
    (omega (arith, c.count_nodes.ensures, thing_count records))
    ∙ scanned_in_order records at reached in
    λ i. record {
      backend = backend i;
      dry = true;
      failed = c.new.ensures i;
      ignored = ignored i;
      ignored_images = ignored_images i;
      kept = kept i;
      profile = records.profile;
      removed = removed i;
      scanned = scanned i;
    }

pub returns-clause-blobs : goal.returns-clause-blobs
returns-clause-blobs g c = c.in_ok-gone.ensures.blobs
