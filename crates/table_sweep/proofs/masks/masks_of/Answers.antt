use Rattle.std.proofs.Common.{◌∙◌, sym, arith}
use Rattle.std.proofs.lemmas.Simd.{map-map}
use Rattle.meta_types.specs.Paths.{image_stays, lease_stays}
use Rattle.meta_types.specs.Rows.{Records}
use Rattle.gc_graph.specs.Stored.{records_of}
use Rattle.table_sweep.proofs.Numbered.{ingests_are, content_are, snapshots_are}
use Rattle.table_sweep.proofs.masks.masks_of.Goals as goal

pub returns-clause-ok : goal.returns-clause-ok
returns-clause-ok c =
    let rows = c.args.rows.now in
    let records : Records = records_of rows in
    let book = c.args.book.now in
    let i_long = c.len-ingests.ensures in
    let c_long = c.len-content.ensures in
    let s_long = c.len-snapshots.ensures in
    record {
      images = c.in_ok-image_mask.ensures.ok ∙ sym (map-map (image_stays rows.profile c.args.at.0) (λ row. row.now) rows.images.now);
      leases = c.in_ok-lease_mask.ensures.ok ∙ sym (map-map (lease_stays c.args.at.0) (λ row. row.now) rows.leases.now);
      ingests = c.in_ok-mask_of_one.ensures.ok ∙ ingests_are records book c.requires.numbered c.requires.once c.args.marks.now c.args.at.0 _ i_long;
      content = c.in_ok-mask_of_both.ensures.ok ∙ content_are records book c.requires.numbered c.requires.once c.args.marks.now c.args.at.0 _ _ _ i_long (omega (arith, i_long, c_long)) c_long;
      snapshots = c.in_ok-mask_of_both-2.ensures.ok ∙ snapshots_are records book c.requires.numbered c.requires.once c.args.marks.now c.args.at.0 _ _ _ (omega (arith, i_long, c_long)) (omega (arith, i_long, c_long, s_long)) s_long;
    }
