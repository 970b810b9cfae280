use Rattle.std.proofs.Common.{◌∙◌, ap, sym, length, List, subst}
use Rattle.std.specs.List.Sorted.{IsPermutation}
use Rattle.std.proofs.lemmas.List.{length-map}
use Rattle.object_tables.specs.Calls.{kept}
use Rattle.meta_types.specs.Text.{Text}
use Rattle.meta_types.specs.declared.rows.ContentRow.{ContentRow}
use Rattle.table_sweep.specs.Masks.{gone}
use Rattle.table_sweep.specs.Owned.{owns_blob}
use Rattle.table_sweep.proofs.Alike.{digests_alike}
use Rattle.table_sweep.proofs.OwnedBlobs.{gone_sorted}
use Rattle.table_sweep.proofs.Unnamed.{marks_tell}
use Rattle.table_sweep.proofs.blobs.removed_blobs.Goals as goal

-- each blob has a mark
pub unowned-requires : goal.unowned-requires
unowned-requires c = ap length (c.deref.ensures.value ∙ c.in_ok-owned.ensures.ok) ∙ length-map
    c.args.blobs.now _ ∙ sym (ap length c.rows.ensures.rows)

pub returns-clause-ok : goal.returns-clause-ok
returns-clause-ok c =
    let rows : List ContentRow = kept c.args.mask.now c.args.rows.now in
    let same : IsPermutation (gone c.in_ok-owned.owned.items c.args.blobs.now)
    c.in_ok-gone.gone.items =
    subst (λ (l : List Text). IsPermutation l c.in_ok-gone.gone.items)
    (λ i. gone (c.deref.ensures.value i) (c.rows.ensures.rows i)) c.in_ok-gone.ensures.ok in
    c.in_ok-digests.ensures.ok ∙ digests_alike _ c.in_ok-gone.gone.items same
    ∙ gone_sorted (owns_blob rows) c.args.blobs.now c.in_ok-owned.owned.items
    c.rows.ensures.distinct c.in_ok-owned.ensures.ok

-- and what is marked stays beside them
pub returns-clause-marks : goal.returns-clause-marks
returns-clause-marks c =
    let rows : List ContentRow = kept c.args.mask.now c.args.rows.now in
    marks_tell (owns_blob rows) c.args.blobs.now c.in_ok-digests.digests.items
    c.in_ok-owned.owned.items c.in_ok-owned.ensures.ok (returns-clause-ok c)
