use Rattle.std.proofs.Common.{◌∙◌, ap, sym, map, List}
use Rattle.std.proofs.lemmas.List.{append-nil}
use Rattle.meta_types.specs.declared.rows.ContentRow.{ContentRow}
use Rattle.table_sweep.specs.Owned.{owns_blob}
use Rattle.table_sweep.proofs.OwnedBlobs.{owned_step}
use Rattle.table_sweep.proofs.blobs.own_blobs.Goals as goal

pub loop-i-init : goal.loop-i-init
loop-i-init c = record {
  long = c.requires.owned;
  made = λ before is. is ∙ ap (λ (l : List ContentRow). map (owns_blob l) c.args.blobs.now)
      (sym (append-nil before));
}

pub loop-i-preserved : goal.loop-i-preserved
loop-i-preserved c = record {
  long = c.own_blob.ensures.length ∙ c.loop-i.invariant.long;
  made = λ before is.
      owned_step c.args.blobs.now c.args.mask.now c.args.rows.now c.loop-i.i _
      c.index-rows-i.result before c.loop-i.owned.items _ c.requires.mask c.loop-i-test.true
      c.index-rows-i.is (c.loop-i.invariant.made before is) c.own_blob.ensures.marks;
}
