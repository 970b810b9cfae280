use Rattle.std.proofs.Common.{subst, []}
use Rattle.meta_types.specs.Labels.{LabelList, labels_of}
use Rattle.meta_types.specs.Updates.{takes_pairs}
use Rattle.request_core.specs.Follows.{ReadsTexts}
use Rattle.request_core.proofs.PairLabels.{over_none, taken_none}
use Rattle.request_core.proofs.read.labels.read_labels.Goals as goal

-- they go over none
pub returns : goal.returns
returns c =
    let pairs = c.args.pairs.now in
    subst (λ b. ReadsTexts c.read_labels_over.result b (labels_of pairs)) (taken_none pairs)
    (subst (λ (labels : LabelList). ReadsTexts c.read_labels_over.result (takes_pairs pairs [])
    labels) (over_none pairs)
    (rw c.new.ensures at c.read_labels_over.ensures))
