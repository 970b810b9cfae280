use Rattle.std.proofs.Common.{ap, Some}
use Rattle.request_line.specs.LineMembers.{value_of}
use Rattle.request_line.proofs.LineMembers.{pairs_from-texts}
use Rattle.request_line.proofs.members.pairs.labels_of.Goals as goal

-- the labels are these texts
pub returns-in_ok-pairs-in-Labels-clause-ok : goal.returns-in_ok-pairs-in-Labels-clause-ok
returns-in_ok-pairs-in-Labels-clause-ok c =
    rw (ap value_of c.in-Labels.is, pairs_from-texts c.in-Labels.texts.items)
    (ap Some (rw c.deref.ensures.value at c.in_ok-pairs-in-Labels.ensures.ok))
