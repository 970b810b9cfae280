use Rattle.std.proofs.Common.{◌≡◌, ◌∙◌, sym, subst}
use Rattle.meta_types.specs.Text.{texts_of}
use Rattle.meta_types.specs.Labels.{AreStored}
use Rattle.meta_types.proofs.LabelPlaces.{copied_texts}
use Rattle.meta_types.proofs.labels.LabelsClone.clone.Goals.{In_ok-entries}
use Rattle.meta_types.proofs.labels.LabelsClone.clone.Goals as goal

-- the copies of the entries have their texts
same : (c : In_ok-entries) → texts_of c.in_ok-entries.entries.items ≡ texts_of c.self.inside.entries.items
same c = copied_texts c.self.inside.entries.items c.in_ok-entries.entries.items c.in_ok-entries.ensures.cases.0

pub returns : goal.returns
returns c = record { cases = same (goal.at.returns c).In_ok-entries ∙ c.self.view_is }

pub invariant_of-result : goal.invariant_of-result
invariant_of-result c = subst AreStored (sym (same (goal.at.invariant_of-result c).In_ok-entries)) c.self.invariant
