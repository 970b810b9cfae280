use Rattle.std.proofs.Common.{◌∙◌, ap, sym}
use Rattle.request_line.specs.Lines.{are_labels}
use Rattle.request_line.specs.LineMembers.{value_of}
use Rattle.request_line.proofs.LineMembers.{are_texts-texts}
use Rattle.request_line.proofs.check.are_labels.Goals as goal

-- an object of texts
pub returns-in-Labels : goal.returns-in-Labels
returns-in-Labels c =
    sym (ap (λ v. are_labels (value_of v)) c.in-Labels.is ∙ are_texts-texts c.in-Labels.field-0.items)
