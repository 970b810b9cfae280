use Rattle.std.proofs.Common.{◌∙◌, sym}
use Rattle.std.proofs.lemmas.List.{append-nil}
use Rattle.store_folder.proofs.opening.headed.HeadedFileLog.grow.Goals as goal

-- it is as it was
pub returns-clause-crash : goal.returns-clause-crash
returns-clause-crash g c clean only out left = (0, only out left ∙ sym (append-nil _))
