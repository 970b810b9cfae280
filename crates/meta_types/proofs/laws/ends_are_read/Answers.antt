use Rattle.meta_types.proofs.EndTextsRead.{ends_are_read}
use Rattle.meta_types.proofs.laws.ends_are_read.Goals as goal

-- the text's date, clock and fraction are those of the end
pub returns : goal.returns
returns c = ends_are_read
