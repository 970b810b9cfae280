use Rattle.store_folder.proofs.Telling.{tells_these}
use Rattle.store_folder.proofs.laws.files_tell_one_thing.Goals as goal

-- two findings in one pair of files are one
pub returns : goal.returns
returns c = record {
  one = λ first second lines told finds tells. tells_these first second lines finds told tells;
}
