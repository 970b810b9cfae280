use Rattle.store_folder.proofs.OpeningHeads.{text_size}
use Rattle.store_folder.proofs.opening.headed.HeadedFileLog.size.Goals as goal

pub returns-clause-size : goal.returns-clause-size
returns-clause-size g c clean =
    let it = c.args.self.now in
    text_size _ it.steps it.size (it.headed c.if-not-self.false clean) it.sized.0
