use Rattle.journal.proofs.Texts.{text_size}
use Rattle.journal.proofs.journal_file.file.JournalFileLog.size.Goals as goal

pub returns-clause-size : goal.returns-clause-size
returns-clause-size g c both =
    let it = c.args.self.now in
    let clean = both in
    text_size _ it.steps it.size (it.headed c.if-not-self.false clean)
    (it.sized c.if-not-self.false).0
