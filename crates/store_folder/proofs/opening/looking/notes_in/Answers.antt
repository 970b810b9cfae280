use Rattle.store_folder.proofs.OpeningPages.{reads_behind}
use Rattle.store_folder.proofs.opening.looking.notes_in.Goals as goal

pub returns-clause-witness : goal.returns-clause-witness
returns-clause-witness c =
    reads_behind 512 c.args.page.now c.behind.result.now c.in_ok-witness.witness c.behind.ensures
    c.in_ok-witness.ensures
