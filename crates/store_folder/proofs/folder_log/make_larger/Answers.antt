use Rattle.line_loop.proofs.JournalLines.{read_so}
use Rattle.store_folder.proofs.folder_log.make_larger.Goals as goal

pub returns-then-room_in-clause-crash : goal.returns-then-room_in-clause-crash
returns-then-room_in-clause-crash g c first groups clean has out left =
    read_so first _ _ _ _ groups has out left
