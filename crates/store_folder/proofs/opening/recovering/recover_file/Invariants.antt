use Rattle.std.proofs.Common.{take}
use Rattle.journal.specs.Head.{believed}
use Rattle.store_folder.proofs.opening.recovering.recover_file.Given as goal

-- the head of the file
abbrev pub ghosts-recover_headed-K-Head : goal.ghosts-recover_headed-K-Head
ghosts-recover_headed-K-Head g a = record { head = take 4096 (g.D.Disk.seen a.disk) }

-- and its page
abbrev pub ghosts-recover_headed-K-Page : goal.ghosts-recover_headed-K-Page
ghosts-recover_headed-K-Page g a = record { page = take 4096 (believed (g.D.Disk.seen a.disk)) }
