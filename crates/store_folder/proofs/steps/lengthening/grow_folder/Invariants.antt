use Rattle.std.proofs.Common.{take}
use Rattle.store_folder.proofs.steps.lengthening.grow_folder.Given as goal

-- the page of the file that counts
abbrev pub ghosts-grow_paged : goal.ghosts-grow_paged
ghosts-grow_paged g a = record { page = take 4096 (g.E.Log.text a.folder.file) }
