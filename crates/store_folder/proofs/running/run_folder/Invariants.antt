use Rattle.std.proofs.Common.{take, ◌&&◌}
use Rattle.store_folder.proofs.running.run_folder.Given as goal

-- the page of the file that counts
abbrev pub ghosts-run_paged-K-Page : goal.ghosts-run_paged-K-Page
ghosts-run_paged-K-Page g a = record { page = take 4096 (g.E.Log.text a.folder.file) }

-- what was read of both files
abbrev pub ghosts-run_paged-K-Earlier : goal.ghosts-run_paged-K-Earlier
ghosts-run_paged-K-Earlier g a = record {
  was_clean = g.E.Log.is_clean a.folder.file && g.D.Disk.is_clean a.folder.spare;
}
