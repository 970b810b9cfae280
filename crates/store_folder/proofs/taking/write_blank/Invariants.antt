use Rattle.journal.specs.Head.{believed}
use Rattle.store_folder.specs.Takings.{page_if}
use Rattle.store_folder.proofs.taking.write_blank.Given as goal

-- the page of the blank file; none where a read of it answered what isn't there
abbrev pub ghosts-write_paged-K-Page : goal.ghosts-write_paged-K-Page
ghosts-write_paged-K-Page g a = record {
  page = page_if (g.D.Disk.is_clean a.file.disk) (believed (g.D.Disk.seen a.file.disk));
}

-- whether no read of it had answered what isn't there
abbrev pub ghosts-write_paged-K-Past : goal.ghosts-write_paged-K-Past
ghosts-write_paged-K-Past g a = record { clean = g.D.Disk.is_clean a.file.disk }
