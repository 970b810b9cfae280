use Rattle.std.proofs.Common.{ap, sym, [], take, Bool, if◌then◌else◌}
use Rattle.journal.specs.Head.{believed}
use Rattle.store_folder.proofs.taking.write_blank.Goals as goal

-- the page is known where no read answered bytes that aren't there
pub write_paged-requires : goal.write_paged-requires
write_paged-requires g c = (
  c.type_bounds.sync-T,
  (
    λ clean. clean,
    (
      c.requires.rests,
      (
        λ clean. sym (ap (λ (b : Bool). if b
            then take 4096 (believed (g.D.Disk.seen c.args.file.disk)) else []) clean),
        c.requires.zeros,
      ),
    ),
  ),
)
