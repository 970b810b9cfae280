use Rattle.std.proofs.Common.{refl}
use Rattle.journal.specs.Head.{believed}
use Rattle.store_folder.proofs.opening.recovering.disk_of.Goals as goal

pub returns-clause-same : goal.returns-clause-same
returns-clause-same g c = rw c.into_log-file.ensures.same at c.into_disk.ensures.same

-- its head and its page are those that its types name
pub returns-clause-fronts : goal.returns-clause-fronts
returns-clause-fronts g c clean file left = (
  c.into_disk.ensures.head clean file left,
  c.into_log-file.ensures.page (rw c.into_disk.ensures.same at clean) (believed file)
      (file, rw c.into_disk.ensures.same at left, refl),
)
