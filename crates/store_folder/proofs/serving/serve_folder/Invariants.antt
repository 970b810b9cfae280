use Rattle.std.proofs.Common.{[]}
use Rattle.std.specs.Prelude.{IsTrue}
use Rattle.journal.specs.Crashes.{Only}
use Rattle.journal.specs.Head.{believed, Texts}
use Rattle.line_loop.specs.Runs.{from}
use Rattle.store_folder.specs.Logs.{HoldsFolder}
use Rattle.store_folder.specs.Serves.{Goes, Stands}
use Rattle.store_folder.proofs.serving.serve_folder.Given as goal

-- what was read is answered, and lines stand that make the service, if no read answered what isn't
-- there
abbrev pub invariant-serving : goal.invariant-serving
invariant-serving g l =
    let first = l.fn.begins.folder in
    let now = l.paused.folder in
    record {
      right : IsTrue (g.D.Disk.is_clean now.file.disk) × IsTrue (g.D.Disk.is_clean now.spare)
          → IsTrue (g.D.Disk.is_clean first.file.disk) × IsTrue (g.D.Disk.is_clean first.spare);
      goes : IsTrue (g.D.Disk.is_clean now.file.disk) × IsTrue (g.D.Disk.is_clean now.spare)
          → Stands (g.S.Source.makes l.fn.service) (HoldsFolder first.card first.is_second
          first.first (g.D.Disk.is_clean first.file.disk)
          (believed (g.D.Disk.seen first.file.disk)) (Texts (g.D.Disk.may_leave first.file.disk))
          (g.D.Disk.may_leave first.file.disk) (g.D.Disk.may_leave first.spare) first.last
          first.end)
          → Goes g.S.Service.steps
          (from l.fn.service [] (g.W.Write.contents l.fn.streams.writer) l.fn.streams.buffers
          (g.R.Read.remaining l.fn.streams.reader)) l.service
          (g.W.Write.contents l.streams.writer) l.streams.buffers
          (g.R.Read.remaining l.streams.reader);
      stands : IsTrue (g.D.Disk.is_clean now.file.disk) × IsTrue (g.D.Disk.is_clean now.spare)
          → Stands (g.S.Source.makes l.fn.service) (HoldsFolder first.card first.is_second
          first.first (g.D.Disk.is_clean first.file.disk)
          (believed (g.D.Disk.seen first.file.disk)) (Texts (g.D.Disk.may_leave first.file.disk))
          (g.D.Disk.may_leave first.file.disk) (g.D.Disk.may_leave first.spare) first.last
          first.end)
          → Stands (g.S.Source.makes l.service) (HoldsFolder now.card now.is_second now.first
          (g.D.Disk.is_clean now.file.disk) (believed (g.D.Disk.seen now.file.disk))
          (Texts (g.D.Disk.may_leave now.file.disk)) (g.D.Disk.may_leave now.file.disk)
          (g.D.Disk.may_leave now.spare) now.last now.end);
      rests : IsTrue (g.D.Disk.is_clean now.file.disk)
          → Only (believed (g.D.Disk.seen now.file.disk))
          (Texts (g.D.Disk.may_leave now.file.disk));
    }
