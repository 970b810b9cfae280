use Rattle.std.proofs.Common.{◌≡◌, length, arith}
use Rattle.journal.proofs.Writing.{read_is}
use Rattle.journal.proofs.journal_file.format.read_line.Goals as goal

pub returns-in-Ok-clause-bytes : goal.returns-in-Ok-clause-bytes
returns-in-Ok-clause-bytes g c clean =
    let size : length c.read_at.new.buf ≡ 17 = c.read_at.auto.buf in
    read_is 0 17 (g.D.Disk.seen c.args.disk.now) c.read_at.new.buf size
    (λ some. c.in-Ok.ensures.read clean (omega arith))
