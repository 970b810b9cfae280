use Rattle.std.proofs.Common.{sym, subst, drop}
use Rattle.journal.specs.Crashes.{Only}
use Rattle.journal.specs.Growth.{Behind}
use Rattle.journal.specs.Head.{believed, Texts}
use Rattle.metad.proofs.serving.serve_named.Goals as goal

-- what was just opened rests, and so does its text
pub begin-requires-clause-rests : goal.begin-requires-clause-rests
begin-requires-clause-rests g c κs within =
    subst (λ f. Only (drop f.from (believed (g.D.Disk.seen f.log.disk)))
    (Behind f.from (Texts (g.D.Disk.may_leave f.log.disk))))
    (sym c.telling-file.ensures) c.in-Ok.ensures
