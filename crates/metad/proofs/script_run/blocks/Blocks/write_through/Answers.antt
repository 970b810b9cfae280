use Rattle.metad.proofs.Through.{written_through}
use Rattle.metad.proofs.script_run.blocks.Blocks.write_through.Goals as goal

-- nothing is kept back before what the writer takes
pub returns-in-Ok-clause-bytes : goal.returns-in-Ok-clause-bytes
returns-in-Ok-clause-bytes g c =
    written_through _ c.in-Ok.ensures.ok _ _ _ c.write.result c.args.buf.now
    c.hand_on.ensures.bytes c.write.ensures.bytes
