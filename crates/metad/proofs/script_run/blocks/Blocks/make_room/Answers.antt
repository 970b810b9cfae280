use Rattle.std.proofs.KnownBytes.{Keeps-refl}
use Rattle.metad.proofs.script_run.blocks.Blocks.make_room.Goals as goal

-- there is room
pub returns : goal.returns
returns g c = Keeps-refl _
