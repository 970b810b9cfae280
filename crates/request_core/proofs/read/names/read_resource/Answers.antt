use Rattle.std.specs.Prelude.{is_some}
use Rattle.meta_types.specs.Resources.{resource_of}
use Rattle.request_core.proofs.Refusals.{not_read}
use Rattle.request_core.proofs.read.names.read_resource.Goals as goal

-- the resource isn't allowed, or memory ran out
pub returns-in-Err : goal.returns-in-Err
returns-in-Err c = not_read Unit _ c.in-Err.fault (is_some (resource_of c.args.kind.now c.args.resource.now)) _ c.reading.result c.reading.ensures (rw (c.text.ensures, c.text-2.ensures) at c.in-Err.ensures.fault)
