use Rattle.meta_types.specs.Data.{is_data}
use Rattle.request_core.proofs.Refusals.{not_read}
use Rattle.request_core.proofs.read.updates.read_data.Goals as goal

-- the text isn't allowed, or memory ran out
pub returns-in-Err : goal.returns-in-Err
returns-in-Err c = not_read Unit _ c.in-Err.fault (is_data c.args.text.now) _ c.reading.result
    c.reading.ensures (rw c.text.ensures at c.in-Err.ensures.fault)
