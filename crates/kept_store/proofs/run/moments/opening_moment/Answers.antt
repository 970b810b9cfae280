use Rattle.std.proofs.Common.{◌∙◌, ap, sym}
use Rattle.meta_types.specs.Time.{instant_of}
use Rattle.kept_store.specs.Clocked.{opening_moment}
use Rattle.kept_store.proofs.run.moments.opening_moment.Goals as goal

-- the text that is read is the one of the request
pub returns-in-IngestBegin : goal.returns-in-IngestBegin
returns-in-IngestBegin c =
    c.read_instant.ensures.moment ∙ ap instant_of c.text.ensures
    ∙ sym (ap opening_moment c.in-IngestBegin.is)

pub returns-in-IngestOpen : goal.returns-in-IngestOpen
returns-in-IngestOpen c =
    c.read_instant-in-IngestOpen.ensures.moment ∙ ap instant_of c.text-in-IngestOpen.ensures
    ∙ sym (ap opening_moment c.in-IngestOpen.is)
