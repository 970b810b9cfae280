use Rattle.std.proofs.Common.{◌∙◌, ap, sym}
use Rattle.meta_types.specs.Time.{instant_of}
use Rattle.kept_store.specs.Clocked.{asked_moment}
use Rattle.kept_store.proofs.run.moments.asked_moment.Goals as goal

-- the text that is read is the one of the line
pub returns-in-Collect : goal.returns-in-Collect
returns-in-Collect c =
    c.read_instant.ensures.moment ∙ ap instant_of c.text.ensures
    ∙ sym (ap asked_moment c.in-Collect.is)

pub returns-in-Remove : goal.returns-in-Remove
returns-in-Remove c =
    c.read_instant-in-Remove.ensures.moment ∙ ap instant_of c.text-in-Remove.ensures
    ∙ sym (ap asked_moment c.in-Remove.is)

pub returns-in-Explain : goal.returns-in-Explain
returns-in-Explain c =
    c.read_instant-in-Explain.ensures.moment ∙ ap instant_of c.text-in-Explain.ensures
    ∙ sym (ap asked_moment c.in-Explain.is)

pub returns-in-Impact : goal.returns-in-Impact
returns-in-Impact c =
    c.read_instant-in-Impact.ensures.moment ∙ ap instant_of c.text-in-Impact.ensures
    ∙ sym (ap asked_moment c.in-Impact.is)
