use Rattle.std.proofs.Common.{◌∙◌, sym}
use Rattle.kept_store.proofs.loading.load_all.Goals as goal

pub returns-clause-ended : goal.returns-clause-ended
returns-clause-ended g c whole =
    sym c.in_ok-load_lines.ensures.goes_on ∙ c.if-progress.false
