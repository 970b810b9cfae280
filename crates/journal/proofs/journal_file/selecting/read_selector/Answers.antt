use Rattle.std.proofs.Common.{◌∙◌, ap, ◌==◌, List, ℕ, slice_index}
use Rattle.journal.specs.Selector.{tail_counts}
use Rattle.journal.proofs.journal_file.selecting.read_selector.Goals as goal

pub returns-clause-other : goal.returns-clause-other
returns-clause-other g c clean =
    c.judge.ensures.other ∙ ap tail_counts (c.in_ok-tail.ensures.bytes clean)

pub returns-clause-ended : goal.returns-clause-ended
returns-clause-ended g c clean =
    c.judge.ensures.ended
    ∙ ap (λ (t : List ℕ). slice_index t 4 == 10) (c.in_ok-tail.ensures.bytes clean)
