use Rattle.std.proofs.Common.{subst, ℕ, List}
use Rattle.journal.specs.Reads.{IsCut}
use Rattle.journal.proofs.rereading.read_some.Goals as goal

pub returns-clause-cut : goal.returns-clause-cut
returns-clause-cut g c clean =
    subst (λ (b : List ℕ). IsCut b c.cut_block-cut.new.block.items c.cut_block-cut.result)
    (c.in_ok-read.ensures.bytes clean) c.cut_block-cut.ensures
