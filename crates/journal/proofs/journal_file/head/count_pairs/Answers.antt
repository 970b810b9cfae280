use Rattle.std.proofs.Common.{◌∙◌, sym, arith}
use Rattle.journal.proofs.Pairs.{one_pair_more, no_pair_more, no_mark_more}
use Rattle.journal.proofs.journal_file.head.count_pairs.Goals as goal

pub counting-preserved : goal.counting-preserved
counting-preserved c =
    let i = c.counting.invariant in
    let less = c.counting-test.true in
    let counts = i.counts in
    let more = one_pair_more c.args.marks.now c.counting.steps (omega (arith, less, c.requires))
    (sym c.has_pair.ensures ∙ c.if-not-has_pair.false) in
    record { bound = omega (arith, less); counts = omega (arith, counts, more) }

pub returns-then-not-has_pair-clause-count : goal.returns-then-not-has_pair-clause-count
returns-then-not-has_pair-clause-count c =
    let counts = c.counting.invariant.counts in
    let none = no_pair_more c.args.marks.now c.counting.steps
    (omega (arith, c.counting-test.true, c.requires))
    (sym c.has_pair.ensures ∙ c.if-not-has_pair.true) in
    omega (arith, counts, none)

pub returns-clause-count : goal.returns-clause-count
returns-clause-count c =
    let counts = c.counting.invariant.counts in
    let none = no_mark_more c.args.marks.now c.counting.steps
    (omega (arith, c.counting-test.false, c.requires)) in
    omega (arith, counts, none)
