use Rattle.std.proofs.Common.{◌∙◌, sym, arith}
use Rattle.journal.proofs.Blanks.{blank_more, blank_no_more, blank_end}
use Rattle.journal.proofs.journal_file.head.is_blank.Goals as goal

pub looking-preserved : goal.looking-preserved
looking-preserved c =
    let i = c.looking.invariant in
    record {
      within = omega (arith, c.looking-test.true);
      rest = i.rest ∙ blank_more c.args.file.now c.looking.at c.looking-test.true
          (sym c.is_blank_byte.ensures ∙ c.if-not-is_blank_byte.false);
    }

pub returns-then-not-is_blank_byte : goal.returns-then-not-is_blank_byte
returns-then-not-is_blank_byte c =
    sym (c.looking.invariant.rest ∙ blank_no_more c.args.file.now c.looking.at
    c.looking-test.true (sym c.is_blank_byte.ensures ∙ c.if-not-is_blank_byte.true))

pub returns : goal.returns
returns c =
    sym (c.looking.invariant.rest ∙ blank_end c.args.file.now c.looking.at c.looking-test.false)
