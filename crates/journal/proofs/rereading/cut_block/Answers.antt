use Rattle.std.proofs.Common.{◌∙◌, ap, sym, ℕ, List, ◌++◌, take, drop}
use Rattle.journal.specs.Reading.{whole_lines}
use Rattle.journal.proofs.rereading.cut_block.Goals as goal

-- the block is cut at its last line feed
pub returns : goal.returns
returns c =
    let value = c.deref.ensures.value in
    let old = c.args.block.now.items in
    let cut = c.last_end-cut.result in
    record {
      within = rw value at c.last_end-cut.ensures.within;
      splits = λ rest. rw value at (c.last_end-cut.ensures.lines rest)
          ∙ ap (λ (t : List ℕ). whole_lines t ++ whole_lines (drop cut old ++ rest))
          (sym c.truncate.ensures.items);
      none = λ at_none. (
        rw value at (c.last_end-cut.ensures.none at_none),
        c.truncate.ensures.items
            ∙ ap (λ (n : ℕ). take n old) at_none,
      );
    }
