use Rattle.std.proofs.Common.{◌∙◌, ap, sym, ◌*◌, arith}
use Rattle.std.specs.List.{list_any}
use Rattle.std.proofs.lemmas.List.{take_rest}
use Rattle.journal.specs.Head.{marks_of, is_there}
use Rattle.journal.proofs.ReadHeads.{is_first, long_enough, feed_to, gap_to, too_short, no_byte, read_is_head}
use Rattle.journal.proofs.journal_file.head.read_head.Goals as goal

pub returns-then-head-ne-HEAD-clause-damaged : goal.returns-then-head-ne-HEAD-clause-damaged
returns-then-head-ne-HEAD-clause-damaged c is = (
  is_first c.args.head.now _ c.has_first_line.ensures c.if-not-has_first_line.false,
  λ steps head.
      let long = long_enough c.args.head.now head.feed in
      c.if-head-ne-HEAD.true (omega (arith, long, c.requires)),
)

pub returns-then-head-ne10-clause-damaged : goal.returns-then-head-ne10-clause-damaged
returns-then-head-ne10-clause-damaged c is = (
  is_first c.args.head.now _ c.has_first_line.ensures c.if-not-has_first_line.false,
  λ steps head. c.if-head-ne10.true (feed_to c.args.head.now head.feed),
)

pub returns-then-head-ne0-clause-damaged : goal.returns-then-head-ne0-clause-damaged
returns-then-head-ne0-clause-damaged c is = (
  is_first c.args.head.now _ c.has_first_line.ensures c.if-not-has_first_line.false,
  λ steps head. c.if-head-ne0.true (gap_to c.args.head.now head.gap),
)

pub returns-then-has_byte-clause-damaged : goal.returns-then-has_byte-clause-damaged
returns-then-has_byte-clause-damaged c is = (
  is_first c.args.head.now _ c.has_first_line.ensures c.if-not-has_first_line.false,
  λ steps head.
      let k = c.count_pairs-steps.result in
      no_byte c.args.head.now c.args.size steps k c.has_byte.result
      c.count_pairs-steps.ensures.count
      (c.has_byte.ensures ∙ ap (list_any is_there) (take_rest (marks_of c.args.head.now) (2 * k)))
      c.if-has_byte.true head,
)

pub returns-then-end_of-size-clause-damaged : goal.returns-then-end_of-size-clause-damaged
returns-then-end_of-size-clause-damaged c is = (
  is_first c.args.head.now _ c.has_first_line.ensures c.if-not-has_first_line.false,
  λ steps head. too_short c.args.head.now c.args.size steps c.count_pairs-steps.result
      c.end_of.result c.count_pairs-steps.ensures.count c.end_of.ensures c.if-end_of-size.true
      head,
)

pub returns-clause-some : goal.returns-clause-some
returns-clause-some c =
    let k = c.count_pairs-steps.result in
    read_is_head c.args.head.now c.args.size k c.end_of.result (record {
      long = c.if-head-ne-HEAD.false;
      line = is_first c.args.head.now _ c.has_first_line.ensures c.if-not-has_first_line.false;
      marks = sym c.has_other.ensures ∙ c.if-has_other.false;
      selector = sym c.has_other-2.ensures ∙ c.if-has_other-2.false;
      count = c.count_pairs-steps.ensures.count;
      later = sym (c.has_byte.ensures
          ∙ ap (list_any is_there) (take_rest (marks_of c.args.head.now) (2 * k)))
          ∙ c.if-has_byte.false;
      gap = c.if-head-ne0.false;
      feed = c.if-head-ne10.false;
    }) c.end_of.ensures c.if-end_of-size.false
