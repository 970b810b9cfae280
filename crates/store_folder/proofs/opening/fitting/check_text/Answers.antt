use Rattle.journal.specs.Reading.{found}
use Rattle.journal.specs.Notes.{first_sum}
use Rattle.store_folder.proofs.opening.fitting.check_text.Goals as goal

pub returns-then-takes_less-clause-part : goal.returns-then-takes_less-clause-part
returns-then-takes_less-clause-part g c clean =
    let calm = c.is_kept_if.ensures.clean clean in
    let groups = (found (first_sum c.args.card) (g.L.Log.text c.args.log.now)).groups in
    c.in_ok-has_part.ensures.kept clean c.if-not-has_part.false groups
    (rw c.end_of_groups.ensures.same (c.in-Ok.ensures.within calm))
    (rw c.end_of_groups.ensures.same (c.in-Ok.ensures.groups calm))

pub returns-clause-part : goal.returns-clause-part
returns-clause-part g c clean =
    let two = c.is_kept_if-3.ensures.clean clean in
    let one = c.is_kept_if-2.ensures.clean two in
    let calm = c.is_kept_if.ensures.clean one in
    let groups = (found (first_sum c.args.card) (g.L.Log.text c.args.log.now)).groups in
    c.in_ok-has_part.ensures.kept one c.if-not-has_part.false groups
    (rw c.end_of_groups.ensures.same (c.in-Ok.ensures.within calm))
    (rw c.end_of_groups.ensures.same (c.in-Ok.ensures.groups calm))

-- each note was looked for
pub returns-clause-kept : goal.returns-clause-kept
returns-clause-kept g c clean whole =
    let two = c.is_kept_if-3.ensures.clean clean in
    let one = c.is_kept_if-2.ensures.clean two in
    let calm = c.is_kept_if.ensures.clean one in
    let groups = (found (first_sum c.args.card) (g.L.Log.text c.args.log.now)).groups in
    let within = c.in-Ok.ensures.within calm in
    let text = c.in-Ok.ensures.groups calm in
    record {
      part = c.in_ok-has_part.ensures.kept one c.if-not-has_part.false groups
          (rw c.end_of_groups.ensures.same within) (rw c.end_of_groups.ensures.same text);
      kept_own = c.in_ok-has_own.ensures.kept two c.if-not-has_own.false groups
          (rw (c.is_kept_if.ensures.same, c.end_of_groups.ensures.same) within)
          (rw (c.is_kept_if.ensures.same, c.end_of_groups.ensures.same) text);
      kept_other = c.in_ok-has_other.ensures.kept clean c.if-not-has_other.false groups
          (rw (
            c.is_kept_if-2.ensures.same,
            c.is_kept_if.ensures.same,
            c.end_of_groups.ensures.same,
          ) within)
          (rw (
            c.is_kept_if-2.ensures.same,
            c.is_kept_if.ensures.same,
            c.end_of_groups.ensures.same,
          ) text);
    }
