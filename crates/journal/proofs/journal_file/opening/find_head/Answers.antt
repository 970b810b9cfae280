use Rattle.std.proofs.Common.{rules, ◌∙◌, ap, sym, Err, List, ℕ, length, take, drop}
use Rattle.journal.specs.Head.{is_blank, IsHead}
use Rattle.journal.proofs.ReadHeads.{found_some, file_headed, file_damaged, file_other}
use Rattle.journal.proofs.journal_file.opening.find_head.Goals.{in-Ok+in-None-1, in-Err-1}
use Rattle.journal.proofs.journal_file.opening.find_head.Goals as goal

-- the head is damaged, and no part of a new one
pub returns-in-Err-clause-damaged : goal.returns-in-Err-clause-damaged
returns-in-Err-clause-damaged g c is clean =
    let before = c.is_new.ensures.clean clean in
    file_damaged _ c.deref.result.now c.in_ok-size.size c.min-count.result
    (c.in_ok-size.ensures.size (c.read_block.ensures.clean before)) c.min-count.ensures
    (c.deref.ensures.value ∙ c.in_ok-read_block.ensures.bytes before
    ∙ ap (λ (t : List ℕ). take c.min-count.result (drop 0 t)) c.size_of.ensures.seen)
    (c.in-Err.ensures.damaged (ap Err c.in-Err.ensures.failed))

pub returns-in-Ok-Some-clause-some : goal.returns-in-Ok-Some-clause-some
returns-in-Ok-Some-clause-some g c clean =
    file_headed _ c.deref.result.now c.in_ok-size.size c.min-count.result
    (c.in_ok-size.ensures.size (c.read_block.ensures.clean clean)) c.min-count.ensures
    (c.deref.ensures.value ∙ c.in_ok-read_block.ensures.bytes clean
    ∙ ap (λ (t : List ℕ). take c.min-count.result (drop 0 t)) c.size_of.ensures.seen)
    c.in-Ok-Some.steps
    (found_some (λ (k : ℕ). IsHead c.deref.result.now c.in_ok-size.size k)
    c.read_head-head.result c.in-Ok-Some.field-0 c.in-Ok-Some.steps c.in-Ok-Some.is
    (rw c.in-Ok-Some.is at c.in-Ok-Some.field-0-is) c.read_head-head.ensures.some)

pub returns-in-Ok-Some-clause-seen : goal.returns-in-Ok-Some-clause-seen
returns-in-Ok-Some-clause-seen g c = c.read_block.ensures.seen ∙ c.size_of.ensures.seen

-- its front is no part of a new one, or what follows isn't zeros
pub returns-in-Ok-clause-unknown : goal.returns-in-Ok-clause-unknown
returns-in-Ok-clause-unknown g c is clean =
    let before = c.is_new.ensures.clean clean in
    let same = c.read_block.ensures.seen ∙ c.size_of.ensures.seen in
    let size = c.in_ok-size.ensures.size (c.read_block.ensures.clean before) in (
      ap is_blank (sym same)
          ∙ sym (c.in_ok-is_new.ensures.ok c.min-count.result clean (size ∙ ap length (sym same))
          (c.in_ok-read_block.ensures.bytes before
          ∙ ap (λ (t : List ℕ). take c.min-count.result (drop 0 t))
          (sym c.read_block.ensures.seen)))
          ∙ c.if-branch.false,
      file_other _ c.deref.result.now c.in_ok-size.size c.min-count.result size c.min-count.ensures
          (c.deref.ensures.value ∙ c.in_ok-read_block.ensures.bytes before
          ∙ ap (λ (t : List ℕ). take c.min-count.result (drop 0 t)) c.size_of.ensures.seen)
          (elim c.match-head.branch [
            | in-Ok+in-None-1 w ↦ search rules
            | in-Err-1 w ↦ search rules
          ]),
    )
