use Rattle.std.proofs.Common.{[], Bool, true, false, ◌&&◌}
use Rattle.std.specs.Prelude.{IsTrue}
use Rattle.std.proofs.lemmas.Bool.{false≢true}
use Rattle.store_folder.proofs.Runs.{as_log, as_folder, answers_turned}
use Rattle.store_folder.proofs.running.run_paged.Goals as goal

both_so : (a b : Bool) → IsTrue a → IsTrue b → IsTrue (a && b)
both_so true b one two = two
both_so false b one two = absurd (false≢true one)

-- what was read before the run
pub invariant_of-log : goal.invariant_of-log
invariant_of-log g c = record {
  reads = λ one two.
      rw (← c.requires.reads) (both_so _ _ (rw c.new.ensures.same at one) two);
}

-- what was answered
pub returns-clause-answers : goal.returns-clause-answers
returns-clause-answers g c =
    answers_turned _ _ _ _ _ _ _ _ _ _ _ c.run_lines-stop.ensures.answers
    (λ kept holds. rw (c.new.ensures.same, c.new-2.ensures.items)
    (as_log g.K.Page.page _ _ _ _ _ _ _ _ _ _ kept (g.met.E.Counting.stays c.args.folder.file)
    c.requires.page holds))
    (λ lines has. rw c.into_log.ensures.same
    (as_folder g.K.Page.page _ _ _ _ _ _ _ _ _ _ _ lines []
    (c.run_lines-stop.new.log.journal.log.paged has.has.reads) has))

-- what a start may find
pub returns-clause-kept : goal.returns-clause-kept
returns-clause-kept g c kept holds =
    rw c.into_log.ensures.same
    (c.run_lines-stop.ensures.kept kept (rw (c.new.ensures.same, c.new-2.ensures.items)
    (as_log g.K.Page.page _ _ _ _ _ _ _ _ _ _ kept (g.met.E.Counting.stays c.args.folder.file)
    c.requires.page holds)))

-- no read answers what isn't there since
pub returns-clause-reads : goal.returns-clause-reads
returns-clause-reads g c right =
    c.run_lines-stop.new.log.reads (rw c.into_log.ensures.same at right.0) right.1
