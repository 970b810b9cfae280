use Rattle.std.proofs.Common.{◌≡◌, rules}
use Rattle.scripts.proofs.AnsweredRuns.{nothing_answered}
use Rattle.scripts.specs.WholeScripts.{AnswersScript, AnswersWholeLines, BeginsAnswers}
use Rattle.metad.proofs.Handing.{new_buffer, begins_anyway, some_left, of_reader, then_flushed, ended_ok, ended_err, ran_ok, ran_err, ran_of}
use Rattle.metad.proofs.script_run.run.Goals as goal

-- there was no room for a buffer: nothing was read, and nothing written
pub returns-in_default-clause-err : goal.returns-in_default-clause-err
returns-in_default-clause-err g c = (_, nothing_answered _ _)

pub returns-in_default-clause-handed_on : goal.returns-in_default-clause-handed_on
returns-in_default-clause-handed_on g c = λ other. c.requires.empty

-- a write failed
pub returns-in-Err-WriteFailed-clause-err : goal.returns-in-Err-WriteFailed-clause-err
returns-in-Err-WriteFailed-clause-err g c =
    let same =
    new_buffer g.R.Read.remaining c.in-Ok.reader c.args.reader c.in-Ok.ensures.inner
    c.in-Ok.ensures.empty c.in-Ok.ensures.capacity in
    (_, of_reader BeginsAnswers _ _ _ _ _ same c.in-Err-WriteFailed.ensures.err)

-- the flush at the end failed
pub returns-in_err-flush-in_default-run_script_with-clause-err : goal.returns-in_err-flush-in_default-run_script_with-clause-err
returns-in_err-flush-in_default-run_script_with-clause-err g c =
    let same =
    new_buffer g.R.Read.remaining c.in-Ok.reader c.args.reader c.in-Ok.ensures.inner
    c.in-Ok.ensures.empty c.in-Ok.ensures.capacity in
    some_left _ BeginsAnswers _ _ _ _
    (then_flushed BeginsAnswers _ _ _ _ _ _ same
    (begins_anyway _ _ _ _ _ c.run_script_with.ensures.ok c.run_script_with.ensures.err)
    c.flush.ensures.kept)

-- the run ended, and all was flushed
pub returns-clause-ok : goal.returns-clause-ok
returns-clause-ok g c =
    let same =
    new_buffer g.R.Read.remaining c.in-Ok.reader c.args.reader c.in-Ok.ensures.inner
    c.in-Ok.ensures.empty c.in-Ok.ensures.capacity in
    let is : c.run_script_with.result ≡ c.in_default-run_script_with-1.ran = search rules in
    ran_ok _ _ is _
    (ended_ok AnswersScript _ _ _ _ _ _ _ same c.run_script_with.ensures.end
    c.run_script_with.ensures.ok c.flush.ensures.kept)

pub returns-clause-read_failed : goal.returns-clause-read_failed
returns-clause-read_failed g c = λ read.
    let same =
    new_buffer g.R.Read.remaining c.in-Ok.reader c.args.reader c.in-Ok.ensures.inner
    c.in-Ok.ensures.empty c.in-Ok.ensures.capacity in
    let is : c.run_script_with.result ≡ c.in_default-run_script_with-1.ran = search rules in (
      _,
      then_flushed AnswersWholeLines _ _ _ _ _ _ same
          (c.run_script_with.ensures.read_failed (ran_of _ _ is _ read)) c.flush.ensures.kept,
    )

pub returns-clause-err : goal.returns-clause-err
returns-clause-err g c =
    let same =
    new_buffer g.R.Read.remaining c.in-Ok.reader c.args.reader c.in-Ok.ensures.inner
    c.in-Ok.ensures.empty c.in-Ok.ensures.capacity in
    let is : c.run_script_with.result ≡ c.in_default-run_script_with-1.ran = search rules in
    ran_err _ _ is _
    (ended_err BeginsAnswers _ _ _ _ _ _ _ same c.run_script_with.ensures.err c.flush.ensures.kept)
