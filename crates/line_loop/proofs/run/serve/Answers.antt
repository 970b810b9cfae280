use Rattle.std.proofs.Common.{take, [], ◌++◌}
use Rattle.line_loop.proofs.Reading.{Consumes-none, Consumes-append, some_more}
use Rattle.line_loop.proofs.Keeping.{runs_begun, kept_still, runs_more, runs_still, pauses_begun, pauses_still}
use Rattle.line_loop.proofs.Stops.{stopped_reading, not_stopped}
use Rattle.line_loop.proofs.run.serve.Goals as goal

pub serving-init : goal.serving-init
serving-init g c = record {
  runs = λ kept has. runs_begun _ _ _ _ has c.requires.ready.replies_wait c.requires.ready.begun;
  answers = λ kept has. pauses_begun _ _ _ has c.requires.ready.begun;
  goes = ([], Consumes-none _);
  settled = λ settled. settled;
  ready = c.requires.ready;
}

-- the reader failed
pub returns-in_err-count-clause-kept : goal.returns-in_err-count-clause-kept
returns-in_err-count-clause-kept g c kept has =
    kept_still _ _ _ _ _ _ _ _ _ _
    (runs_still _ _ _ _ _ _ _ _ _ (c.serving.invariant.runs kept has) c.in_err-count.ensures.bytes)
    (g.met.L.LineLog.found _)

pub returns-in_err-count-clause-answers : goal.returns-in_err-count-clause-answers
returns-in_err-count-clause-answers g c =
    stopped_reading c.from_residual.result _ _ c.from_residual.ensures.1
    c.in_err-count.ensures.error
    (λ kept has. pauses_still _ _ _ _ _ _ _ _ (c.serving.invariant.answers kept has)
    c.in_err-count.ensures.bytes)

-- the last line was not answered
pub returns-in-Err-clause-kept : goal.returns-in-Err-clause-kept
returns-in-Err-clause-kept g c kept has =
    c.finish.ensures.kept _ _ (runs_more _ _ _ _ _ _ _ _ _ []
    (c.serving.invariant.runs kept has)
    (rw c.if-count-eq0.true at c.in_ok-count.ensures.bytes.0))

pub returns-in-Err-clause-answers : goal.returns-in-Err-clause-answers
returns-in-Err-clause-answers g c = not_stopped _ _ _ c.in-Err.ensures.error

-- all was read
pub returns-in-Ok-clause-kept : goal.returns-in-Ok-clause-kept
returns-in-Ok-clause-kept g c kept has =
    c.finish.ensures.kept _ _ (runs_more _ _ _ _ _ _ _ _ _ []
    (c.serving.invariant.runs kept has)
    (rw c.if-count-eq0.true at c.in_ok-count.ensures.bytes.0))

pub returns-in-Ok-clause-answers : goal.returns-in-Ok-clause-answers
returns-in-Ok-clause-answers g c kept has =
    c.in-Ok.ensures.ok _ _ (runs_more _ _ _ _ _ _ _ _ _ []
    (c.serving.invariant.runs kept has)
    (rw c.if-count-eq0.true at c.in_ok-count.ensures.bytes.0))

-- a line of a block was not answered
pub returns-in-Err-feed-clause-kept : goal.returns-in-Err-feed-clause-kept
returns-in-Err-feed-clause-kept g c kept has =
    c.feed.ensures.kept _ _ (runs_more _ _ _ _ _ _ _ _ _
    (take c.in_ok-count.count c.deref.result.now) (c.serving.invariant.runs kept has)
    (rw c.deref.ensures.value c.in_ok-count.ensures.bytes.0))

pub returns-in-Err-feed-clause-answers : goal.returns-in-Err-feed-clause-answers
returns-in-Err-feed-clause-answers g c = not_stopped _ _ _ c.in-Err-feed.ensures.error

-- the log is due
pub returns-then-is_due-clause-kept : goal.returns-then-is_due-clause-kept
returns-then-is_due-clause-kept g c kept has =
    c.feed.ensures.kept _ _ (runs_more _ _ _ _ _ _ _ _ _
    (take c.in_ok-count.count c.deref.result.now) (c.serving.invariant.runs kept has)
    (rw c.deref.ensures.value c.in_ok-count.ensures.bytes.0))

pub returns-then-is_due-clause-answers : goal.returns-then-is_due-clause-answers
returns-then-is_due-clause-answers g c kept has =
    (c.in-Ok-feed.ensures.ok _ _ (runs_more _ _ _ _ _ _ _ _ _
    (take c.in_ok-count.count c.deref.result.now) (c.serving.invariant.runs kept has)
    (rw c.deref.ensures.value c.in_ok-count.ensures.bytes.0))).0

pub returns-then-is_due-clause-gets_on : goal.returns-then-is_due-clause-gets_on
returns-then-is_due-clause-gets_on g c stop = (
  c.is_due.ensures c.if-is_due.true,
  (
    c.serving.invariant.goes.0 ++ take c.in_ok-count.count c.read_block.new.block.items,
    Consumes-append _ _ _ _ _ c.serving.invariant.goes.1 c.in_ok-count.ensures.bytes.0,
    some_more c.serving.invariant.goes.0 c.read_block.new.block.items c.in_ok-count.count
        c.in_ok-count.ensures.bound c.if-count-eq0.false,
  ),
)

pub serving-preserved : goal.serving-preserved
serving-preserved g c = record {
  runs = λ kept has. (c.in-Ok-feed.ensures.ok _ _ (runs_more _ _ _ _ _ _ _ _ _
      (take c.in_ok-count.count c.deref.result.now) (c.serving.invariant.runs kept has)
      (rw c.deref.ensures.value c.in_ok-count.ensures.bytes.0))).1;
  answers = λ kept has. (c.in-Ok-feed.ensures.ok _ _ (runs_more _ _ _ _ _ _ _ _ _
      (take c.in_ok-count.count c.deref.result.now) (c.serving.invariant.runs kept has)
      (rw c.deref.ensures.value c.in_ok-count.ensures.bytes.0))).0;
  goes = (
    c.serving.invariant.goes.0 ++ take c.in_ok-count.count c.read_block.new.block.items,
    Consumes-append _ _ _ _ _ c.serving.invariant.goes.1 c.in_ok-count.ensures.bytes.0,
  );
  settled = λ settled. c.in-Ok-feed.ensures.settled;
  ready = record {
    begun = c.in-Ok-feed.ensures.begun c.serving.invariant.ready.begun;
    replies_wait = c.in-Ok-feed.ensures.empty;
    room = rw c.read_block.ensures.room c.serving.invariant.ready.room;
  };
}

-- more blocks than a run takes
pub returns-clause-kept : goal.returns-clause-kept
returns-clause-kept g c kept has =
    kept_still _ _ _ _ _ _ _ _ _ _ (c.serving.invariant.runs kept has) (g.met.L.LineLog.found _)

pub returns-clause-answers : goal.returns-clause-answers
returns-clause-answers g c kept has = c.serving.invariant.answers kept has

-- no line waits where it stops
pub returns-in_err-count-clause-settled : goal.returns-in_err-count-clause-settled
returns-in_err-count-clause-settled g c =
    stopped_reading c.from_residual.result _ _ c.from_residual.ensures.1
    c.in_err-count.ensures.error c.serving.invariant.settled

pub returns-in-Err-clause-settled : goal.returns-in-Err-clause-settled
returns-in-Err-clause-settled g c = not_stopped _ _ _ c.in-Err.ensures.error

pub returns-in-Ok-clause-settled : goal.returns-in-Ok-clause-settled
returns-in-Ok-clause-settled g c settled = c.in-Ok.ensures.settled

pub returns-in-Err-feed-clause-settled : goal.returns-in-Err-feed-clause-settled
returns-in-Err-feed-clause-settled g c = not_stopped _ _ _ c.in-Err-feed.ensures.error

pub returns-then-is_due-clause-settled : goal.returns-then-is_due-clause-settled
returns-then-is_due-clause-settled g c settled = c.in-Ok-feed.ensures.settled

pub returns-clause-settled : goal.returns-clause-settled
returns-clause-settled g c = c.serving.invariant.settled
