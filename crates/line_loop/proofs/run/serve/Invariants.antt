use Rattle.std.proofs.Common.{List, ℕ, [], false}
use Rattle.std.specs.Io.KnownBytes.{Consumes}
use Rattle.line_loop.specs.Reads.{IsReady}
use Rattle.line_loop.specs.Runs.{from, Answers}
use Rattle.line_loop.specs.Progress.{Runs}
use Rattle.line_loop.proofs.run.serve.Given as goal

abbrev pub invariant-serving : goal.invariant-serving
invariant-serving g l = record {
  runs : (kept : List (List ℕ)) → g.L.LineLog.holds l.fn.log kept []
      → Runs g.S.Service.steps (from l.fn.service kept
      (g.W.Write.contents l.fn.writer) l.fn.buffers.waiting.line.items
      (g.R.Read.remaining l.fn.reader))
      (g.L.LineLog.holds l.log) l.service l.buffers.waiting.replies.items
      (g.W.Write.contents l.writer) (g.R.Read.remaining l.reader)
      l.buffers.waiting.line.items [];
  answers : (kept : List (List ℕ)) → g.L.LineLog.holds l.fn.log kept []
      → Answers g.S.Service.steps (from l.fn.service kept
      (g.W.Write.contents l.fn.writer) l.fn.buffers.waiting.line.items
      (g.R.Read.remaining l.fn.reader)) false l.service
      (g.W.Write.contents l.writer) l.buffers.waiting.line.items
      (g.R.Read.remaining l.reader) (g.L.LineLog.holds l.log);
  goes : (read : List ℕ)
      × Consumes (g.R.Read.remaining l.fn.reader) (g.R.Read.remaining l.reader) read;
  settled : g.L.LineLog.settled l.fn.log → g.L.LineLog.settled l.log;
  ready : IsReady l.buffers.block.items l.buffers.waiting.line.items
      l.buffers.waiting.replies.items;
}
