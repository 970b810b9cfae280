use Rattle.std.proofs.Common.{sym, subst, ℕ, List}
use Rattle.std.specs.Io.KnownBytes.{Appends}
use Rattle.line_loop.proofs.Writers.{Appends-Keeps, front_taken}
use Rattle.line_loop.proofs.Settled.{settles_none, settles_some, all_taken}
use Rattle.line_loop.proofs.settling.settle.Goals as goal

pub returns-in_err-commit-clause-crash : goal.returns-in_err-commit-clause-crash
returns-in_err-commit-clause-crash g c kept waiting has =
    settles_none kept waiting _ _ _ (c.commit.ensures.crash kept waiting has)

pub returns-in_err-write_bytes-clause-crash : goal.returns-in_err-write_bytes-clause-crash
returns-in_err-write_bytes-clause-crash g c kept waiting has =
    let err = front_taken _ _ _ c.in_err-write_bytes.ensures.err in
    settles_some kept waiting _ _ _ _
    (g.met.L.LineLog.found _ _ _ (c.in_ok-commit.ensures.ok kept waiting has))
    (rw (sym c.deref.ensures.value) err)

pub returns-in_err-flush-clause-crash : goal.returns-in_err-flush-clause-crash
returns-in_err-flush-clause-crash g c kept waiting has =
    settles_some kept waiting _ _ _ _
    (g.met.L.LineLog.found _ _ _ (c.in_ok-commit.ensures.ok kept waiting has))
    (all_taken _ _ _ (Appends-Keeps _ _ _ _ (rw
    (sym c.deref.ensures.value) c.in_ok-write_bytes.ensures.ok) c.flush.ensures.kept))

pub returns-clause-crash : goal.returns-clause-crash
returns-clause-crash g c kept waiting has =
    settles_some kept waiting _ _ _ _
    (g.met.L.LineLog.found _ _ _ (c.in_ok-commit.ensures.ok kept waiting has))
    (all_taken _ _ _ (Appends-Keeps _ _ _ _ (rw
    (sym c.deref.ensures.value) c.in_ok-write_bytes.ensures.ok) c.flush.ensures.kept))

pub returns-clause-written : goal.returns-clause-written
returns-clause-written g c =
    Appends-Keeps _ _ _ _ (subst (λ (t : List ℕ). Appends (g.W.Write.contents c.args.writer.now)
    (g.W.Write.contents c.write_bytes.new.writer) t) c.deref.ensures.value
    c.in_ok-write_bytes.ensures.ok) c.flush.ensures.kept
