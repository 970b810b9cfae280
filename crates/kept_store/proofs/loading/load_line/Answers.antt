use Rattle.std.proofs.Common.{◌∙◌, sym}
use Rattle.kept_store.proofs.LoadedLines.{end_loaded}
use Rattle.kept_store.proofs.loading.load_line.Goals as goal

pub returns-then-counts-clause-ok : goal.returns-then-counts-clause-ok
returns-then-counts-clause-ok g c =
    end_loaded c.args.store.now c.args.line.now (sym c.is_end.ensures ∙ c.if-is_end.true)

pub returns-clause-ok : goal.returns-clause-ok
returns-clause-ok g c =
    c.in_ok-do_line.ensures.ok (sym c.is_end.ensures ∙ c.if-is_end.false)
