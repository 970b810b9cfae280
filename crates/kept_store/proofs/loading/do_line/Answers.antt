use Rattle.kept_store.proofs.LoadedLines.{other_loaded}
use Rattle.kept_store.proofs.loading.do_line.Goals as goal

-- a line that ends no checkpoint is done as in a journal
pub returns-in-Ok : goal.returns-in-Ok
returns-in-Ok g c = record {
  ok = λ goes. other_loaded c.args.store.now _ c.args.line.now goes c.in-Ok.ensures.ok;
}
