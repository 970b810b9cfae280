use Rattle.std.proofs.Common.{◌∙◌, sym}
use Rattle.kept_store.proofs.Replayed.{unraised, raises}
use Rattle.kept_store.proofs.replaying.redo.Goals as goal

-- the next number is raised
pub returns-in-Some : goal.returns-in-Some
returns-in-Some g c = record {
  ok = c.raise_next.ensures
      ∙ raises c.args.store.now c.args.line.now c.in-Some.number
      (sym c.number_in.ensures ∙ c.in-Some.is);
}

-- the line may have changed the store
pub returns-then-answered : goal.returns-then-answered
returns-then-answered g c =
    let told = rw c.if-answered.true at c.in-Ok.ensures.ok.1 in
    record {
      ok = unraised c.args.store.now _ c.args.line.now (sym c.number_in.ensures ∙ c.in_default.is)
          told.0;
    }

-- a collection that changed nothing
pub returns-then-is_report : goal.returns-then-is_report
returns-then-is_report g c = record {
  ok = unraised c.args.store.now _ c.args.line.now (sym c.number_in.ensures ∙ c.in_default.is)
      (c.in-Ok.ensures.report (sym c.is_report.ensures ∙ c.if-is_report.true));
}
