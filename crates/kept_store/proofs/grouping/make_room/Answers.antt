use Rattle.std.proofs.Common.{◌∙◌}
use Rattle.std.specs.Prelude.{IsTrue}
use Rattle.kept_store.proofs.grouping.make_room.Goals as goal

-- a growth more
pub growing-preserved : goal.growing-preserved
growing-preserved g c =
    let i = c.growing.invariant in
    record {
      keeps = λ first groups clean has.
          let calm : IsTrue (g.E.Log.is_clean c.growing.journal.log) = rw i.calm clean in
          c.in_ok-has_grown.ensures.ok first groups calm (i.keeps first groups clean has);
      waits = c.has_grown.ensures.waits ∙ i.waits;
      calm = c.has_grown.ensures.calm ∙ i.calm;
    }

pub returns-then-has_grown-clause-ok : goal.returns-then-has_grown-clause-ok
returns-then-has_grown-clause-ok g c first groups clean has =
    let i = c.growing.invariant in
    let calm : IsTrue (g.E.Log.is_clean c.growing.journal.log) = rw i.calm clean in
    c.in_ok-has_grown.ensures.ok first groups calm (i.keeps first groups clean has)
