use Rattle.std.proofs.Common.{List, map, sym, subst, ℤ}
use Rattle.gc_graph.specs.Stored.{records_of}
use Rattle.explaining.specs.ThingRows.{thing_of}
use Rattle.explaining.specs.LastPaths.{AreRising, IsLastOf}
use Rattle.explaining.specs.Questions.{asked_by}
use Rattle.explaining.proofs.LastPaths.{all_ends, last_of_all}
use Rattle.explaining.proofs.explain_rows.ended_path.Goals as goal

pub last_path-requires-clause-order : goal.last_path-requires-clause-order
last_path-requires-clause-order c =
    subst AreRising (sym c.deref.ensures.value) c.in_ok-ends.ensures.order

-- of the ends of all roots before the moment the last is the last moment
pub returns-clause-ok : goal.returns-clause-ok
returns-clause-ok c =
    let records = records_of c.args.rows.now in
    let asked = asked_by c.args.question in
    last_of_all records asked c.args.at.0 c.requires.none c.in_ok-ends.ends.items
    (all_ends c.args.rows.now c.args.at.0 c.in_ok-ends.ends.items c.in_ok-ends.ensures.all)
    (map thing_of c.in_ok-path.path.items)
    (subst (λ (l : List ℤ). IsLastOf records asked l (map thing_of c.in_ok-path.path.items))
    c.deref.ensures.value c.in_ok-path.ensures.ok)
