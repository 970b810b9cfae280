use Rattle.std.proofs.Common.{◌∙◌}
use Rattle.gc_report.proofs.Among.{among}
use Rattle.gc_report.proofs.difference.is_among.Goals as goal

-- halving finds an item that is there
pub returns : goal.returns
returns g c =
    c.is_ok.ensures.value
    ∙ among g.T.PartialEq.eq g.T.Ord.cmp g.met.T.Ord.total g.met.T.Ord.matches_eq
    c.args.sorted.now c.args.item.now
    c.binary_search.result c.requires c.binary_search.ensures.bound c.binary_search.ensures.position
