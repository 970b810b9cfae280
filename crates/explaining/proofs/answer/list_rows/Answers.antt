use Rattle.std.proofs.Common.{sym, refl, subst}
use Rattle.meta_types.specs.Rows.{Records}
use Rattle.explaining.specs.RowLists.{records_in, AreInOrder}
use Rattle.explaining.proofs.answer.list_rows.Goals as goal

-- what arrived of the tables, in the order of keys, is what they hold
pub returns-clause-ok : goal.returns-clause-ok
returns-clause-ok c =
    subst (λ (listed : Records). AreInOrder listed (records_in c.args.records.now)) (sym c.in_ok-listed.ensures.ok)
    (record {
      images = c.arrived-arrived.ensures.images;
      containers = c.arrived-arrived.ensures.containers;
      leases = c.arrived-leases.ensures;
      ingests = c.arrived-arrived.ensures.ingests;
      content = c.arrived-arrived.ensures.content;
      snapshots = c.arrived-arrived.ensures.snapshots;
      profile = refl;
    })
