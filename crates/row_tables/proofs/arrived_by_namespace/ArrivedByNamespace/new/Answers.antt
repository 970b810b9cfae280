use Rattle.row_tables.proofs.HousedListings.{nothing_housed}
use Rattle.row_tables.proofs.arrived_by_namespace.ArrivedByNamespace.new.Goals as goal

pub invariant_of-result : goal.invariant_of-result
invariant_of-result g c =
    nothing_housed g.K.Named.texts_of g.R.NamedRow.name_of g.R.GroupedRow.group_of
    c.with_hasher.result.entries c.with_hasher.ensures.empty
