use Rattle.std.proofs.Common.{◌∙◌}
use Rattle.row_tables.proofs.HousedListings.{closed_all_rows, closed_all_apart, closed_all_full}
use Rattle.row_tables.proofs.namespaces.keep.retain_all.Goals as goal

pub returns-clause-rows : goal.returns-clause-rows
returns-clause-rows g c =
    closed_all_rows g.K.Named.texts_of g.R.NamedRow.name_of g.R.GroupedRow.group_of
    c.retain_rows.new.groups.entries c.close_all.new.groups.entries c.close_all.ensures
    ∙ c.retain_rows.ensures.rows

pub returns-clause-groups : goal.returns-clause-groups
returns-clause-groups g c =
    closed_all_apart g.K.Named.texts_of g.R.NamedRow.name_of g.R.GroupedRow.group_of
    c.retain_rows.new.groups.entries c.close_all.new.groups.entries c.close_all.ensures
    c.retain_rows.ensures.groups

pub returns-clause-full : goal.returns-clause-full
returns-clause-full g c =
    closed_all_full g.K.Named.texts_of g.R.NamedRow.name_of g.R.GroupedRow.group_of
    c.retain_rows.new.groups.entries c.close_all.new.groups.entries c.close_all.ensures
