use Rattle.std.proofs.Common.{arith}
use Rattle.row_tables.proofs.SweptNamespaces.{retains_all}
use Rattle.row_tables.proofs.HousedListings.{retains_fits, retains_next, retains_apart, swept_from, swept_past}
use Rattle.row_tables.proofs.namespaces.keep.retain_rows.Goals as goal

pub loop-at-init : goal.loop-at-init
loop-at-init g c =
    swept_from g.K.Named.texts_of g.R.NamedRow.name_of g.R.GroupedRow.group_of c.requires.length
    c.requires.groups

-- the marks that are left are of the namespaces that are left
pub split_at-requires : goal.split_at-requires
split_at-requires g c =
    retains_fits g.K.Named.texts_of g.R.NamedRow.name_of g.R.GroupedRow.group_of c.loop-at.invariant
    (omega (arith, c.loop-at-test.true, c.len-at-end.ensures.len)) c.index.ensures c.index.ensures c.len.ensures.len

-- one namespace more is done
pub loop-at-preserved : goal.loop-at-preserved
loop-at-preserved g c =
    retains_next g.K.Named.texts_of g.R.NamedRow.name_of g.R.GroupedRow.group_of c.loop-at.invariant
    (omega (arith, c.loop-at-test.true, c.len-at-end.ensures.len)) c.index.ensures c.index_mut.ensures.value c.len.ensures.len c.split_at.ensures.front c.split_at.ensures.back c.retain.ensures.left

pub returns-clause-rows : goal.returns-clause-rows
returns-clause-rows g c =
    retains_all g.R.GroupedRow.group_of c.loop-at.invariant
    (swept_past g.K.Named.texts_of g.R.NamedRow.name_of g.R.GroupedRow.group_of c.loop-at.invariant (omega (arith, c.loop-at-test.false, c.len-at-end.ensures.len)))

pub returns-clause-groups : goal.returns-clause-groups
returns-clause-groups g c =
    retains_apart g.K.Named.texts_of g.R.NamedRow.name_of g.R.GroupedRow.group_of
    c.loop-at.invariant
    (swept_past g.K.Named.texts_of g.R.NamedRow.name_of g.R.GroupedRow.group_of c.loop-at.invariant (omega (arith, c.loop-at-test.false, c.len-at-end.ensures.len))) c.requires.groups
