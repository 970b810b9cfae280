use Rattle.std.proofs.Common.{◌∷◌, ap, ◌∙◌}
use Rattle.row_tables.specs.Namespaces.{full_key}
use Rattle.row_tables.proofs.ChangedThere.{became, nothing_to_change}
use Rattle.object_tables.proofs.parts.set_parts.Goals as goal

-- no part that is set is part of a group
pub change-requires : goal.change-requires
change-requires g c = λ row answer after is. ap g.R.GroupedRow.group_of is
    ∙ g.met.R.SetRow.parts_keep_group c.args.own c.args.labels c.args.extra row

-- the row that was found has these parts
pub returns-in-Some-clause-left : goal.returns-in-Some-clause-left
returns-in-Some-clause-left g c =
    let done = c.in-Some.ensures.changed in
    became (full_key g.K.Named.texts_of g.R.NamedRow.name_of g.R.GroupedRow.group_of)
    (c.args.ns.now ∷ g.K.Named.texts_of c.args.name.now)
    (g.R.SetRow.with_parts c.args.own c.args.labels c.args.extra)
    done.0 done.1 c.args.table.now c.change.new.self done.3 done.2

-- what isn't there isn't changed
pub returns-in-None-clause-left : goal.returns-in-None-clause-left
returns-in-None-clause-left g c =
    c.in-None.ensures.same
    ∙ nothing_to_change (full_key g.K.Named.texts_of g.R.NamedRow.name_of g.R.GroupedRow.group_of)
    (c.args.ns.now ∷ g.K.Named.texts_of c.args.name.now)
    (g.R.SetRow.with_parts c.args.own c.args.labels c.args.extra)
    c.args.table.now c.in-None.ensures.absent
