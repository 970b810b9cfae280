use Rattle.std.proofs.Common.{◌≡◌, List, map, sym, ap, ◌∙◌, subst}
use Rattle.std.specs.Prelude.{IfOk}
use Rattle.row_tables.proofs.HousedListings.{sorted_at, none_sorted}
use Rattle.row_tables.proofs.NamespaceHomes.{at_given}
use Rattle.row_tables.proofs.namespaces.list.rows_in.Goals as goal

-- the namespace has its rows, and no other has one of them
pub returns-in-Some-clause-ok : goal.returns-in-Some-clause-ok
returns-in-Some-clause-ok g c =
    subst (λ (rows : List g.row.R.Denot). IfOk c.in_key_order.result (λ list. map (λ row. row.now) list.items ≡ rows))
    (sym (sorted_at g.K.Named.texts_of g.R.NamedRow.name_of g.R.GroupedRow.group_of c.args.ns.now c.args.groups.now.entries c.requires c.in-Some.home c.index.result.now
    (at_given c.args.groups.now.entries c.in-Some.home c.args.ns.now c.in-Some.ensures.found.0 c.index.result.now c.in-Some.ensures.found.1 c.index.ensures)))
    c.in_key_order.ensures.ok

pub returns-in-None-clause-ok : goal.returns-in-None-clause-ok
returns-in-None-clause-ok g c =
    ap (map (λ row. row.now)) c.new.ensures.items
    ∙ sym
    (none_sorted g.K.Named.texts_of g.R.NamedRow.name_of g.R.GroupedRow.group_of c.args.ns.now c.args.groups.now.entries c.requires c.in-None.ensures.none)
