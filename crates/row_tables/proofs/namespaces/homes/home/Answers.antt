use Rattle.row_tables.proofs.NamespaceHomes.{home_is, no_home}
use Rattle.row_tables.proofs.namespaces.homes.home.Goals as goal

pub returns-clause-found : goal.returns-clause-found
returns-clause-found g c =
    home_is c.args.ns.now c.args.groups.now.entries c.get_index_of.result
    c.get_index_of.ensures.index

pub returns-clause-none : goal.returns-clause-none
returns-clause-none g c =
    no_home c.args.ns.now c.args.groups.now.entries c.get_index_of.result
    c.get_index_of.ensures.index
