use Rattle.std.proofs.Common.{◌+◌, Some, length, take, sym, ap, ◌∙◌, arith}
use Rattle.std.specs.Option.{option_map}
use Rattle.row_tables.specs.Namespaces.{all_rows}
use Rattle.row_tables.proofs.NamespaceHomes.{at_given}
use Rattle.row_tables.proofs.HousedNamespaces.{place_at, place_nowhere}
use Rattle.row_tables.proofs.HousedListings.{fits_there}
use Rattle.row_tables.proofs.namespaces.find.place_of.Goals as goal

pub overflow_add-result : goal.overflow_add-result
overflow_add-result g c =
    let at = at_given c.args.groups.now.entries c.in-Some.home c.args.ns.now c.in-Some.ensures.found.0 c.index.result.now c.in-Some.ensures.found.1 c.index.ensures in
    let fits = fits_there c.args.groups.now.entries c.in-Some.home (c.args.ns.now, c.index.result.now) at in
    let start = c.requires.starts.each c.in-Some.home c.in-Some.ensures.within in
    omega (arith, fits, start, c.in-Some-place.ensures.within, c.requires.fits)

-- a row's place is its place in its namespace, behind the rows of those before
pub returns-in-Some-place : goal.returns-in-Some-place
returns-in-Some-place g c =
    let at = at_given c.args.groups.now.entries c.in-Some.home c.args.ns.now c.in-Some.ensures.found.0 c.index.result.now c.in-Some.ensures.found.1 c.index.ensures in
    let before = length (all_rows (take c.in-Some.home c.args.groups.now.entries)) in
    ap (λ n. Some (n + c.in-Some-place.place))
    (c.requires.starts.each c.in-Some.home c.in-Some.ensures.within)
    ∙ ap (option_map (λ n. before + n)) c.in-Some-place.ensures.place
    ∙ sym
    (place_at g.K.Named.texts_of g.R.NamedRow.name_of g.R.GroupedRow.group_of c.args.ns.now c.in-Some.home c.index.result.now c.args.groups.now.entries at c.requires.are (g.K.Named.texts_of c.args.name.now))

pub returns-in-None-place : goal.returns-in-None-place
returns-in-None-place g c =
    let at = at_given c.args.groups.now.entries c.in-Some.home c.args.ns.now c.in-Some.ensures.found.0 c.index.result.now c.in-Some.ensures.found.1 c.index.ensures in
    let before = length (all_rows (take c.in-Some.home c.args.groups.now.entries)) in
    ap (option_map (λ n. before + n)) c.in-None-place.ensures.place
    ∙ sym
    (place_at g.K.Named.texts_of g.R.NamedRow.name_of g.R.GroupedRow.group_of c.args.ns.now c.in-Some.home c.index.result.now c.args.groups.now.entries at c.requires.are (g.K.Named.texts_of c.args.name.now))

pub returns-in-None : goal.returns-in-None
returns-in-None g c =
    sym
    (place_nowhere g.K.Named.texts_of g.R.NamedRow.name_of g.R.GroupedRow.group_of c.args.ns.now (g.K.Named.texts_of c.args.name.now) c.args.groups.now.entries c.in-None.ensures.none c.requires.are)
