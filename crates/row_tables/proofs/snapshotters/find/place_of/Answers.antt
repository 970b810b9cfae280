use Rattle.std.proofs.Common.{◌≡◌, ◌∷◌, ◌+◌, Bool, get_or, Some, List, length, take, sym, ap, ◌∙◌, arith}
use Rattle.std.specs.List.{position}
use Rattle.std.specs.Option.{option_map}
use Rattle.meta_types.specs.Keys.{is_key}
use Rattle.row_tables.specs.Namespaces.{own_texts, full_key, all_rows}
use Rattle.row_tables.proofs.FirstPosition.{position_within}
use Rattle.row_tables.proofs.HousedNamespaces.{place_at, place_nowhere}
use Rattle.row_tables.proofs.HousedListings.{fits_there}
use Rattle.row_tables.proofs.NamespaceLists.{list_at}
use Rattle.row_tables.proofs.NamespacesArrived.{name}
use Rattle.row_tables.proofs.snapshotters.find.place_of.Goals as goal

pub overflow_add-result : goal.overflow_add-result
overflow_add-result g c =
    let home = c.in-Some.ensures.found in
    let at = c.in-Some.home in
    let gs = c.args.groups.now.entries in
    let lent = c.index-each-home.result in
    let fits = fits_there gs at (c.args.ns.now, home.0) home.1 in
    let own_key = full_key g.K.Named.texts_of g.R.NamedRow.name_of g.R.GroupedRow.group_of in
    let passes : g.row.R.Denot → Bool =
    λ row. is_key (c.args.snapshotter.now ∷ g.K.Named.texts_of c.args.name.now)
    (name own_texts own_key g.R.SnapshotterRow.ns_of row) in
    let own : lent ≡ home.0 =
    c.index-each-home.is ∙ ap (λ lists. get_or lists at lent) c.requires.each
    ∙ list_at gs at (c.args.ns.now, home.0) lent home.1 in
    let within = position_within passes lent c.in-Some-place.place c.in-Some-place.ensures in
    let start = c.requires.starts.each at c.in-Some.ensures.within in
    omega (arith, fits, start, within, ap length own, c.requires.fits)

-- a row's place is its place in its namespace, behind the rows of those before
pub returns-in-Some-place : goal.returns-in-Some-place
returns-in-Some-place g c =
    let home = c.in-Some.ensures.found in
    let at = c.in-Some.home in
    let ns = c.args.ns.now in
    let gs = c.args.groups.now.entries in
    let lent = c.index-each-home.result in
    let before = length (all_rows (take at gs)) in
    let t = c.args.snapshotter.now ∷ g.K.Named.texts_of c.args.name.now in
    let own_key = full_key g.K.Named.texts_of g.R.NamedRow.name_of g.R.GroupedRow.group_of in
    let key_of = name own_texts own_key g.R.SnapshotterRow.ns_of in
    let own : lent ≡ home.0 =
    c.index-each-home.is ∙ ap (λ lists. get_or lists at lent) c.requires.each
    ∙ list_at gs at (ns, home.0) lent home.1 in
    ap (λ n. Some (n + c.in-Some-place.place)) (c.requires.starts.each at c.in-Some.ensures.within)
    ∙ ap (option_map (λ n. before + n)) (c.in-Some-place.ensures
    ∙ ap (λ (rows : List g.row.R.Denot). position (λ row. is_key t (key_of row)) rows) own)
    ∙ sym (place_at own_texts own_key g.R.SnapshotterRow.ns_of ns at home.0 gs home.1
    c.requires.are t)

pub returns-in-None-place : goal.returns-in-None-place
returns-in-None-place g c =
    let home = c.in-Some.ensures.found in
    let at = c.in-Some.home in
    let ns = c.args.ns.now in
    let gs = c.args.groups.now.entries in
    let lent = c.index-each-home.result in
    let before = length (all_rows (take at gs)) in
    let t = c.args.snapshotter.now ∷ g.K.Named.texts_of c.args.name.now in
    let own_key = full_key g.K.Named.texts_of g.R.NamedRow.name_of g.R.GroupedRow.group_of in
    let key_of = name own_texts own_key g.R.SnapshotterRow.ns_of in
    let own : lent ≡ home.0 =
    c.index-each-home.is ∙ ap (λ lists. get_or lists at lent) c.requires.each
    ∙ list_at gs at (ns, home.0) lent home.1 in
    ap (option_map (λ n. before + n)) (c.in-None-place.ensures
    ∙ ap (λ (rows : List g.row.R.Denot). position (λ row. is_key t (key_of row)) rows) own)
    ∙ sym (place_at own_texts own_key g.R.SnapshotterRow.ns_of ns at home.0 gs home.1
    c.requires.are t)

pub returns-in-None : goal.returns-in-None
returns-in-None g c =
    let own_key = full_key g.K.Named.texts_of g.R.NamedRow.name_of g.R.GroupedRow.group_of in
    sym (place_nowhere own_texts own_key g.R.SnapshotterRow.ns_of c.args.ns.now
    (c.args.snapshotter.now ∷ g.K.Named.texts_of c.args.name.now) c.args.groups.now.entries
    c.in-None.ensures.none c.requires.are)
