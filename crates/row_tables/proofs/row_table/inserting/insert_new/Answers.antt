use Rattle.std.proofs.Common.{◌≡◌, false, subst}
use Rattle.std.specs.Prelude.{is_some, OnOk, OnErr}
use Rattle.std.specs.Map.{lookup}
use Rattle.indexmap.specs.IndexMap.{insert_entry}
use Rattle.meta_types.specs.Faults.{Refuses, least_of}
use Rattle.row_tables.proofs.row_table.inserting.insert_new.Goals as goal

-- room alone changes no row
pub returns-clause-fault : goal.returns-clause-fault
returns-clause-fault g c =
    let eq = g.K.PartialEq.eq c.args.name in
    subst (λ entries. Refuses c.insert_into_room.result
    (least_of false false (is_some (lookup eq entries)) false)) c.make_room.ensures
    c.insert_into_room.ensures.fault

pub returns-clause-ok : goal.returns-clause-ok
returns-clause-ok g c =
    let eq = g.K.PartialEq.eq in
    let rows = c.insert_into_room.new.rows.entries in
    subst (λ entries. OnOk c.insert_into_room.result
    (rows ≡ insert_entry eq entries c.args.name c.args.row)) c.make_room.ensures
    c.insert_into_room.ensures.ok

pub returns-clause-err : goal.returns-clause-err
returns-clause-err g c =
    let rows = c.insert_into_room.new.rows.entries in
    subst (λ entries. OnErr c.insert_into_room.result (rows ≡ entries)) c.make_room.ensures
    c.insert_into_room.ensures.err
