use Rattle.std.proofs.Common.{[], ◌∷◌, ap, ◌∙◌}
use Rattle.meta_types.specs.Keys.{change_row}
use Rattle.meta_types.specs.Rows.{lease_key}
use Rattle.row_tables.proofs.ChangedThere.{became, stayed}
use Rattle.lease_book.specs.Edits.{with_resource}
use Rattle.lease_book.proofs.leases.Leases.add_resource.Goals.{in-Some-Ok, in-Some-Err, in-None}
use Rattle.lease_book.proofs.leases.Leases.add_resource.Goals as goal

-- the lease that was found holds the resource
pub returns-clause-ok : goal.returns-clause-ok
returns-clause-ok c =
    let key = c.args.ns.now ∷ c.args.id.now ∷ [] in
    let hold = with_resource c.args.resource in
    elim c.match-change.branch [
      | in-Some-Ok w ↦ (
          let done = w.in-Some-Ok.ensures.changed in
          rw w.result-is (became lease_key key hold done.0 done.1 c.self.inside.rows c.change.new.self done.3 (rw w.in-Some-Ok.field-0-is at done.2.ok) ∙ ap (change_row lease_key key hold) c.self.view_is)
          )
      | in-Some-Err w ↦ rw w.result-is tt
      | in-None w ↦ rw w.result-is tt
    ]

-- or memory ran out, or there was no lease, and all is as it was
pub returns-clause-err : goal.returns-clause-err
returns-clause-err c =
    let key = c.args.ns.now ∷ c.args.id.now ∷ [] in
    elim c.match-change.branch [
      | in-Some-Ok w ↦ rw w.result-is tt
      | in-Some-Err w ↦ (
          let done = w.in-Some-Err.ensures.changed in
          rw w.result-is (stayed lease_key key done.0 done.1 c.self.inside.rows c.change.new.self done.3 (rw w.in-Some-Err.field-0-is at done.2.err) ∙ c.self.view_is)
          )
      | in-None w ↦ rw w.result-is (w.in-None.ensures.same ∙ c.self.view_is)
    ]
