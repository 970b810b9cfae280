use Rattle.std.proofs.Common.{[], ◌∷◌, ap, ◌∙◌}
use Rattle.meta_types.specs.Keys.{change_row}
use Rattle.meta_types.specs.Rows.{lease_key}
use Rattle.row_tables.proofs.ChangedThere.{became, stayed}
use Rattle.lease_book.specs.Edits.{with_label}
use Rattle.lease_book.proofs.leases.Leases.relabel.Goals.{in-Some-Ok, in-Some-Err, in-None, in-None-2}
use Rattle.lease_book.proofs.leases.Leases.relabel.Goals as goal

-- the lease that was found took the label
pub returns-clause-ok : goal.returns-clause-ok
returns-clause-ok c =
    let key = c.args.ns.now ∷ c.args.id.now ∷ [] in
    let label = with_label c.args.key.now c.args.value.now in
    elim c.match-change.branch [
      | in-Some-Ok w ↦ (
          let done = w.in-Some-Ok.ensures.changed in
          rw w.result-is (became lease_key key label done.0 done.1 c.self.inside.rows c.change.new.self done.3 (rw w.in-Some-Ok.field-0-is at done.2.ok) ∙ ap (change_row lease_key key label) c.self.view_is)
          )
      | in-Some-Err w ↦ rw w.result-is tt
      | in-None w ↦ rw w.result-is tt
      | in-None-2 w ↦ rw w.result-is tt
    ]

-- or refused it, or there was none, and all is as it was
pub returns-clause-err : goal.returns-clause-err
returns-clause-err c =
    let key = c.args.ns.now ∷ c.args.id.now ∷ [] in
    elim c.match-change.branch [
      | in-Some-Ok w ↦ rw w.result-is tt
      | in-Some-Err w ↦ (
          let done = w.in-Some-Err.ensures.changed in
          rw w.result-is (stayed lease_key key done.0 done.1 c.self.inside.rows c.change.new.self done.3 (rw w.in-Some-Err.field-0-is at done.2.err) ∙ c.self.view_is)
          )
      | in-None w ↦ rw w.result-is (w.in-None.ensures.same ∙ c.self.view_is)
      | in-None-2 w ↦ rw w.result-is (w.in-None.ensures.same ∙ c.self.view_is)
    ]
