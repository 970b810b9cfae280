use Rattle.std.proofs.Common.{[], ◌∷◌, ap, ◌∙◌}
use Rattle.meta_types.specs.Keys.{change_row}
use Rattle.meta_types.specs.Rows.{lease_key}
use Rattle.row_tables.proofs.ChangedThere.{became, nothing_to_change}
use Rattle.lease_book.specs.Edits.{lease_with}
use Rattle.lease_book.proofs.leases.Leases.set.Goals.{in-Some, in-None}
use Rattle.lease_book.proofs.leases.Leases.set.Goals as goal

-- the lease that was found has these labels and this data
pub returns-clause-left : goal.returns-clause-left
returns-clause-left c =
    let key = c.args.ns.now ∷ c.args.id.now ∷ [] in
    let change = lease_with c.args.labels c.args.extra in
    elim c.match-change.branch [
      | in-Some w ↦ (
          let done = w.in-Some.ensures.changed in
          became lease_key key change done.0 done.1 c.self.inside.rows c.change.new.self done.3
          done.2 ∙ ap (change_row lease_key key change) c.self.view_is
          )
      | in-None w ↦ w.in-None.ensures.same ∙ nothing_to_change lease_key key change
          c.self.inside.rows w.in-None.ensures.absent ∙ ap (change_row lease_key key change)
          c.self.view_is
    ]
