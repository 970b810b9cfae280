use Rattle.std.proofs.Common.{[], ◌∷◌, sym, ap, ◌∙◌}
use Rattle.meta_types.specs.Keys.{change_row}
use Rattle.meta_types.specs.Rows.{lease_key}
use Rattle.meta_types.specs.Resources.{resource_key}
use Rattle.meta_types.proofs.Puts.{remove_absent}
use Rattle.row_tables.proofs.ChangedThere.{became, stayed, nothing_to_change}
use Rattle.lease_book.specs.Edits.{without_resource}
use Rattle.lease_book.proofs.leases.Leases.drop_resource.Goals.{in-Some-true, in-Some-false, in-None}
use Rattle.lease_book.proofs.leases.Leases.drop_resource.Goals as goal

-- the lease that was found releases the resource
pub returns-clause-left : goal.returns-clause-left
returns-clause-left c =
    let key = c.args.ns.now ∷ c.args.id.now ∷ [] in
    let drop = without_resource c.args.resource.now in
    elim c.match-change.branch [
      | in-Some-true w ↦ (
          let done = w.in-Some-true.ensures.changed in
          became lease_key key drop done.0 done.1 c.self.inside.rows c.change.new.self done.3 done.2.left ∙ ap (change_row lease_key key drop) c.self.view_is
          )
      | in-Some-false w ↦ (
          let done = w.in-Some-false.ensures.changed in
          became lease_key key drop done.0 done.1 c.self.inside.rows c.change.new.self done.3 done.2.left ∙ ap (change_row lease_key key drop) c.self.view_is
          )
      | in-None w ↦ w.in-None.ensures.same ∙ nothing_to_change lease_key key drop c.self.inside.rows w.in-None.ensures.absent ∙ ap (change_row lease_key key drop) c.self.view_is
    ]

-- where it holds none, or there is no lease, all is as it was
pub returns-clause-err : goal.returns-clause-err
returns-clause-err c =
    let key = c.args.ns.now ∷ c.args.id.now ∷ [] in
    elim c.match-change.branch [
      | in-Some-true w ↦ rw w.result-is tt
      | in-Some-false w ↦ (
          let done = w.in-Some-false.ensures.changed in
          let absent = sym done.2.found ∙ w.in-Some-false.field-0-test in
          let same = done.2.left ∙ (λ i. record done.0 { resources = remove_absent resource_key (resource_key c.args.resource.now) done.0.resources absent i }) in
          rw w.result-is (stayed lease_key key done.0 done.1 c.self.inside.rows c.change.new.self done.3 same ∙ c.self.view_is)
          )
      | in-None w ↦ rw w.result-is (w.in-None.ensures.same ∙ c.self.view_is)
    ]
