use Rattle.std.proofs.Common.{◌≡◌, true, rules, subst, sym}
use Rattle.meta_types.specs.Rows.{Tables, content_key}
use Rattle.meta_types.specs.Changes.{has_namespace}
use Rattle.meta_types.specs.declared.rows.ContentRow.{ContentRow}
use Rattle.object_tables.proofs.OtherTables.{other_content}
use Rattle.object_tables.proofs.RowsAfter.{grown_new}
use Rattle.object_tables.proofs.tables.Tables.add_content.Goals as goal

-- one more, in a namespace that is there, where none has its key
pub invariant_of-self : goal.invariant_of-self
invariant_of-self c =
    let there : has_namespace c.args.self.now c.args.row.ns ≡ true = search rules in
    other_content _ c.self.invariant _
    (grown_new content_key (λ (row : ContentRow). row.ns) _ _ _ c.self.invariant.content c.args.row
    c.add_new.result
    (subst (λ (t : Tables). has_namespace t c.args.row.ns ≡ true) (sym c.self.view_is) there)
    c.add_new.ensures.fault c.add_new.ensures.ok c.add_new.ensures.err)
