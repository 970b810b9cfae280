use Rattle.std.proofs.Common.{◌≡◌, Bool, map, length, sym, ap, subst, ◌∙◌}
use Rattle.std.specs.Prelude.{filter}
use Rattle.meta_types.specs.Rows.{Tables, content_key}
use Rattle.meta_types.specs.declared.rows.ContentRow.{ContentRow}
use Rattle.row_tables.specs.Arrived.{sorted, kept}
use Rattle.row_tables.proofs.MarkedRows.{marks_in_order, kept_in_order}
use Rattle.object_tables.proofs.OtherTables.{other_content}
use Rattle.object_tables.proofs.RowsAfter.{left}
use Rattle.object_tables.proofs.arrived.ArrivedTables.retain_content.Goals as goal

-- in order, they are those that some marks leave
stayed : (c : goal.After-retain) → sorted content_key c.retain.new.self ≡ kept (marks_in_order content_key c.args.marks.now c.self.inside.content) (sorted content_key c.self.inside.content)
stayed c =
    kept_in_order content_key c.self.inside.content c.args.marks.now c.len.ensures.distinct (c.requires ∙ ap (λ (t : Tables). length t.content) (sym c.self.view_is)) c.retain.new.self c.retain.ensures.stays

-- some of them stay
pub invariant_of-self : goal.invariant_of-self
invariant_of-self c =
    other_content _ c.self.invariant _
    (left content_key (λ (row : ContentRow). row.ns) _ _ _ c.self.invariant.content (marks_in_order content_key c.args.marks.now c.self.inside.content) (stayed c))

pub returns-clause-stays : goal.returns-clause-stays
returns-clause-stays c =
    subst (λ (t : Tables). (stays : ContentRow → Bool) → c.args.marks.now ≡ map stays t.content → sorted content_key c.retain.new.self ≡ filter stays (sorted content_key t.content)) c.self.view_is c.retain.ensures.stays
