use Rattle.std.proofs.Common.{◌≡◌, Bool, map, length, sym, ap, subst, ◌∙◌}
use Rattle.std.specs.Prelude.{filter}
use Rattle.meta_types.specs.Rows.{Tables, image_key}
use Rattle.meta_types.specs.declared.rows.ImageRow.{ImageRow}
use Rattle.row_tables.specs.Arrived.{sorted, kept}
use Rattle.row_tables.proofs.MarkedRows.{marks_in_order, kept_in_order}
use Rattle.object_tables.proofs.OtherTables.{other_images}
use Rattle.object_tables.proofs.RowsAfter.{left}
use Rattle.object_tables.proofs.arrived.ArrivedTables.retain_images.Goals as goal

-- in order, they are those that some marks leave
stayed : (c : goal.After-retain) → sorted image_key c.retain.new.self ≡ kept (marks_in_order image_key c.args.marks.now c.self.inside.images) (sorted image_key c.self.inside.images)
stayed c =
    kept_in_order image_key c.self.inside.images c.args.marks.now c.len.ensures.distinct (c.requires ∙ ap (λ (t : Tables). length t.images) (sym c.self.view_is)) c.retain.new.self c.retain.ensures.stays

-- some of them stay
pub invariant_of-self : goal.invariant_of-self
invariant_of-self c =
    other_images _ c.self.invariant _
    (left image_key (λ (row : ImageRow). row.ns) _ _ _ c.self.invariant.images (marks_in_order image_key c.args.marks.now c.self.inside.images) (stayed c))

pub returns-clause-stays : goal.returns-clause-stays
returns-clause-stays c =
    subst (λ (t : Tables). (stays : ImageRow → Bool) → c.args.marks.now ≡ map stays t.images → sorted image_key c.retain.new.self ≡ filter stays (sorted image_key t.images)) c.self.view_is c.retain.ensures.stays
