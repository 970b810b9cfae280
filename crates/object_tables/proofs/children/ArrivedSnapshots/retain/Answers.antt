use Rattle.std.proofs.Common.{◌≡◌, Bool, List, map, sym, ap, subst, length, ◌∙◌}
use Rattle.std.specs.Prelude.{filter}
use Rattle.meta_types.specs.Rows.{snap_key}
use Rattle.meta_types.specs.declared.rows.SnapRow.{SnapRow}
use Rattle.row_tables.specs.Arrived.{sorted}
use Rattle.row_tables.specs.Visiting.{gone}
use Rattle.row_tables.proofs.MappedLists.{length_map}
use Rattle.row_tables.proofs.MarkedRows.{mark_of, marks_in_order, kept_in_order, visited_by_place}
use Rattle.object_tables.specs.Children.{family_names, names_under, without_row}
use Rattle.object_tables.proofs.FamiliesLeft.{named_all}
use Rattle.object_tables.proofs.NamesAfter.{names_kept}
use Rattle.object_tables.proofs.RowsCommute.{rows_commute}
use Rattle.object_tables.proofs.children.ArrivedSnapshots.retain.Goals as goal

-- the names of those that stay
pub invariant_of-self : goal.invariant_of-self
invariant_of-self c =
    let rows = c.self.inside.rows in
    let families = c.self.inside.families in
    let marks = c.args.marks.now in
    let len : length marks ≡ length rows = c.requires ∙ ap length (sym c.self.view_is) in
    ap family_names c.visit_removed.ensures
    ∙ named_all (gone marks rows) families c.len-2.ensures.order
    ∙ visited_by_place snap_key without_row rows_commute rows marks c.len.ensures.distinct len (family_names families)
    ∙ names_kept (sorted snap_key rows) (family_names families) c.self.invariant (marks_in_order snap_key marks rows) (length_map (mark_of snap_key rows marks) (sorted snap_key rows)) c.len.ensures.order
    ∙ ap names_under (sym (kept_in_order snap_key rows marks c.len.ensures.distinct len c.retain.new.self c.retain.ensures.stays))

pub returns-clause-stays : goal.returns-clause-stays
returns-clause-stays c =
    subst (λ (rows : List SnapRow). (stays : SnapRow → Bool) → c.args.marks.now ≡ map stays rows → sorted snap_key c.retain.new.self ≡ filter stays (sorted snap_key rows)) c.self.view_is c.retain.ensures.stays
