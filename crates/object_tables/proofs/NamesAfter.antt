-- What each call of the snapshots does to the names under each parent.
use Rattle.std.proofs.Common.{◌≡◌, Bool, true, false, List, [], ◌∷◌, length, sym, ap, ◌∙◌}
use Rattle.std.specs.Prelude.{Result, Ok, Err, OnOk, OnErr, Some, None}
use Rattle.meta_types.specs.Text.{Text}
use Rattle.meta_types.specs.Keys.{Key, row_at, has_row, add_row, remove_row, change_row, are_in_order}
use Rattle.meta_types.specs.Labels.{LabelList}
use Rattle.meta_types.specs.Rows.{snap_key}
use Rattle.meta_types.specs.declared.fault.Fault.{Fault}
use Rattle.meta_types.specs.declared.rows.SnapRow.{SnapRow}
use Rattle.meta_types.specs.declared.rows.SnapKey.{SnapKey}
use Rattle.row_tables.specs.Arrived.{one_text, kept}
use Rattle.row_tables.specs.Visiting.{gone, all_visited}
use Rattle.object_tables.specs.Children.{NamesByParent, names_under, entered, left, without_row}
use Rattle.object_tables.proofs.OrderStays.{nothing_to_remove}
use Rattle.object_tables.proofs.NamesUnder.{
  named_added,
  named_plain,
  named_less,
  named_reset,
  named_free,
  named_kept,
  entered_left,
}
use Rattle.object_tables.proofs.RowsKept.{row_is}

module _ (rows : List SnapRow) (names : NamesByParent) (are : names ≡ names_under rows) where
  -- one without a parent is no child
  pub plain_added : (row : SnapRow) (after : List SnapRow) (r : Result (Unit {0}) Fault) → row.parent ≡ None → OnOk r (after ≡ add_row snap_key row rows) → OnErr r (after ≡ rows) → names ≡ names_under after
  plain_added row after (Ok u) e ok err = are ∙ sym (ap names_under ok ∙ named_plain row rows e)
  plain_added row after (Err fault) e ok err = are ∙ ap names_under (sym err)

  module _ (row : SnapRow) (key : SnapKey) (parent : Text) (own : key ≡ row.key) where
    -- a snapshot that isn't there is no child
    pub child_free : has_row snap_key (snap_key row) rows ≡ false → has_row one_text (key.name ∷ []) (names key.ns key.snapshotter parent) ≡ false
    child_free free = ap (λ (n : NamesByParent). has_row one_text (key.name ∷ []) (n key.ns key.snapshotter parent)) are
        ∙ named_free key.ns key.snapshotter parent key.name rows (ap (λ (k : SnapKey). has_row snap_key (k.ns ∷ k.snapshotter ∷ k.name ∷ []) rows) own ∙ free)

    -- one that comes goes under its parent
    pub child_added : row.parent ≡ Some parent → are_in_order snap_key rows ≡ true → (more : NamesByParent) (after : List SnapRow) → more ≡ entered key parent names → after ≡ add_row snap_key row rows → more ≡ names_under after
    child_added e order more after is ok = is ∙ (λ j. entered (own j) parent (are j)) ∙ sym (ap names_under ok ∙ named_added row parent rows e order)

    -- what was entered before memory was refused goes again
    pub entry_undone : has_row snap_key (snap_key row) rows ≡ false → (more less : NamesByParent) (after : List SnapRow) → more ≡ entered key parent names → less ≡ left key parent more → after ≡ rows → less ≡ names_under after
    entry_undone free more less after is gone err = gone ∙ ap (left key parent) is ∙ entered_left key parent names (child_free free) ∙ are ∙ ap names_under (sym err)

  -- a row that goes
  pub row_left : (key : Key) (row : SnapRow) (less : NamesByParent) (after : List SnapRow) → row_at snap_key key rows ≡ Some row → less ≡ without_row names row → after ≡ remove_row snap_key key rows → less ≡ names_under after
  row_left key row less after found is gone =
      let own : key ≡ snap_key row = (row_is snap_key key rows row found).1 in
      is ∙ ap (λ n. without_row n row) are ∙ sym (named_less row rows (ap (λ k. row_at snap_key k rows) (sym own) ∙ found))
      ∙ ap (λ k. names_under (remove_row snap_key k rows)) (sym own) ∙ ap names_under (sym gone)

  -- what isn't there doesn't go
  pub none_parted : (key : Key) (after : List SnapRow) → has_row snap_key key rows ≡ false → after ≡ remove_row snap_key key rows → names ≡ names_under after
  none_parted key after missing gone = are ∙ ap names_under (nothing_to_remove snap_key key rows missing ∙ sym gone)

  -- labels are no part of it
  pub names_labelled : (key : Key) (labels_in : SnapRow → LabelList) (after : List SnapRow) (r : Result (Unit {0}) Fault) → OnOk r (after ≡ change_row snap_key key (λ row. record row { labels = labels_in row }) rows)
      → OnErr r (after ≡ rows) → names ≡ names_under after
  names_labelled key labels_in after (Ok u) ok err = are
      ∙ sym (ap names_under ok ∙ named_reset key labels_in (λ row. row.extra) rows)
  names_labelled key labels_in after (Err fault) ok err = are ∙ ap names_under (sym err)

  -- nor is data
  pub names_set : (key : Key) (labels_in : SnapRow → LabelList) (extra_in : SnapRow → Text)
      (after : List SnapRow)
      → after ≡ change_row snap_key key (λ row. record row {
        labels = labels_in row;
        extra = extra_in row;
      }) rows → names ≡ names_under after
  names_set key labels_in extra_in after e = are
      ∙ sym (ap names_under e ∙ named_reset key labels_in extra_in rows)

  -- those that stay, once it saw the others
  pub names_kept : (marks : List Bool) → length marks ≡ length rows → are_in_order snap_key rows ≡ true → all_visited without_row (gone marks rows) names ≡ names_under (kept marks rows)
  names_kept marks len order = ap (all_visited without_row (gone marks rows)) are ∙ named_kept marks rows len order
