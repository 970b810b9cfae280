-- A row keeps its parent, and the parent's number, where the parent stays.
use Rattle.std.proofs.Common.{◌≡◌, ℕ, ◌<◌, true, false, not, List, [], ◌∷◌, refl, sym, ap, ◌∙◌, subst, arith, inl, inr}
use Rattle.std.specs.Prelude.{Option, Some, None, IfSome, IsTrue, is_some, is_none, bytes_eq, ◌&&◌}
use Rattle.std.specs.Option.{option_map_or}
use Rattle.std.proofs.lemmas.Bool.{cases_Bool, both_ways, and_parts, and_from, not-false}
use Rattle.std.proofs.lemmas.Slice.Eq.{bytes_eq-Decides}
use Rattle.meta_types.specs.Text.{Text}
use Rattle.meta_types.specs.Keys.{Key, is_key, row_at, has_row, add_row, remove_row, change_row}
use Rattle.meta_types.specs.Labels.{LabelList}
use Rattle.meta_types.specs.Rows.{snap_key}
use Rattle.meta_types.specs.Ops.Snapshots.{is_committed, parent_row, is_child_of}
use Rattle.meta_types.specs.Sound.{parent_of, HasParent}
use Rattle.meta_types.specs.declared.rows.SnapRow.{SnapRow}
use Rattle.object_tables.proofs.RowsKept.{no_row_of, row_removed, row_added, row_changed}

-- ---- parents

-- the key of a parent
abbrev pub key_above : SnapRow → Text → Key
key_above row name = row.key.ns ∷ row.key.snapshotter ∷ name ∷ []

-- the number of the parent
abbrev pub number_above : List SnapRow → SnapRow → Option ℕ
number_above rows row = option_map_or (λ (above : SnapRow). Some above.number) (parent_of rows row)
    None

-- a committed row of the key is there afterwards too, under its number
abbrev pub Stays : List SnapRow → List SnapRow → Key → Type 0
Stays old new key = (above : SnapRow) → row_at snap_key key old ≡ Some above
    → IsTrue (is_committed above.kind)
    → (next : SnapRow) × (row_at snap_key key new ≡ Some next) × IsTrue (is_committed next.kind)
    × (next.number ≡ above.number)

module _ (old new : List SnapRow) where
  module _ (ns snapshotter : Text) (number : ℕ) where
    abbrev HasAbove : List SnapRow → Option Text → Type 0
    HasAbove rows parent =
        IfSome parent (λ name. (above : SnapRow)
        × (parent_row rows ns snapshotter parent ≡ Some above)
        × IsTrue (is_committed above.kind) × (above.number < number))

    abbrev number_at : List SnapRow → Option Text → Option ℕ
    number_at rows parent = option_map_or (λ (above : SnapRow). Some above.number)
        (parent_row rows ns snapshotter parent) None

    kept_above : (parent : Option Text)
        → ((name : Text) → parent ≡ Some name → Stays old new (ns ∷ snapshotter ∷ name ∷ []))
        → HasAbove old parent
        → HasAbove new parent × (number_at new parent ≡ number_at old parent)
    kept_above None stays has = (has, refl)
    kept_above (Some name) stays has = (
        let next = stays name refl has.0 has.1 has.2 in (
          (next.0, next.1, next.2, omega (arith, next.3, has.3)),
          rw (next.1, has.1)
              (ap (λ n. Some n) next.3),
        ))

  -- a row whose parent stays has its parent
  pub parent_kept : (row : SnapRow)
      → ((name : Text) → row.parent ≡ Some name → Stays old new (key_above row name))
      → HasParent old row
      → HasParent new row × (number_above new row ≡ number_above old row)
  parent_kept row stays has = kept_above row.key.ns row.key.snapshotter row.number row.parent stays
      has

-- a row's parent, as requests ask for it
pub has_parent : (rows : List SnapRow) (row : SnapRow)
    → (is_some row.parent && is_none (parent_of rows row)) ≡ false
    → option_map_or (λ (above : SnapRow). not (is_committed above.kind)) (parent_of rows row) false
    ≡ false
    → ((above : SnapRow) → parent_of rows row ≡ Some above → above.number < row.number)
    → HasParent rows row
has_parent rows row there may less = go row.parent (parent_of rows row) refl there may
  where
    go : (parent : Option Text) (above : Option SnapRow) → parent_of rows row ≡ above
        → (is_some parent && is_none above) ≡ false
        → option_map_or (λ (one : SnapRow). not (is_committed one.kind)) above false ≡ false
        → IfSome parent (λ name. (one : SnapRow) × (parent_of rows row ≡ Some one)
        × IsTrue (is_committed one.kind) × (one.number < row.number))
    go None above e there may = tt
    go (Some name) None e there may = absurd cc
    go (Some name) (Some above) e there may =
        (above, e, not-false (is_committed above.kind) may, less above e)

-- ---- which rows stay

-- where a snapshot comes, all others stay
pub stays_added : (new : SnapRow) (rows : List SnapRow)
    → has_row snap_key (snap_key new) rows ≡ false
    → (key : Key) → Stays rows (add_row snap_key new rows) key
stays_added new rows free key above e c = (
  above,
  row_added snap_key key new (no_row_of snap_key (snap_key new) key rows above free e) rows
      ∙ e,
  c,
  refl,
)

-- where one goes, those of other keys stay
pub stays_removed : (key other : Key) (rows : List SnapRow) → is_key other key ≡ false
    → Stays rows (remove_row snap_key key rows) other
stays_removed key other rows n above e c =
    (above, row_removed snap_key other key n rows ∙ e, c, refl)

-- one that isn't a child has another parent
pub other_parent : (ns snapshotter key : Text) (row : SnapRow) (name : Text)
    → is_child_of ns snapshotter key row ≡ false → row.parent ≡ Some name
    → is_key (key_above row name) (ns ∷ snapshotter ∷ key ∷ []) ≡ false
other_parent ns snapshotter key row name none e =
    elim (cases_Bool (is_key (key_above row name) (ns ∷ snapshotter ∷ key ∷ []))) [
      | inl t ↦ (
          let first = and_parts (bytes_eq row.key.ns ns)
          (bytes_eq row.key.snapshotter snapshotter && (bytes_eq name key && true)) t in
          let second = and_parts (bytes_eq row.key.snapshotter snapshotter)
          (bytes_eq name key && true) first.1 in
          let third = (and_parts (bytes_eq name key) true second.1).0 in
          absurd (both_ways (is_child_of ns snapshotter key row) none
          (and_from (bytes_eq ns row.key.ns && bytes_eq snapshotter row.key.snapshotter)
          (option_map_or (bytes_eq key) row.parent false)
          (and_from (bytes_eq ns row.key.ns) (bytes_eq snapshotter row.key.snapshotter)
          (back row.key.ns ns first.0) (back row.key.snapshotter snapshotter second.0))
          (ap (λ (o : Option Text). option_map_or (bytes_eq key) o false) e
          ∙ back name key third))))
      | inr f ↦ f
    ]
  where
    back : (a b : Text) → bytes_eq a b ≡ true → bytes_eq b a ≡ true
    back a b h = (bytes_eq-Decides b a).1 (sym ((bytes_eq-Decides a b).0 h))

-- the labels and the data of a row change
abbrev pub reset : (SnapRow → LabelList) → (SnapRow → Text) → SnapRow → SnapRow
reset labels_in extra_in row = record row { labels = labels_in row; extra = extra_in row }

-- a committed row stays committed, under its number, if the labels and the data of some row change
pub stays_reset : (key other : Key) (labels_in : SnapRow → LabelList) (extra_in : SnapRow → Text)
    (rows : List SnapRow) → Stays rows (change_row snap_key key (reset labels_in extra_in) rows)
    other
stays_reset key other labels_in extra_in rows above e c =
    let found = row_changed snap_key other key (reset labels_in extra_in) (λ row. refl) rows above e
    in (
      found.0,
      found.1,
      elim found.2 [
        | inl same ↦ subst (λ (row : SnapRow). IsTrue (is_committed row.kind)) (sym same) c
        | inr same ↦ subst (λ (row : SnapRow). IsTrue (is_committed row.kind)) (sym same) c
      ],
      elim found.2 [
        | inl same ↦ ap (λ (row : SnapRow). row.number) same
        | inr same ↦ ap (λ (row : SnapRow). row.number) same
      ],
    )
