-- What children that go leave of the families.
use Rattle.std.proofs.Common.{◌≡◌, true, false, List, [], ◌∷◌, length, suc, refl, sym, ap, ◌∙◌, arith, inl, inr}
use Rattle.std.specs.Prelude.{Option, Some, None, is_some, ◌==◌}
use Rattle.std.proofs.lemmas.Bool.{cases_Bool, ne_eqb, false≢true}
use Rattle.meta_types.specs.Text.{Text}
use Rattle.meta_types.specs.Keys.{Key, row_at, has_row, remove_row, change_row, are_in_order}
use Rattle.meta_types.specs.declared.rows.SnapRow.{SnapRow}
use Rattle.meta_types.specs.declared.rows.SnapKey.{SnapKey}
use Rattle.meta_types.proofs.ListSearches.{none_or_some}
use Rattle.meta_types.proofs.KeepsSound.{in_order_changed}
use Rattle.meta_types.proofs.Ordered.{in_order_removed}
use Rattle.row_tables.specs.Arrived.{Becomes}
use Rattle.row_tables.specs.Visiting.{all_visited}
use Rattle.object_tables.specs.Children.{left, left_by, without_row, parent_key, family_key, family_names, without_child, left_in, families_left, families_left_by, families_visited}
use Rattle.object_tables.specs.declared.families.Family.{Family}
use Rattle.row_tables.proofs.ChangedThere.{became, same_there}
use Rattle.object_tables.proofs.RowsKept.{row_is}
use Rattle.object_tables.proofs.FamilyRows.{none_at, one_left, named_after, none_left, closed}

-- no name is left where none is counted
none_counted : (names : List Text) → (length names == 0) ≡ true → names ≡ []
none_counted [] e = refl
none_counted (name ∷ names) e = absurd (false≢true (sym (ne_eqb (suc (length names)) 0 (λ z. absurd (omega arith))) ∙ e))

module _ (key : SnapKey) (parent : Text) (families : List Family) where
  abbrev home : Key
  home = parent_key key parent

  -- the families once the child went
  abbrev rest : List Family
  rest = change_row family_key home (without_child key.name) families

  left_there : (row : Family) → row_at family_key home families ≡ Some row → families_left key parent families ≡ left_in home key.name (Some row) families
  left_there row found = ap (λ o. left_in home key.name o families) found

  -- with the last child the family goes
  last_goes : (row : Family) → row_at family_key home families ≡ Some row → (length (without_child key.name row).children == 0) ≡ true → families_left key parent families ≡ remove_row family_key home rest
  last_goes row found none = left_there row found ∙ rw none refl

  others_stay : (row : Family) → row_at family_key home families ≡ Some row → (length (without_child key.name row).children == 0) ≡ false → families_left key parent families ≡ rest
  others_stay row found some = left_there row found ∙ rw some refl

  nowhere : row_at family_key home families ≡ None → families_left key parent families ≡ families
  nowhere none = ap (λ o. left_in home key.name o families) none

  -- what a change of the family leaves, and what it removes then
  module _ (row after : Family) (new : List Family) (becomes : Becomes family_key home row after families new) (made : after ≡ without_child key.name row) where
    rest_there : new ≡ rest
    rest_there = became family_key home (without_child key.name) row after families new becomes made

    pub last_left : (length after.children == 0) ≡ true → remove_row family_key home new ≡ families_left key parent families
    last_left none = ap (remove_row family_key home) rest_there ∙ sym (last_goes row becomes.there (ap (λ (f : Family). length f.children == 0) (sym made) ∙ none))

    pub some_left : (length after.children == 0) ≡ false → new ≡ families_left key parent families
    some_left some = rest_there ∙ sym (others_stay row becomes.there (ap (λ (f : Family). length f.children == 0) (sym made) ∙ some))

  pub nobody_left : has_row family_key home families ≡ false → families ≡ families_left key parent families
  nobody_left free = sym (nowhere (none_at (row_at family_key home families) free))

  module _ (order : are_in_order family_key families ≡ true) where
    order_rest : are_in_order family_key rest ≡ true
    order_rest = in_order_changed family_key home (without_child key.name) (λ family. refl) families order

    pub order_left : are_in_order family_key (families_left key parent families) ≡ true
    order_left = elim (none_or_some (row_at family_key home families)) [
      | inl none ↦ ap (are_in_order family_key) (nowhere none) ∙ order
      | inr found ↦ elim (cases_Bool (length (without_child key.name found.0).children == 0)) [
        | inl t ↦ ap (are_in_order family_key) (last_goes found.0 found.1 t) ∙ in_order_removed family_key home rest order_rest
        | inr f ↦ ap (are_in_order family_key) (others_stay found.0 found.1 f) ∙ order_rest
      ]
    ]

    -- the names of the family follow
    module _ (row : Family) (found : row_at family_key home families ≡ Some row) where
      becomes_less : Becomes family_key home row (without_child key.name row) families rest
      becomes_less = record { there = found; rows = sym (same_there family_key home (without_child key.name) row families found) }

      own : family_key (without_child key.name row) ≡ home
      own = sym (row_is family_key home families row found).1

      named_rest : family_names rest ≡ left key parent (family_names families)
      named_rest = one_left key parent families row (without_child key.name row) rest becomes_less own refl

      none_named : (length (without_child key.name row).children == 0) ≡ true → family_names rest key.ns key.snapshotter parent ≡ []
      none_named none = named_after key parent families row (without_child key.name row) rest becomes_less own ∙ none_counted (without_child key.name row).children none

    pub named_left : family_names (families_left key parent families) ≡ left key parent (family_names families)
    named_left = elim (none_or_some (row_at family_key home families)) [
      | inl none ↦ ap family_names (nowhere none) ∙ none_left key parent families (ap is_some none)
      | inr found ↦ elim (cases_Bool (length (without_child key.name found.0).children == 0)) [
        | inl t ↦ ap family_names (last_goes found.0 found.1 t) ∙ closed key parent rest order_rest (none_named found.0 found.1 t) ∙ named_rest found.0 found.1
        | inr f ↦ ap family_names (others_stay found.0 found.1 f) ∙ named_rest found.0 found.1
      ]
    ]

-- ---- removed rows

named_by : (key : SnapKey) (parent : Option Text) (families : List Family) → are_in_order family_key families ≡ true → family_names (families_left_by key parent families) ≡ left_by key parent (family_names families)
named_by key None families order = refl
named_by key (Some parent) families order = named_left key parent families order

order_by : (key : SnapKey) (parent : Option Text) (families : List Family) → are_in_order family_key families ≡ true → are_in_order family_key (families_left_by key parent families) ≡ true
order_by key None families order = order
order_by key (Some parent) families order = order_left key parent families order

pub named_without_row : (row : SnapRow) (families : List Family) → are_in_order family_key families ≡ true → family_names (families_visited families row) ≡ without_row (family_names families) row
named_without_row row families order = named_by row.key row.parent families order

-- one after the other
pub named_all : (gone : List SnapRow) (families : List Family) → are_in_order family_key families ≡ true → family_names (all_visited families_visited gone families) ≡ all_visited without_row gone (family_names families)
named_all [] families order = refl
named_all (row ∷ gone) families order = named_all gone (families_visited families row) (order_by row.key row.parent families order)
    ∙ ap (all_visited without_row gone) (named_without_row row families order)
