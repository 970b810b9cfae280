-- Two removed rows leave the same names, whichever is removed first.
use Rattle.std.proofs.Common.{◌≡◌, Bool, true, false, List, [], ◌∷◌, Option, Some, None, refl, sym, ap, ◌∙◌, inl, inr}
use Rattle.std.specs.Prelude.{if◌then◌else◌}
use Rattle.std.proofs.lemmas.Bool.{cases_Bool}
use Rattle.meta_types.specs.Text.{Text}
use Rattle.meta_types.specs.Keys.{Key, is_key, remove_row}
use Rattle.meta_types.specs.declared.rows.SnapRow.{SnapRow}
use Rattle.meta_types.specs.declared.rows.SnapKey.{SnapKey}
use Rattle.row_tables.specs.Arrived.{one_text}
use Rattle.row_tables.proofs.NamespaceLists.{keys_same}
use Rattle.object_tables.specs.Children.{NamesByParent, left_by, without_row, parent_key}

pub removed_twice : {Row : Type 0} (key_of : Row → Key) (a b : Key) (rows : List Row) → remove_row key_of a (remove_row key_of b rows) ≡ remove_row key_of b (remove_row key_of a rows)
removed_twice key_of a b [] = refl
removed_twice key_of a b (row ∷ rows) = elim (cases_Bool (is_key a (key_of row))) [
  | inl s ↦ elim (cases_Bool (is_key b (key_of row))) [
    | inl t ↦ rw (s, t) (ap (λ k. remove_row key_of k rows) (keys_same a (key_of row) s ∙ sym (keys_same b (key_of row) t)))
    | inr f ↦ rw (f, s) refl
  ]
  | inr e ↦ elim (cases_Bool (is_key b (key_of row))) [
    | inl t ↦ rw (e, t) refl
    | inr f ↦ rw (e, f, e) (ap (λ rest. row ∷ rest) (removed_twice key_of a b rows))
  ]
]

if_twice : (s t : Bool) (a b : Key) (names : List Text)
    → (if t then remove_row one_text b (if s then remove_row one_text a names else names) else (if s then remove_row one_text a names else names))
    ≡ (if s then remove_row one_text a (if t then remove_row one_text b names else names) else (if t then remove_row one_text b names else names))
if_twice true true a b names = removed_twice one_text b a names
if_twice true false a b names = refl
if_twice false true a b names = refl
if_twice false false a b names = refl

left_twice : (names : NamesByParent) (a : SnapKey) (p : Option Text) (b : SnapKey) (q : Option Text) → left_by b q (left_by a p names) ≡ left_by a p (left_by b q names)
left_twice names a None b q = refl
left_twice names a (Some p) b None = refl
left_twice names a (Some p) b (Some q) = λ i ns snapshotter name.
    if_twice (is_key (ns ∷ snapshotter ∷ name ∷ []) (parent_key a p)) (is_key (ns ∷ snapshotter ∷ name ∷ []) (parent_key b q)) (a.name ∷ []) (b.name ∷ []) (names ns snapshotter name) i

pub rows_commute : (names : NamesByParent) (a b : SnapRow) → without_row (without_row names a) b ≡ without_row (without_row names b) a
rows_commute names a b = left_twice names a.key a.parent b.key b.parent
