-- The snapshotters of rows in order are listed each once, by their bytes.
use Rattle.std.proofs.Common.{◌≡◌, ◌+◌, zero, suc, Bool, true, false, List, [], ◌∷◌, map, refl, ap, sym, ◌∙◌, arith, inl, inr}
use Rattle.std.specs.Prelude.{Result, Ok, Err, IfOk, bytes_eq, not, filter}
use Rattle.std.specs.List.Sorted.{IsSorted, IsStrictlySortedBy}
use Rattle.std.specs.Cmp.Lexicographic.{slice_cmp, texts_ties}
use Rattle.std.specs.Ordering.{is_lt, is_eq, ordering_then, ordering_reverse}
use Rattle.std.specs.declared.cmp.Ordering.{Ordering}
use Rattle.std.specs.declared.cmp.Ordering.TheVariants.{Less, Equal, Greater}
use Rattle.std.proofs.lemmas.Bool.{cases_Bool, and_parts}
use Rattle.std.proofs.lemmas.Cmp.{nat_list_cmp_total}
use Rattle.std.proofs.lemmas.List.Kept.{IsStrictlySortedBy-dedup}
use Rattle.meta_types.specs.Text.{Text, text_cmp}
use Rattle.meta_types.specs.Keys.{is_before, is_first, are_in_order}
use Rattle.meta_types.specs.Rows.{snap_key}
use Rattle.meta_types.specs.declared.fault.Fault.{Fault}
use Rattle.meta_types.specs.declared.rows.SnapRow.{SnapRow}
use Rattle.meta_types.proofs.Filtered.{none_goes, in_order_filtered}
use Rattle.object_tables.specs.Calls.{snapshotters_in}

equal : (r : Ordering) → is_eq r ≡ true → r ≡ Equal
equal Less e = absurd cc
equal Equal e = refl
equal Greater e = absurd cc

-- of what a first part decides or leaves open, a later part decides nothing against it
not_above : (r later : Ordering) → is_lt (ordering_then r later) ≡ true → is_lt (ordering_reverse r) ≡ false
not_above Less later e = refl
not_above Equal later e = refl
not_above Greater later e = absurd cc

module _ (ns : Text) where
  abbrev here : SnapRow → Bool
  here row = bytes_eq ns row.key.ns

  abbrev snapshotter : SnapRow → Text
  snapshotter row = row.key.snapshotter

  same_place : (a b : SnapRow) → here a ≡ true → here b ≡ true → text_cmp a.key.ns b.key.ns ≡ Equal
  same_place a b p q =
      let left : text_cmp ns a.key.ns ≡ Equal = equal _ (sym (texts_ties ns a.key.ns) ∙ p) in
      let right : text_cmp ns b.key.ns ≡ Equal = equal _ (sym (texts_ties ns b.key.ns) ∙ q) in
      sym (nat_list_cmp_total.congr ns a.key.ns b.key.ns left) ∙ right

  -- of two rows of the namespace, the later has no earlier snapshotter
  not_before : (a b : SnapRow) → here a ≡ true → here b ≡ true → is_before (snap_key a) (snap_key b) ≡ true → is_lt (text_cmp (snapshotter b) (snapshotter a)) ≡ false
  not_before a b p q before =
      let later : Ordering = slice_cmp text_cmp (a.key.name ∷ []) (b.key.name ∷ []) in
      let rest : is_lt (ordering_then (text_cmp (snapshotter a) (snapshotter b)) later) ≡ true
      = sym (ap (λ r. is_lt (ordering_then r (ordering_then (text_cmp (snapshotter a) (snapshotter b)) later))) (same_place a b p q)) ∙ before in
      ap is_lt (nat_list_cmp_total.antisymm (snapshotter b) (snapshotter a)) ∙ not_above (text_cmp (snapshotter a) (snapshotter b)) later rest

  all_here : (row : SnapRow) (rows : List SnapRow) → filter (λ r. not (here r)) (row ∷ rows) ≡ [] → (here row ≡ true) × (filter (λ r. not (here r)) rows ≡ [])
  all_here row rows none = elim (cases_Bool (here row)) [
    | inl t ↦ (t, rw t at none)
    | inr f ↦ absurd (cc (rw f at none))
  ]

  sorted_here : (rows : List SnapRow) → are_in_order snap_key rows ≡ true → filter (λ r. not (here r)) rows ≡ [] → IsSorted text_cmp (map snapshotter rows)
  sorted_here [] order none k d from within = absurd (omega (arith, within))
  sorted_here (a ∷ []) order none k d from within = absurd (omega (arith, within))
  sorted_here (a ∷ b ∷ rows) order none zero d from within =
      let first = all_here a (b ∷ rows) none in
      not_before a b first.0 (all_here b rows first.1).0 (and_parts (is_first snap_key a (b ∷ rows)) (are_in_order snap_key (b ∷ rows)) order).0
  sorted_here (a ∷ b ∷ rows) order none (suc k) d from within =
      let next : suc k + 1 ≡ suc (k + 1) = omega arith in
      rw next (sorted_here (b ∷ rows) (and_parts (is_first snap_key a (b ∷ rows)) (are_in_order snap_key (b ∷ rows)) order).1 (all_here a (b ∷ rows) none).1 k d (omega arith) (omega (arith, within)))

  pub snapshotters_sorted : (rows : List SnapRow) → are_in_order snap_key rows ≡ true → IsStrictlySortedBy text_cmp (snapshotters_in ns rows)
  snapshotters_sorted rows order =
      IsStrictlySortedBy-dedup nat_list_cmp_total texts_ties (map snapshotter (filter here rows)) (sorted_here (filter here rows) (in_order_filtered snap_key here rows order) (none_goes here rows))

  -- and so is the answer
  pub answer_sorted : (rows : List SnapRow) (r : Result (List Text) Fault) → are_in_order snap_key rows ≡ true → IfOk r (λ names. names ≡ snapshotters_in ns rows) → IfOk r (λ names. IsStrictlySortedBy text_cmp names)
  answer_sorted rows (Ok names) order is = rw is (snapshotters_sorted rows order)
  answer_sorted rows (Err e) order is = tt
