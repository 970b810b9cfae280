-- What is known of stored labels stays true at each put.
use Rattle.std.proofs.Common.{◌≡◌, ◌≤◌, suc, Bool, true, false, List, [], ◌∷◌, length, None, Result, Ok, Err, refl, sym, ap, subst, arith, inl, inr, bytes_eq, not}
use Rattle.std.specs.Prelude.{IsTrue, All, nat_lt, OnOk, OnErr}
use Rattle.std.proofs.lemmas.List.Elements.{All-cons, All-head, All-tail}
use Rattle.std.proofs.lemmas.Bool.{cases_Bool, and_parts, ltb-true}
use Rattle.meta_types.specs.Text.{Text, texts_of}
use Rattle.meta_types.specs.Keys.{Key, is_key, is_before, has_row, add_row, remove_row, put_row}
use Rattle.meta_types.specs.Labels.{LabelList, label_key, has_label, has_room, is_label, put_label, takes_label, AreStored}
use Rattle.meta_types.specs.Faults.{Refuses, unless}
use Rattle.meta_types.specs.declared.fault.Fault.{Fault}
use Rattle.meta_types.specs.declared.fault.Fault.TheVariants.{InvalidArgument}
use Rattle.meta_types.proofs.Ordered.{in_order_removed}
use Rattle.meta_types.proofs.Puts.{in_order_put}
use Rattle.meta_types.proofs.LabelPlaces.{Entry}

module _ (P : Text × Text → Type 0) where
  all_removed : (key : Key) (labels : LabelList) → All P labels → All P (remove_row label_key key labels)
  all_removed key [] all = all
  all_removed key (label ∷ labels) all = elim (cases_Bool (is_key key (label_key label))) [
    | inl t ↦ rw t (All-tail P label labels all)
    | inr f ↦ rw f (All-cons P label (remove_row label_key key labels) (All-head P label labels all) (all_removed key labels (All-tail P label labels all)))
  ]

  all_added : (new : Text × Text) (labels : LabelList) → P new → All P labels → All P (add_row label_key new labels)
  all_added new [] p all = All-cons P new [] p all
  all_added new (label ∷ labels) p all = elim (cases_Bool (is_before (label_key new) (label_key label))) [
    | inl t ↦ rw t (All-cons P new (label ∷ labels) p all)
    | inr f ↦ rw f (All-cons P label (add_row label_key new labels) (All-head P label labels all) (all_added new labels p (All-tail P label labels all)))
  ]

length_added : (new : Text × Text) (labels : LabelList) → length (add_row label_key new labels) ≡ suc (length labels)
length_added new [] = refl
length_added new (label ∷ labels) = elim (cases_Bool (is_before (label_key new) (label_key label))) [
  | inl t ↦ rw t refl
  | inr f ↦ rw f (ap suc (length_added new labels))
]

length_removed : (key : Key) (labels : LabelList) → length (remove_row label_key key labels) ≤ length labels
length_removed key [] = omega arith
length_removed key (label ∷ labels) = elim (cases_Bool (is_key key (label_key label))) [
  | inl t ↦ rw t (omega arith)
  | inr f ↦ rw f (let rest = length_removed key labels in omega arith)
]

length_removed_there : (key : Key) (labels : LabelList) → has_row label_key key labels ≡ true → suc (length (remove_row label_key key labels)) ≡ length labels
length_removed_there key [] h = absurd cc
length_removed_there key (label ∷ labels) h = elim (cases_Bool (is_key key (label_key label))) [
  | inl t ↦ rw t refl
  | inr f ↦ rw f (ap suc (length_removed_there key labels (rw f at h)))
]

-- labels that take a label are stored labels with it
pub stored_put : (key value : Text) (labels : LabelList) → AreStored labels → takes_label key value labels ≡ true → AreStored (put_label key value labels)
stored_put key value labels s takes = elim (cases_Bool (bytes_eq value [])) [
  | inl t ↦ rw t (record {
    in_order = in_order_removed label_key (key ∷ []) labels s.in_order;
    filled = all_removed (λ label. IsTrue (not (bytes_eq label.1 []))) (key ∷ []) labels s.filled;
    few = (let less = length_removed (key ∷ []) labels in let few = s.few in omega arith);
  })
  | inr f ↦ rw f (record {
    in_order = in_order_put label_key (key, value) labels s.in_order;
    filled = all_added (λ label. IsTrue (not (bytes_eq label.1 []))) (key, value) (remove_row label_key (key ∷ []) labels) (rw f refl) (all_removed (λ label. IsTrue (not (bytes_eq label.1 []))) (key ∷ []) labels s.filled);
    few = few_of f;
  })
]
  where
    few_of : bytes_eq value [] ≡ false → length (put_row label_key (key, value) labels) ≤ 256
    few_of f =
        let added = length_added (key, value) (remove_row label_key (key ∷ []) labels) in
        let few = s.few in
        elim (cases_Bool (has_label labels key)) [
          | inl there ↦ (let one = length_removed_there (key ∷ []) labels there in omega arith)
          | inr absent ↦ (
              let less = length_removed (key ∷ []) labels in
              let room : nat_lt (length labels) 256 ≡ true = (rw (f, absent) at (and_parts (is_label key value) (has_room key value labels) takes).1) in
              let below = ltb-true (length labels) 256 room in omega arith)
        ]

-- labels are stored labels after a put, also after one that was refused
pub stored_after : (key value : Text) (old new : List Entry) (result : Result (Unit {0}) Fault) → Refuses result (unless (takes_label key value (texts_of old)) InvalidArgument)
    → OnOk result (texts_of new ≡ put_label key value (texts_of old)) → OnErr result (new ≡ old) → AreStored (texts_of old) → AreStored (texts_of new)
stored_after key value old new (Ok u) fault ok err s = subst AreStored (sym ok) (stored_put key value (texts_of old) s (taken (takes_label key value (texts_of old)) fault))
  where
    taken : (b : Bool) → unless b InvalidArgument ≡ None → b ≡ true
    taken true e = refl
    taken false e = absurd cc
stored_after key value old new (Err e) fault ok err s = subst (λ es. AreStored (texts_of es)) (sym err) s
