-- A sort of names leaves them in the order of their keys.
use Rattle.std.proofs.Common.{◌≡◌, List, [], ◌∷◌, refl, sym, ap, ◌∙◌, subst}
use Rattle.std.specs.Ordering.{is_lt, is_eq, ordering_then}
use Rattle.std.specs.declared.cmp.Ordering.{Ordering}
use Rattle.std.specs.declared.cmp.Ordering.TheVariants.{Less, Equal, Greater}
use Rattle.std.specs.Cmp.{IsTotalOrder, IsStrictWeakOrder}
use Rattle.std.specs.Cmp.Lexicographic.{slice_cmp}
use Rattle.std.specs.List.Sorted.{IsSorted, IsPermutation}
use Rattle.std.proofs.lemmas.Cmp.{on_total}
use Rattle.meta_types.specs.Text.{Text, text_cmp}
use Rattle.meta_types.specs.Keys.{Key, in_order}
use Rattle.meta_types.proofs.Ordered.{keys_total, key_ties}
use Rattle.row_tables.specs.Arrived.{sorted}
use Rattle.row_tables.proofs.NamespaceLists.{keys_same}
use Rattle.table_sweep.specs.InKeyOrder.{name_key, name_cmp, snapshot_name_key, snapshot_name_cmp}
use Rattle.table_sweep.proofs.SortedObjects.{weak_order, sorted_in_order, order_alike}

module _ {Name : Type 0} (key_of : Name → Key) (cmp : Name → Name → Ordering)
    (same : (a b : Name) → cmp a b ≡ slice_cmp text_cmp (key_of a) (key_of b))
    (one : (a b : Name) → key_of a ≡ key_of b → a ≡ b) where
  by_keys : IsTotalOrder cmp
  by_keys =
      let total : IsTotalOrder (λ (a b : Name). slice_cmp text_cmp (key_of a) (key_of b)) = on_total
      key_of keys_total in
      subst IsTotalOrder (λ i a b. sym (same a b) i) total

  exact : (a b : Name) → cmp a b ≡ Equal → a ≡ b
  exact a b h = one a b (keys_same (key_of a) (key_of b)
      (key_ties (key_of a) (key_of b) ∙ ap is_eq (sym (same a b) ∙ h)))

  pub names_weak : IsStrictWeakOrder (λ (a b : Name). is_lt (cmp a b))
  names_weak = weak_order cmp by_keys exact

  -- sorted names of a list are the list in the order of keys
  pub names_sorted : (names list : List Name) → IsPermutation names list → IsSorted cmp list → list
      ≡ sorted key_of names
  names_sorted names list p s = sorted_in_order cmp by_keys exact names list p s ∙
      (λ i. in_order (λ (a b : Name). is_lt (same a b i)) names)

  -- so are names in another order
  pub names_alike : (names list : List Name) → IsPermutation names list → sorted key_of list ≡
      sorted key_of names
  names_alike names list p =
      sym (λ i. in_order (λ (a b : Name). is_lt (same a b i)) list)
      ∙ order_alike cmp by_keys exact names list p
      ∙ (λ i. in_order (λ (a b : Name). is_lt (same a b i)) names)

-- ---- the texts of names

abbrev first_text : Key → Text
first_text [] = []
first_text (text ∷ rest) = text

abbrev next_texts : Key → Key
next_texts [] = []
next_texts (text ∷ rest) = rest

last_equal : (r : Ordering) → r ≡ ordering_then r Equal
last_equal Less = refl
last_equal Equal = refl
last_equal Greater = refl

pub name_same : (a b : Text × Text) → name_cmp a b ≡ slice_cmp text_cmp (name_key a) (name_key b)
name_same a b = ap (ordering_then (text_cmp a.0 b.0)) (last_equal (text_cmp a.1 b.1))

pub one_name : (a b : Text × Text) → name_key a ≡ name_key b → a ≡ b
one_name a b e = λ i. (first_text (e i), first_text (next_texts (e i)))

pub snapshot_name_same : (a b : Text × Text × Text) → snapshot_name_cmp a b ≡ slice_cmp text_cmp
    (snapshot_name_key a) (snapshot_name_key b)
snapshot_name_same a b = go (text_cmp a.0 b.0) (text_cmp a.1 b.1) (text_cmp a.2 b.2)
  where
    go : (r s t : Ordering) → ordering_then (ordering_then r s) t ≡ ordering_then r
        (ordering_then s (ordering_then t Equal))
    go Less s t = refl
    go Equal Less t = refl
    go Equal Equal t = last_equal t
    go Equal Greater t = refl
    go Greater s t = refl

pub one_snapshot_name : (a b : Text × Text × Text) → snapshot_name_key a ≡ snapshot_name_key b → a ≡
    b
one_snapshot_name a b e = λ i. (
  first_text (e i),
  first_text (next_texts (e i)),
  first_text
      (next_texts (next_texts (e i))),
)
