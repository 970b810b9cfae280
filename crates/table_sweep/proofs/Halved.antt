-- What halving finds in a list in which each snapshot stands before the next.
use Rattle.std.proofs.Common.{◌≡◌, ℕ, zero, suc, ◌+◌, ◌-◌, ◌<◌, Bool, true, false, List, length, position, refl, sym, ap, subst, ◌∙◌, arith, inl, inr, Ok, Err, Result, ltb-true, ltb-false}
use Rattle.std.specs.Prelude.{◌&&◌, nat_lt, slice_get, slice_index_or, Option, Some, None}
use Rattle.std.specs.Option.{option_map_or}
use Rattle.std.proofs.lemmas.Option.{slice_get_within, get_or_from_slice_get}
use Rattle.std.specs.Result.{result_ok}
use Rattle.std.specs.List.{IsAllAdjacentAnswer}
use Rattle.std.specs.List.Sorted.{IsBinarySearchResult, IsSearchInRange, IsSortedBy}
use Rattle.std.specs.Cmp.{IsTotalOrder, nat_cmp_total, unsigned_tied}
use Rattle.std.specs.Cmp.Lexicographic.{nat_list_cmp_total}
use Rattle.std.specs.Ordering.{is_lt, is_eq, nat_cmp, ordering_then, ordering_reverse}
use Rattle.std.specs.declared.cmp.Ordering.{Ordering}
use Rattle.std.specs.declared.cmp.Ordering.TheVariants.{Less, Equal, Greater}
use Rattle.std.proofs.lemmas.Bool.{cases_Bool}
use Rattle.std.proofs.lemmas.Cmp.{on_total}
use Rattle.std.proofs.lemmas.List.Sorted.{searchable_from_sorted}
use Rattle.std.proofs.lemmas.Map.Text.{is_eq-slice_cmp}
use Rattle.meta_types.specs.Text.{Text, text_cmp}
use Rattle.table_sweep.specs.Depths.{Listed}
use Rattle.table_sweep.specs.SnapshotPlaces.{has_name, name_of, name_cmp, stands_before, AreListed}
use Rattle.meta_types.proofs.OrderThen.{then_total}
use Rattle.table_sweep.proofs.FirstPlace.{first_at, none_first}
use Rattle.table_sweep.proofs.Searched.{is_tied}

-- what a list is asked is answered
pub are_listed : (xs : List Listed) (r : Bool) → IsAllAdjacentAnswer (λ x y b. b ≡ stands_before x y) xs r → r ≡ true → AreListed xs
are_listed xs true h e = λ k d lt. sym (h k d lt)
are_listed xs false h e = absurd cc

pub name_total : IsTotalOrder name_cmp
name_total =
    then_total (λ (a b : Text × ℕ). text_cmp a.0 b.0) (λ (a b : Text × ℕ). nat_cmp a.1 b.1)
    (on_total (λ (x : Text × ℕ). x.0) nat_list_cmp_total) (on_total (λ (x : Text × ℕ). x.1) nat_cmp_total)

both_tied : (r s : Ordering) → is_eq (ordering_then r s) ≡ (is_eq r && is_eq s)
both_tied Less s = refl
both_tied Equal s = refl
both_tied Greater s = refl

is_less : (r : Ordering) → is_lt r ≡ true → r ≡ Less
is_less Less e = refl
is_less Equal e = absurd cc
is_less Greater e = absurd cc

abbrev own_name : Listed → Text × ℕ
own_name s = name_of s s.1

module _ (name : Text × ℕ) where
  hit_is : (s : Listed) → has_name name s ≡ is_eq (name_cmp (own_name s) name)
  hit_is s = sym (both_tied (text_cmp s.0 name.0) (nat_cmp s.1 name.1) ∙ (λ i. is_eq-slice_cmp s.0 name.0 i && unsigned_tied s.1 name.1 i))

  -- what stands before the name's own hasn't the name
  before_it : (a b : Text × ℕ) → name_cmp a b ≡ Less → name_cmp b name ≡ Equal → name_cmp a name ≡ Less
  before_it a b less tied = name_total.antisymm a name ∙ ap ordering_reverse (sym (name_total.congr b name a tied)) ∙ sym (name_total.antisymm a b) ∙ less

  module _ (xs : List Listed) (listed : AreListed xs) where
    abbrev at : ℕ → Listed → Text × ℕ
    at k d = own_name (slice_index_or xs k d)

    next : (k : ℕ) (d : Listed) → k + 1 < length xs → name_cmp (at k d) (at (k + 1) d) ≡ Less
    next k d lt = is_less (name_cmp (at k d) (at (k + 1) d)) (listed k d lt)

    pub far : (m i j : ℕ) (d : Listed) → j ≡ i + m + 1 → j < length xs → name_cmp (at i d) (at j d) ≡ Less
    far zero i j d e lt = subst (λ (n : ℕ). name_cmp (at i d) (at n d) ≡ Less) {x = i + 1} {y = j} (omega (arith, e)) (next i d (omega (arith, e, lt)))
    far (suc m) i j d e lt =
        name_total.trans (at i d) (at (j - 1) d) (at j d) (far m i (j - 1) d (omega (arith, e)) (omega (arith, e, lt)))
        (subst (λ (n : ℕ). name_cmp (at (j - 1) d) (at n d) ≡ Less) {x = j - 1 + 1} {y = j} (omega (arith, e)) (next (j - 1) d (omega (arith, e, lt))))

    in_order : IsSortedBy (λ (a b : Listed). is_lt (name_cmp (own_name a) (own_name b))) xs
    in_order k d low lt = ap is_lt (name_total.antisymm (at (k + 1) d) (at k d) ∙ ap ordering_reverse (next k d lt))

    pub halved : (r : Result ℕ ℕ) → IsSearchInRange r (length xs) → IsBinarySearchResult (λ s. name_cmp (own_name s) name) xs r → result_ok r ≡ position (has_name name) xs
    halved (Ok i) lt h =
        sym (first_at (has_name name) xs i lt (λ d. hit_is (slice_index_or xs i d) ∙ ap is_eq (h d))
        (λ k d less. hit_is (slice_index_or xs k d) ∙ ap is_eq (before_it (at k d) (at i d) (far (i - k - 1) k i d (omega (arith, less)) lt) (h d))))
    halved (Err i) le h =
        let point = h (searchable_from_sorted name_total own_name xs name in_order) in
        sym (none_first (has_name name) xs (λ k d lt. hit_is (slice_index_or xs k d) ∙ elim (cases_Bool (nat_lt k i)) [
          | inl low ↦ ap is_eq (point.0 k d (omega arith) (ltb-true k i low))
          | inr high ↦ ap is_eq (point.1 k d (ltb-false k i high) lt)
        ]))

    -- a name that stands at a place stands there alone
    pub near : (i : ℕ) → option_map_or (has_name name) (slice_get xs i) false ≡ true
        → Some i ≡ position (has_name name) xs
    near i h = go (slice_get xs i) refl h
      where
        go : (o : Option Listed) → slice_get xs i ≡ o → option_map_or (has_name name) o false ≡ true
            → Some i ≡ position (has_name name) xs
        go None e t = absurd cc
        go (Some s) e t =
            let tied = is_tied (name_cmp (own_name s) name) (sym (hit_is s) ∙ t) in
            let is : (d : Listed) → slice_index_or xs i d ≡ s =
            λ d. get_or_from_slice_get xs i s d e in
            halved (Ok i) (slice_get_within xs i s e)
            (λ d. ap (λ x. name_cmp (own_name x) name) (is d) ∙ tied)
