-- What halving a sorted list finds.
use Rattle.std.proofs.Common.{◌≡◌, ℕ, zero, suc, ◌<◌, Bool, true, false, not, List, [], ◌∷◌, map, length, refl, sym, ap, ◌∙◌, arith, inl, inr, Ok, Err, Result, Bor, ltb-true, ltb-false}
use Rattle.std.specs.Prelude.{◌&&◌, ◌||◌, ◌==◌, bytes_eq, nat_lt, slice_index_or, is_ok, is_err}
use Rattle.std.specs.List.{list_any}
use Rattle.std.specs.List.Sorted.{IsBinarySearchResult, IsSearchInRange, IsNonDecreasingBy}
use Rattle.std.specs.Cmp.{IsTotalOrder, nat_cmp_total, unsigned_tied}
use Rattle.std.specs.Cmp.Lexicographic.{nat_list_cmp_total}
use Rattle.std.specs.Ordering.{is_eq, nat_cmp, ordering_then, ordering_index}
use Rattle.std.specs.declared.cmp.Ordering.{Ordering}
use Rattle.std.specs.declared.cmp.Ordering.TheVariants.{Less, Equal, Greater}
use Rattle.std.proofs.lemmas.Bool.{cases_Bool}
use Rattle.std.proofs.lemmas.Cmp.{on_total}
use Rattle.std.proofs.lemmas.Map.Text.{is_eq-slice_cmp}
use Rattle.meta_types.specs.Text.{Text, text_cmp}
use Rattle.meta_types.specs.declared.rows.SnapRow.{SnapRow}
use Rattle.meta_types.proofs.OrderThen.{then_total}
use Rattle.table_sweep.specs.Depths.{Listed}
use Rattle.table_sweep.specs.Owned.{object_of, object_cmp, name_of, is_snap_removed}

module _ {X : Type 0} (ord : X → Ordering) where
  abbrev hits : X → Bool
  hits x = is_eq (ord x)

  hit_at : (xs : List X) (i : ℕ) → i < length xs → ((d : X) → ord (slice_index_or xs i d) ≡ Equal) →
      list_any hits xs ≡ true
  hit_at [] i lt h = absurd (omega (arith, lt))
  hit_at (x ∷ xs) zero lt h = ap (λ r. is_eq r || list_any hits xs) (h x)
  hit_at (x ∷ xs) (suc i) lt h = elim (cases_Bool (hits x)) [
    | inl t ↦ rw t refl
    | inr f ↦ rw f (hit_at xs i (omega (arith, lt)) h)
  ]

  no_hit : (xs : List X) → ((k : ℕ) (d : X) → k < length xs → is_eq (ord (slice_index_or xs k d)) ≡
      false) → list_any hits xs ≡ false
  no_hit [] h = refl
  no_hit (x ∷ xs) h = λ j. h 0 x (omega arith) j || no_hit xs
      (λ k d lt. h (suc k) d (omega (arith, lt))) j

  pub searched_any : (xs : List X) (r : Result ℕ ℕ) → IsSearchInRange r (length xs) →
      IsBinarySearchResult ord xs r → IsNonDecreasingBy (λ y. ordering_index (ord y)) xs
      → is_ok r ≡ list_any hits xs
  searched_any xs (Ok i) lt h rises = sym (hit_at xs i lt h)
  searched_any xs (Err i) le h rises =
      let point = h rises in
      sym (no_hit xs (λ k d lt. elim (cases_Bool (nat_lt k i)) [
        | inl low ↦ ap is_eq (point.0 k d (omega arith) (ltb-true k i low))
        | inr high ↦ ap is_eq (point.1 k d (ltb-false k i high) lt)
      ]))

-- ---- snapshots by their numbers

pub object_total : IsTotalOrder object_cmp
object_total =
    then_total (λ (a b : Text × ℕ). nat_cmp a.1 b.1) (λ (a b : Text × ℕ). text_cmp a.0 b.0)
    (on_total (λ (x : Text × ℕ). x.1) nat_cmp_total) (on_total (λ (x : Text × ℕ). x.0)
    nat_list_cmp_total)

both_tie : (r s : Ordering) → is_eq (ordering_then r s) ≡ (is_eq s && is_eq r)
both_tie Less Less = refl
both_tie Less Equal = refl
both_tie Less Greater = refl
both_tie Equal Less = refl
both_tie Equal Equal = refl
both_tie Equal Greater = refl
both_tie Greater Less = refl
both_tie Greater Equal = refl
both_tie Greater Greater = refl

-- the row is the snapshot's
own_is : (row : SnapRow) (s : Listed) → is_eq (object_cmp (object_of row) (name_of s)) ≡
    (bytes_eq row.key.snapshotter s.0 && row.number == s.1)
own_is row s = both_tie (nat_cmp row.number s.1) (text_cmp row.key.snapshotter s.0) ∙
    (λ i. is_eq-slice_cmp row.key.snapshotter s.0 i && unsigned_tied row.number s.1 i)

pub any_own : (rows : List (Bor SnapRow)) (s : Listed) → list_any
    (λ (row : Bor SnapRow). is_eq (object_cmp (object_of row.now) (name_of s))) rows
    ≡ list_any (λ (row : SnapRow). bytes_eq row.key.snapshotter s.0 && row.number == s.1)
    (map (λ (row : Bor SnapRow). row.now) rows)
any_own [] s = refl
any_own (row ∷ rows) s = λ i. own_is row.now s i || any_own rows s i

pub any_number : (numbers : List ℕ) (number : ℕ) → list_any (λ other. is_eq (nat_cmp other number))
    numbers ≡ list_any (λ other. other == number) numbers
any_number [] number = refl
any_number (other ∷ numbers) number = λ i. unsigned_tied other number i || any_number numbers number
    i

pub err_is : (r : Result ℕ ℕ) → is_err r ≡ not (is_ok r)
err_is (Ok i) = refl
err_is (Err i) = refl

pub is_tied : (r : Ordering) → is_eq r ≡ true → r ≡ Equal
is_tied Less e = absurd cc
is_tied Equal e = refl
is_tied Greater e = absurd cc

-- a snapshot whose name the owner at a place has, stays
pub any_at : (rows : List (Bor SnapRow)) (s : Listed) (i : ℕ) (row : Bor SnapRow) → i < length rows
    → ((d : Bor SnapRow) → row ≡ slice_index_or rows i d)
    → (bytes_eq row.now.key.snapshotter s.0 && row.now.number == s.1) ≡ true
    → is_snap_removed (map (λ (row : Bor SnapRow). row.now) rows) s ≡ false
any_at rows s i row lt is t =
    let ord : Bor SnapRow → Ordering = λ row. object_cmp (object_of row.now) (name_of s) in
    ap not (sym (any_own rows s)
    ∙ hit_at ord rows i lt (λ d. ap ord (sym (is d)) ∙ is_tied (ord row) (own_is row.now s ∙ t)))

pub both_turned : (a b : Bool) → (a && b) ≡ (b && a)
both_turned true true = refl
both_turned true false = refl
both_turned false true = refl
both_turned false false = refl
