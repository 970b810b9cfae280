-- The names of one snapshotter are those between two places.
use Rattle.std.proofs.Common.{◌≡◌, ℕ, suc, ◌+◌, ◌-◌, ◌<◌, ◌≤◌, Bool, true, false, List, [], ◌∷◌, ◌++◌, length, take, drop, refl, sym, ap, ◌∙◌, arith, inl, inr, ltb-true, ltb-false}
use Rattle.std.specs.Prelude.{filter, bytes_eq, nat_lt, slice_index_or}
use Rattle.std.specs.List.{slice_range}
use Rattle.std.specs.List.Sorted.{IsPartitionPoint, IsPartitionedBy, IsNonDecreasingBy}
use Rattle.std.specs.Cmp.Lexicographic.{nat_list_cmp_total}
use Rattle.std.specs.Ordering.{is_lt, is_le, is_eq, ordering_index}
use Rattle.std.specs.declared.cmp.Ordering.{Ordering}
use Rattle.std.specs.declared.cmp.Ordering.TheVariants.{Less, Equal, Greater}
use Rattle.std.proofs.lemmas.Bool.{cases_Bool, both_ways}
use Rattle.std.proofs.lemmas.List.{get_or-take, get_or-drop, length-take-le, length-drop, take-append-drop, append-nil}
use Rattle.std.proofs.lemmas.List.Elements.{filter-append}
use Rattle.std.proofs.lemmas.List.Sorted.{searchable_from_sorted}
use Rattle.std.proofs.lemmas.Map.Text.{is_eq-slice_cmp}
use Rattle.meta_types.specs.Text.{Text, text_cmp}
use Rattle.backend_sweep.specs.Parts.{StandBySnapshotter}

-- ---- tests of three answers

lower : (a b : Ordering) → ordering_index a ≤ ordering_index b → is_lt b ≡ true → is_lt a ≡ true
lower Less b h t = refl
lower Equal Less h t = absurd (omega (arith, h))
lower Equal Equal h t = absurd cc
lower Equal Greater h t = absurd cc
lower Greater Less h t = absurd (omega (arith, h))
lower Greater Equal h t = absurd cc
lower Greater Greater h t = absurd cc

no_higher : (a b : Ordering) → ordering_index a ≤ ordering_index b → is_le b ≡ true → is_le a ≡ true
no_higher Less b h t = refl
no_higher Equal b h t = refl
no_higher Greater Less h t = absurd (omega (arith, h))
no_higher Greater Equal h t = absurd (omega (arith, h))
no_higher Greater Greater h t = absurd cc

less_only : (r : Ordering) → is_lt r ≡ true → is_eq r ≡ false
less_only Less t = refl
less_only Equal t = absurd cc
less_only Greater t = absurd cc

greater_only : (r : Ordering) → is_le r ≡ false → is_eq r ≡ false
greater_only Less t = absurd cc
greater_only Equal t = absurd cc
greater_only Greater t = refl

between : (r : Ordering) → is_lt r ≡ false → is_le r ≡ true → is_eq r ≡ true
between Less l h = absurd cc
between Equal l h = refl
between Greater l h = absurd cc

less_too : (r : Ordering) → is_lt r ≡ true → is_le r ≡ true
less_too Less t = refl
less_too Equal t = absurd cc
less_too Greater t = absurd cc

-- ---- filters

module _ {X : Type 0} (q : X → Bool) where
  all_out : (xs : List X) → ((k : ℕ) (d : X) → k < length xs → q (slice_index_or xs k d) ≡ false)
      → filter q xs ≡ []
  all_out [] h = refl
  all_out (x ∷ xs) h = let first : q x ≡ false = h 0 x (omega arith) in
      rw first (all_out xs (λ k d lt. h (suc k) d (omega (arith, lt))))

  all_in : (xs : List X) → ((k : ℕ) (d : X) → k < length xs → q (slice_index_or xs k d) ≡ true)
      → filter q xs ≡ xs
  all_in [] h = refl
  all_in (x ∷ xs) h = let first : q x ≡ true = h 0 x (omega arith) in
      rw first (ap (λ (l : List X). x ∷ l) (all_in xs (λ k d lt. h (suc k) d (omega (arith, lt)))))

  -- what passes just between two places
  between_places : (xs : List X) (a b : ℕ) → a ≤ b → b ≤ length xs
      → ((k : ℕ) (d : X) → k < a → q (slice_index_or xs k d) ≡ false)
      → ((k : ℕ) (d : X) → a ≤ k → k < b → q (slice_index_or xs k d) ≡ true)
      → ((k : ℕ) (d : X) → b ≤ k → k < length xs → q (slice_index_or xs k d) ≡ false)
      → slice_range xs a b ≡ filter q xs
  between_places xs a b le fits front middle back =
      let rest = drop a xs in
      let long = length-drop a xs in
      let mid_long = length-take-le (b - a) rest (omega (arith, le, fits, long)) in
      let back_long = length-drop (b - a) rest in
      let first = all_out (take a xs) (λ k d lt.
      let here : k < a = omega (arith, lt, length-take-le a xs (omega (arith, le, fits))) in
      ap q (get_or-take a xs k d here) ∙ front k d here) in
      let second = all_in (take (b - a) rest) (λ k d lt.
      let here : k < b - a = omega (arith, lt, mid_long) in
      ap q (get_or-take (b - a) rest k d here ∙ get_or-drop a xs k d)
      ∙ middle (a + k) d (omega arith) (omega (arith, here, le))) in
      let third = all_out (drop (b - a) rest) (λ k d lt.
      ap q (get_or-drop (b - a) rest k d ∙ get_or-drop a xs (b - a + k) d)
      ∙ back (a + (b - a + k)) d (omega (arith, le))
      (omega (arith, lt, back_long, long, le, fits))) in
      let apart : xs ≡ take a xs ++ (take (b - a) rest ++ drop (b - a) rest)
      = sym (take-append-drop a xs)
      ∙ ap (λ (l : List X). take a xs ++ l) (sym (take-append-drop (b - a) rest)) in
      sym (
      ap (filter q) apart
      ∙ filter-append q (take a xs) (take (b - a) rest ++ drop (b - a) rest)
      ∙ (λ i. first i ++ filter-append q (take (b - a) rest) (drop (b - a) rest) i)
      ∙ (λ i. second i ++ third i)
      ∙ append-nil (take (b - a) rest))

-- ---- names

module _ (s : Text) (names : List (Text × ℕ)) where
  abbrev is_before : Text × ℕ → Bool
  is_before name = is_lt (text_cmp name.0 s)

  abbrev is_through : Text × ℕ → Bool
  is_through name = is_le (text_cmp name.0 s)

  abbrev is_own : Text × ℕ → Bool
  is_own name = bytes_eq name.0 s

  abbrev compares : ℕ → Text × ℕ → Ordering
  compares k d = text_cmp (slice_index_or names k d).0 s

  own_is : (name : Text × ℕ) → is_own name ≡ is_eq (text_cmp name.0 s)
  own_is name = sym (is_eq-slice_cmp name.0 s)

  module _ (stand : StandBySnapshotter names) where
    rises : IsNonDecreasingBy (λ (name : Text × ℕ). ordering_index (text_cmp name.0 s)) names
    rises = searchable_from_sorted nat_list_cmp_total (λ (name : Text × ℕ). name.0) names s stand

    pub begins : IsPartitionedBy is_before names
    begins i j d le lt t = lower (compares i d) (compares j d) (rises i j d le lt) t

    pub ends : IsPartitionedBy is_through names
    ends i j d le lt t = no_higher (compares i d) (compares j d) (rises i j d le lt) t

  module _ (a b : ℕ) (a_fits : a ≤ length names) (b_fits : b ≤ length names)
      (begin : IsPartitionPoint (λ (name : Text × ℕ). is_before name ≡ true)
      (λ (name : Text × ℕ). is_before name ≡ false) names a)
      (end : IsPartitionPoint (λ (name : Text × ℕ). is_through name ≡ true)
      (λ (name : Text × ℕ). is_through name ≡ false) names b) where
    pub in_turn : a ≤ b
    in_turn = elim (cases_Bool (nat_lt b a)) [
      | inl t ↦ (
          let none : Text × ℕ = ([], 0) in
          let less : b < a = ltb-true b a t in
          let after = end.1 b none (omega arith) (omega (arith, less, a_fits)) in
          let before = less_too (compares b none) (begin.0 b none (omega arith) less) in
          absurd (both_ways (is_through (slice_index_or names b none)) after before))
      | inr f ↦ omega (arith, ltb-false b a f)
    ]

    own_at : (k : ℕ) (d : Text × ℕ) → is_own (slice_index_or names k d) ≡ is_eq (compares k d)
    own_at k d = own_is (slice_index_or names k d)

    pub part_is : slice_range names a b ≡ filter is_own names
    part_is =
        between_places is_own names a b in_turn b_fits
        (λ k d lt. own_at k d ∙ less_only (compares k d) (begin.0 k d (omega arith) lt))
        (λ k d low lt. own_at k d ∙ between (compares k d)
        (begin.1 k d low (omega (arith, lt, b_fits))) (end.0 k d (omega arith) lt))
        (λ k d low lt. own_at k d ∙ greater_only (compares k d) (end.1 k d low lt))
