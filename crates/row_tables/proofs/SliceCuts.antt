-- Rows in slices: where each slice begins, and where a row stands.
use Rattle.std.proofs.Common.{◌≡◌, ℕ, ◌+◌, ◌-◌, ◌<◌, ◌≤◌, zero, suc, List, [], ◌∷◌, ◌++◌, length}
use Rattle.std.proofs.Common.{length-append, append-nil, append_assoc, get_or, take, drop, refl}
use Rattle.std.proofs.Common.{sym, ap, ◌∙◌, subst, arith, ⊎_elim, Bor, Option, Some, None}
use Rattle.std.specs.Prelude.{slice_get, slice_index, option_copied, IfSome}
use Rattle.std.specs.List.{flat_map, HoldsAt}
use Rattle.std.specs.Option.{MatchOption}
use Rattle.std.specs.List.Sorted.{IsNonDecreasing}
use Rattle.std.proofs.Math.Seq.{get_or-append_seam}
use Rattle.std.proofs.lemmas.Bool.{cases_lt}
use Rattle.std.proofs.lemmas.Grind.{flat_map-append}
use Rattle.std.proofs.lemmas.List.{get_or_append_left, take-append-le, take_all, take_more, drop_all}
use Rattle.std.proofs.lemmas.List.Sorted.{IsNonDecreasingBy-from_default}
use Rattle.std.proofs.lemmas.Option.{slice_get_past, slice_get_read}
use Rattle.row_tables.specs.Slices.{AreCut}

-- ---- an element of two lists, one behind the other

module _ {X : Type 0} where
  get_front : (a b : List X) (p : ℕ) → p < length a → slice_get (a ++ b) p ≡ slice_get a p
  get_front [] b p lt = absurd (omega (arith, lt))
  get_front (x ∷ a) b zero lt = refl
  get_front (x ∷ a) b (suc p) lt = get_front a b p (omega (arith, lt))

  get_behind : (a b : List X) (p q : ℕ) → q ≡ length a + p
      → slice_get (a ++ b) q ≡ slice_get b p
  get_behind [] b p q is = (let same : q ≡ p = omega (arith, is) in ap (slice_get b) same)
  get_behind (x ∷ a) b p zero is = absurd (omega (arith, is))
  get_behind (x ∷ a) b p (suc q) is = get_behind a b p q (omega (arith, is))

-- what a look at a place gives
pub copied_get : {X : Type 0} (r : Option (Bor X)) (xs : List X) (i : ℕ)
    → IfSome r (λ x. x.now ≡ get_or xs i x.now)
    → MatchOption r (length xs ≤ i) (λ x. (i < length xs) × HoldsAt (λ y. x.now ≡ y) xs i)
    → option_copied r ≡ slice_get xs i
copied_get None xs i is past = sym (slice_get_past xs i past)
copied_get (Some x) xs i is there =
    sym (slice_get_read xs (length xs) i x.now refl there.0 is)

module _ {Slice Row : Type 0} (rows_of : Slice → List Row) where
  abbrev all : List Slice → List Row
  all slices = flat_map rows_of slices

  -- ---- one slice more

  -- a list of slices
  pub pushed : (slices new : List Slice) (slice : Slice) (start so : List Row)
      → new ≡ slices ++ slice ∷ [] → flat_map rows_of slices ≡ start ++ so
      → flat_map rows_of new ≡ start ++ (so ++ rows_of slice)
  pushed slices new slice start so made is =
      ap (flat_map rows_of) made ∙ flat_map-append rows_of slices (slice ∷ [])
      ∙ (λ j. is j ++ append-nil (rows_of slice) j) ∙ append_assoc start so (rows_of slice)

  cut_more : (xs : List Slice) (x : Slice) (starts : List ℕ) (count : ℕ)
      → AreCut rows_of xs starts count
      → AreCut rows_of (xs ++ x ∷ []) (starts ++ count ∷ []) (count + length (rows_of x))
  cut_more xs x starts count are =
      let more = starts ++ count ∷ [] in
      let long : length (xs ++ x ∷ []) ≡ length xs + 1 = length-append xs (x ∷ []) in
      let whole : length (all (xs ++ x ∷ [])) ≡ length (all xs) + length (rows_of x) =
      ap length
      (flat_map-append rows_of xs (x ∷ [])
      ∙ ap (λ l. all xs ++ l) (append-nil (rows_of x)))
      ∙ length-append (all xs) (rows_of x) in
      let before : (i : ℕ) → i < length xs
      → slice_index more i ≡ length (all (take i (xs ++ x ∷ []))) =
      λ i lt. (let there : i < length starts = omega (arith, lt, are.many) in
      let le : i ≤ length xs = omega (arith, lt) in
      get_or_append_left starts (count ∷ []) 0 i there ∙ are.each i lt
      ∙ ap (λ l. length (all l)) (sym (take-append-le i xs (x ∷ []) le))) in
      let last : (i : ℕ) → i ≡ length xs
      → slice_index more i ≡ length (all (take i (xs ++ x ∷ []))) =
      λ i same. (let le : i ≤ length xs = omega (arith, same) in
      let past : length xs ≤ i = omega (arith, same) in
      ap (slice_index more) (same ∙ sym are.many) ∙ get_or-append_seam starts count [] 0
      ∙ are.counted
      ∙ ap (λ l. length (all l))
      (sym (take-append-le i xs (x ∷ []) le ∙ take_all i xs past))) in
      record {
        many = length-append starts (count ∷ []) ∙ ap (λ n. n + 1) are.many ∙ sym long;
        each = λ i lt. ⊎_elim (before i)
            (λ ge. (let same : i ≡ length xs = omega (arith, ge, lt, long) in last i same))
            (cases_lt i (length xs));
        counted = ap (λ n. n + length (rows_of x)) are.counted ∙ sym whole;
      }

  -- the slices of a loop so far, and one more
  pub cut_next : (slices : List Slice) (i : ℕ) (x : Slice) (starts : List ℕ) (count : ℕ)
      → i < length slices → x ≡ get_or slices i x → AreCut rows_of (take i slices) starts count
      → AreCut rows_of (take (i + 1) slices) (starts ++ count ∷ []) (count + length (rows_of x))
  cut_next slices i x starts count lt is are =
      subst (λ l. AreCut rows_of l (starts ++ count ∷ []) (count + length (rows_of x)))
      (sym (take_more slices i x lt ∙ ap (λ y. take i slices ++ y ∷ []) (sym is)))
      (cut_more (take i slices) x starts count are)

  -- the slices so far are all
  pub cut_all : (slices : List Slice) (i : ℕ) (starts : List ℕ) (count : ℕ) → length slices ≤ i
      → AreCut rows_of (take i slices) starts count → AreCut rows_of slices starts count
  cut_all slices i starts count past are =
      subst (λ l. AreCut rows_of l starts count) (take_all i slices past) are

  -- ---- the slices begin in turn

  grows : (xs : List Slice) (i j : ℕ) → i ≤ j → length (all (take i xs)) ≤ length (all (take j xs))
  grows [] zero j le = omega arith
  grows (x ∷ xs) zero j le = omega arith
  grows xs (suc i) zero le = absurd (omega (arith, le))
  grows [] (suc i) (suc j) le = omega arith
  grows (x ∷ xs) (suc i) (suc j) le =
      let rest = grows xs i j (omega (arith, le)) in
      omega (
        arith,
        rest,
        length-append (rows_of x) (all (take i xs)),
        length-append (rows_of x) (all (take j xs)),
      )

  module _ (slices : List Slice) (starts : List ℕ) (count : ℕ)
      (are : AreCut rows_of slices starts count) where
    pub starts_rise : IsNonDecreasing starts
    starts_rise = IsNonDecreasingBy-from_default (λ n. n) starts 0 rises
      where
        rises : (i j : ℕ) → i ≤ j → j < length starts → get_or starts i 0 ≤ get_or starts j 0
        rises i j le lt =
            let at_i = are.each i (omega (arith, le, lt, are.many)) in
            let at_j = are.each j (omega (arith, lt, are.many)) in
            omega (arith, at_i, at_j, grows slices i j le)

  -- ---- the row at a place

  split : (xs : List Slice) (k : ℕ) (d : Slice) → k < length xs
      → all xs ≡ all (take k xs) ++ (rows_of (get_or xs k d) ++ all (drop (suc k) xs))
  split [] k d lt = absurd (omega (arith, lt))
  split (x ∷ xs) zero d lt = refl
  split (x ∷ xs) (suc k) d lt =
      ap (λ l. rows_of x ++ l) (split xs k d (omega (arith, lt)))
      ∙ sym (append_assoc (rows_of x) (all (take k xs))
      (rows_of (get_or xs k d) ++ all (drop (suc k) xs)))

  -- one slice has all rows
  pub one_slice : (slices : List Slice) (place : ℕ) (slice : Slice) → length slices ≡ 1
      → slice ≡ get_or slices 0 slice
      → slice_get (rows_of slice) place ≡ slice_get (flat_map rows_of slices) place
  one_slice [] place slice one is = absurd (omega (arith, one))
  one_slice (x ∷ []) place slice one is =
      ap (λ s. slice_get (rows_of s) place) is
      ∙ ap (λ l. slice_get l place) (sym (append-nil (rows_of x)))
  one_slice (x ∷ y ∷ rest) place slice one is = absurd (omega (arith, one))

  module _ (slices : List Slice) (starts : List ℕ) (count : ℕ)
      (are : AreCut rows_of slices starts count) where
    -- it stands in a slice that begins before it, where the next one begins behind it
    pub row_there : (k place : ℕ) (slice : Slice) → k < length slices
        → slice ≡ get_or slices k slice → slice_index starts k ≤ place
        → (k + 1 < length starts → place < slice_index starts (k + 1))
        → slice_get (rows_of slice) (place - slice_index starts k) ≡ slice_get (all slices) place
    row_there k place slice lt is from to =
        let rows = rows_of slice in
        let front = all (take k slices) in
        let rest = all (drop (suc k) slices) in
        let p = place - slice_index starts k in
        let begins : slice_index starts k ≡ length front = are.each k lt in
        let whole : all slices ≡ front ++ (rows ++ rest) =
        split slices k slice lt ∙ ap (λ s. front ++ (rows_of s ++ rest)) (sym is) in
        let behind : place ≡ length front + p = omega (arith, begins, from) in
        let within : k + 1 < length slices → slice_get (rows ++ rest) p ≡ slice_get rows p =
        λ more. (let next = to (omega (arith, more, are.many)) in
        let ends : slice_index starts (k + 1) ≡ length (all (take (k + 1) slices)) =
        are.each (k + 1) more in
        let longer : length (all (take (k + 1) slices)) ≡ length front + length rows =
        ap (λ l. length (all l))
        (take_more slices k slice lt ∙ ap (λ y. take k slices ++ y ∷ []) (sym is))
        ∙ ap length
        (flat_map-append rows_of (take k slices) (slice ∷ [])
        ∙ ap (λ l. front ++ l) (append-nil rows))
        ∙ length-append front rows in
        let inside : p < length rows = omega (arith, next, ends, longer, behind) in
        get_front rows rest p inside) in
        let past : length slices ≤ k + 1 → slice_get (rows ++ rest) p ≡ slice_get rows p =
        λ none. (let over : length slices ≤ suc k = omega (arith, none) in
        ap (λ l. slice_get (rows ++ all l) p) (drop_all (suc k) slices over)
        ∙ ap (λ l. slice_get l p) (append-nil rows)) in
        sym
        (ap (λ l. slice_get l place) whole ∙ get_behind front (rows ++ rest) p place behind
        ∙ ⊎_elim within past (cases_lt (k + 1) (length slices)))

    -- without a slice there is none
    pub no_row : (place : ℕ) → (0 < length starts → place < slice_index starts 0)
        → slice_get (all slices) place ≡ None
    no_row place to = none slices are.each are.many to
      where
        none : (xs : List Slice)
            → ((i : ℕ) → i < length xs → slice_index starts i ≡ length (all (take i xs)))
            → length starts ≡ length xs → (0 < length starts → place < slice_index starts 0)
            → slice_get (all xs) place ≡ None
        none [] each many before = refl
        none (x ∷ xs) each many before =
            let first : slice_index starts 0 ≡ 0 = each 0 (omega arith) in
            let less = before (omega (arith, many)) in
            absurd (omega (arith, first, less))
