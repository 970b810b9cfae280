-- Loops over slices of rows, one a turn.
use Rattle.std.proofs.Common.{◌≡◌, ℕ, ◌+◌, ◌<◌, ◌≤◌, List, [], ◌∷◌, ◌++◌, map, length, length-append, append-nil, append_assoc, get_or, take, drop, sym, ap, ◌∙◌, subst, arith}
use Rattle.std.specs.Prelude.{All}
use Rattle.std.specs.List.{flat_map}
use Rattle.std.proofs.lemmas.Grind.{flat_map-append}
use Rattle.std.proofs.lemmas.List.{map-append, take-append-drop, take_all}
use Rattle.gc_graph.proofs.BookNumbers.{take_next}
use Rattle.gc_graph.proofs.NodesApart.{All-append}

module _ {Slice Row : Type 0} (rows_of : Slice → List Row) where
  abbrev before : List Slice → ℕ → List Row
  before slices i = flat_map rows_of (take i slices)

  -- the rows up to a slice are some of all
  pub within : (slices : List Slice) (i : ℕ)
      → length (flat_map rows_of (take i slices)) ≤ length (flat_map rows_of slices)
  within slices i =
      let whole : length (flat_map rows_of slices) ≡ length (before slices i) + length (flat_map rows_of (drop i slices)) =
      ap (λ l. length (flat_map rows_of l)) (sym (take-append-drop i slices))
      ∙ ap length (flat_map-append rows_of (take i slices) (drop i slices))
      ∙ length-append (before slices i) (flat_map rows_of (drop i slices)) in
      omega (arith, whole)

  module _ (slices : List Slice) (i : ℕ) (slice : Slice) (lt : i < length slices)
      (is : slice ≡ get_or slices i slice) where
    -- one slice more
    pub flat_next : flat_map rows_of (take (i + 1) slices)
        ≡ flat_map rows_of (take i slices) ++ rows_of slice
    flat_next =
        ap (flat_map rows_of) (take_next slices i slice lt is)
        ∙ flat_map-append rows_of (take i slices) (slice ∷ [])
        ∙ ap (λ l. before slices i ++ l) (append-nil (rows_of slice))

    pub long_next : length (flat_map rows_of (take (i + 1) slices))
        ≡ length (flat_map rows_of (take i slices)) + length (rows_of slice)
    long_next = ap length flat_next ∙ length-append (before slices i) (rows_of slice)

    pub fits_next : length (flat_map rows_of (take i slices)) + length (rows_of slice)
        ≤ length (flat_map rows_of slices)
    fits_next = (let all = within slices (i + 1) in omega (arith, all, long_next))

    -- what holds of the rows so far, and of those of the slice
    pub told_slice : (P : Row → Type 0) → All P (flat_map rows_of (take i slices))
        → All P (rows_of slice) → All P (flat_map rows_of (take (i + 1) slices))
    told_slice P so more =
        subst (All P) (sym flat_next) (All-append P (before slices i) (rows_of slice) so more)

    -- what is made of each row
    pub mapped_slice : {X : Type 0} (f : Row → X) (start now new : List X)
        → now ≡ start ++ map f (flat_map rows_of (take i slices))
        → new ≡ now ++ map f (rows_of slice)
        → new ≡ start ++ map f (flat_map rows_of (take (i + 1) slices))
    mapped_slice f start now new so step =
        step ∙ ap (λ l. l ++ map f (rows_of slice)) so
        ∙ append_assoc start (map f (before slices i)) (map f (rows_of slice))
        ∙ ap (λ l. start ++ l) (sym (ap (map f) flat_next ∙ map-append f (before slices i) (rows_of slice)))

  -- the rows up to the last slice are all
  pub all_slices : (P : List Row → Type 0) (slices : List Slice) (i : ℕ) → length slices ≤ i
      → P (flat_map rows_of (take i slices)) → P (flat_map rows_of slices)
  all_slices P slices i past so = subst (λ l. P (flat_map rows_of l)) (take_all i slices past) so
