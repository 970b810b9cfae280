-- Rows that stand in slices, and a row at a place.
use Rattle.std.proofs.Common.{◌≡◌, ℕ, zero, suc, ◌+◌, ◌<◌, List, [], ◌∷◌, ◌++◌, Some, None, get_or, length, take, sym, ap, ◌∙◌, arith}
use Rattle.std.specs.Prelude.{slice_get}
use Rattle.std.specs.List.{flat_map}
use Rattle.std.proofs.lemmas.Grind.{flat_map-append}
use Rattle.std.proofs.lemmas.List.{append-nil, append_assoc}
use Rattle.gc_graph.proofs.BookNumbers.{take_next}
use Rattle.meta_types.proofs.ListSearches.{no_none, some_is}

-- one slice more
pub slice_more : {Slice Row X : Type 0} (rows_of : Slice → List Row) (f : Row → List X)
    (slices : List Slice) (i : ℕ) (slice : Slice) (start now new : List X)
    → i < length slices → slice ≡ get_or slices i slice
    → now ≡ start ++ flat_map f (flat_map rows_of (take i slices))
    → new ≡ now ++ flat_map f (rows_of slice)
    → new ≡ start ++ flat_map f (flat_map rows_of (take (i + 1) slices))
slice_more {Slice} {Row} {X} rows_of f slices i slice start now new lt item is step =
    let before : List Row = flat_map rows_of (take i slices) in
    let after : flat_map rows_of (take (i + 1) slices) ≡ before ++ rows_of slice =
    ap (flat_map rows_of) (take_next slices i slice lt item)
    ∙ flat_map-append rows_of (take i slices) (slice ∷ [])
    ∙ ap (λ (l : List Row). before ++ l) (append-nil (rows_of slice)) in
    step ∙ ap (λ (l : List X). l ++ flat_map f (rows_of slice)) is
    ∙ append_assoc start (flat_map f before) (flat_map f (rows_of slice))
    ∙ ap (λ (l : List X). start ++ l)
    (sym (flat_map-append f before (rows_of slice)) ∙ ap (flat_map f) (sym after))

-- the row that is got
pub row_got : {Row : Type 0} (rows : List Row) (i : ℕ) (row : Row) → Some row ≡ slice_get rows i
    → row ≡ get_or rows i row
row_got [] i row e = no_none row (sym e)
row_got (x ∷ rows) zero row e = sym (some_is x row (sym e))
row_got (x ∷ rows) (suc i) row e = row_got rows i row e

-- a place of the list has one
pub some_got : {Row : Type 0} (rows : List Row) (i : ℕ) → i < length rows
    → None ≡ slice_get rows i → ⊥
some_got [] i lt e = absurd (omega (arith, lt))
some_got (x ∷ rows) zero lt e = no_none x e
some_got (x ∷ rows) (suc i) lt e = some_got rows i (omega (arith, lt)) e
