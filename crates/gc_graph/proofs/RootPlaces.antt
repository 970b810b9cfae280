-- Places of rows, and what roots reference.
use Rattle.std.proofs.Common.{◌≡◌, ℕ, suc, ◌+◌, ◌<◌, Bool, true, false, List, [], ◌∷◌, ◌++◌, map, length, filter, get_or, take, refl, sym, ap, ◌∙◌, arith, ℤ, append_assoc, if◌then◌else◌}
use Rattle.std.specs.List.{flat_map}
use Rattle.std.proofs.lemmas.List.{length-take-le}
use Rattle.meta_types.specs.Paths.{Thing, is_root}
use Rattle.gc_graph.specs.declared.node.Node.{Node}
use Rattle.gc_graph.specs.Built.{targets_in, root_targets, numbers_in, places, root_places}
use Rattle.std.proofs.lemmas.List.{map-append}
use Rattle.meta_types.specs.Text.{Text}
use Rattle.meta_types.specs.declared.resource.Mode.{Mode}
use Rattle.meta_types.specs.declared.resource.Resource.{Resource}
use Rattle.gc_graph.specs.Targets.{node, resource_mode, resource_targets}
use Rattle.gc_graph.proofs.BookNumbers.{take_next, numbers_in-append}
use Rattle.gc_graph.proofs.SliceLoops.{flat_next}

module _ {Row : Type 0} (holds : Row → Bool) where
  pub places-append : (n : ℕ) (xs ys : List Row) → places holds n (xs ++ ys) ≡ places holds n xs ++ places holds (n + length xs) ys
  places-append n [] ys = ap (λ k. places holds k ys) (omega arith)
  places-append n (x ∷ xs) ys = go (holds x) (places-append (suc n) xs ys ∙ ap (λ k. places holds (suc n) xs ++ places holds k ys) (omega arith))
    where
      go : (b : Bool) → places holds (suc n) (xs ++ ys) ≡ places holds (suc n) xs ++ places holds (n + suc (length xs)) ys
          → (if b then n ∷ places holds (suc n) (xs ++ ys) else places holds (suc n) (xs ++ ys)) ≡ (if b then n ∷ places holds (suc n) xs else places holds (suc n) xs) ++ places holds (n + suc (length xs)) ys
      go true e = ap (λ rest. n ∷ rest) e
      go false e = e

  -- one row more
  pub places_step : (n k i : ℕ) (start now new : List ℕ) (rows : List Row) (row : Row) (b : Bool) → b ≡ holds row → k ≡ n + i → i < length rows → row ≡ get_or rows i row
      → now ≡ start ++ places holds n (take i rows) → new ≡ now ++ (if b then k ∷ [] else []) → new ≡ start ++ places holds n (take (i + 1) rows)
  places_step n k i start now new rows row b test place lt item is step =
      let before = take i rows in
      let long : length before ≡ i = length-take-le i rows (omega (arith, lt)) in
      let here : k ≡ n + length before = omega (arith, place, long) in
      step ∙ (λ j. is j ++ (if test j then here j ∷ [] else []))
      ∙ append_assoc start (places holds n before) (if holds row then (n + length before) ∷ [] else [])
      ∙ ap (λ rest. start ++ rest) (sym (places-append n before (row ∷ [])))
      ∙ ap (λ rs. start ++ places holds n rs) (sym (take_next rows i row lt item))

  -- one slice of rows more
  pub places_slice : {Slice : Type 0} (rows_of : Slice → List Row) (n k i : ℕ) (start now new : List ℕ) (slices : List Slice) (slice : Slice) → i < length slices → slice ≡ get_or slices i slice
      → k ≡ n + length (flat_map rows_of (take i slices)) → now ≡ start ++ places holds n (flat_map rows_of (take i slices)) → new ≡ now ++ places holds k (rows_of slice)
      → new ≡ start ++ places holds n (flat_map rows_of (take (i + 1) slices))
  places_slice rows_of n k i start now new slices slice lt is here so step =
      let front = flat_map rows_of (take i slices) in
      step ∙ (λ j. so j ++ places holds (here j) (rows_of slice))
      ∙ append_assoc start (places holds n front) (places holds (n + length front) (rows_of slice))
      ∙ ap (λ l. start ++ l) (sym (places-append n front (rows_of slice)))
      ∙ ap (λ l. start ++ places holds n l) (sym (flat_next rows_of slices i slice lt is))

-- the places of things are those of their rows
pub root_places_of : {Row : Type 0} (profile : ℕ) (at : ℤ) (thing : Row → Thing) (n : ℕ) (rows : List Row) → places (λ row. is_root profile at (thing row)) n rows ≡ root_places profile at n (map thing rows)
root_places_of profile at thing n [] = refl
root_places_of profile at thing n (row ∷ rows) = go (is_root profile at (thing row)) (root_places_of profile at thing (suc n) rows)
  where
    go : (b : Bool) → places (λ row. is_root profile at (thing row)) (suc n) rows ≡ root_places profile at (suc n) (map thing rows)
        → (if b then n ∷ places (λ row. is_root profile at (thing row)) (suc n) rows else places (λ row. is_root profile at (thing row)) (suc n) rows) ≡ (if b then n ∷ root_places profile at (suc n) (map thing rows) else root_places profile at (suc n) (map thing rows))
    go true e = ap (λ rest. n ∷ rest) e
    go false e = e

pub root_places-append : (profile : ℕ) (at : ℤ) (n : ℕ) (xs ys : List Thing) → root_places profile at n (xs ++ ys) ≡ root_places profile at n xs ++ root_places profile at (n + length xs) ys
root_places-append profile at n [] ys = ap (λ k. root_places profile at k ys) (omega arith)
root_places-append profile at n (x ∷ xs) ys = go (is_root profile at x) (root_places-append profile at (suc n) xs ys ∙ ap (λ k. root_places profile at (suc n) xs ++ root_places profile at k ys) (omega arith))
  where
    go : (b : Bool) → root_places profile at (suc n) (xs ++ ys) ≡ root_places profile at (suc n) xs ++ root_places profile at (n + suc (length xs)) ys
        → (if b then n ∷ root_places profile at (suc n) (xs ++ ys) else root_places profile at (suc n) (xs ++ ys)) ≡ (if b then n ∷ root_places profile at (suc n) xs else root_places profile at (suc n) xs) ++ root_places profile at (n + suc (length xs)) ys
    go true e = ap (λ rest. n ∷ rest) e
    go false e = e

-- things of which none is a root have no places
pub no_places : {Row : Type 0} (profile : ℕ) (at : ℤ) (thing : Row → Thing) → ((row : Row) → is_root profile at (thing row) ≡ false) → (n : ℕ) (rows : List Row) → root_places profile at n (map thing rows) ≡ []
no_places profile at thing none n [] = refl
no_places profile at thing none n (row ∷ rows) = ap (λ b. if b then n ∷ root_places profile at (suc n) (map thing rows) else root_places profile at (suc n) (map thing rows)) (none row) ∙ no_places profile at thing none (suc n) rows

-- what roots reference, row by row
pub root_targets_of : {Row : Type 0} (profile : ℕ) (at : ℤ) (book : List Node) (thing : Row → Thing) (rows : List Row) → flat_map (λ row. root_targets profile at book (thing row)) rows ≡ flat_map (targets_in book) (filter (is_root profile at) (map thing rows))
root_targets_of profile at book thing [] = refl
root_targets_of profile at book thing (row ∷ rows) = go (is_root profile at (thing row)) (root_targets_of profile at book thing rows)
  where
    go : (b : Bool) → flat_map (λ row. root_targets profile at book (thing row)) rows ≡ flat_map (targets_in book) (filter (is_root profile at) (map thing rows))
        → (if b then targets_in book (thing row) else []) ++ flat_map (λ row. root_targets profile at book (thing row)) rows ≡ flat_map (targets_in book) (if b then thing row ∷ filter (is_root profile at) (map thing rows) else filter (is_root profile at) (map thing rows))
    go true e = ap (λ rest. targets_in book (thing row) ++ rest) e
    go false e = e

-- one resource more
pub resource_step : (book : List Node) (ns : Text) (mode : Mode) (start now new : List ℕ)
    (resources : List Resource) (i : ℕ) (r : Resource) → i < length resources
    → r ≡ get_or resources i r
    → now ≡ start ++ numbers_in book (resource_targets ns mode (take i resources))
    → new ≡ now ++ numbers_in book (node ns r (resource_mode mode r) ∷ [])
    → new ≡ start ++ numbers_in book (resource_targets ns mode (take (i + 1) resources))
resource_step book ns mode start now new resources i r lt item is step =
    let f : Resource → Node = λ resource. node ns resource (resource_mode mode resource) in
    let before = take i resources in
    let last = numbers_in book (f r ∷ []) in
    step ∙ ap (λ m. m ++ last) is ∙ append_assoc start (numbers_in book (map f before)) last
    ∙ ap (λ rest. start ++ rest) (sym (numbers_in-append book (map f before) (f r ∷ [])))
    ∙ ap (λ ts. start ++ numbers_in book ts) (sym (map-append f before (r ∷ [])))
    ∙ ap (λ rs. start ++ numbers_in book (resource_targets ns mode rs))
    (sym (take_next resources i r lt item))

-- names of rows that hold, row by row
pub held_names : {Row Name : Type 0} (holds : Row → Bool) (name : Row → Name) (rows : List Row) → flat_map (λ row. if holds row then name row ∷ [] else []) rows ≡ map name (filter holds rows)
held_names holds name [] = refl
held_names holds name (row ∷ rows) = go (holds row) (held_names holds name rows)
  where
    go : (b : Bool) → flat_map (λ row. if holds row then name row ∷ [] else []) rows ≡ map name (filter holds rows)
        → (if b then name row ∷ [] else []) ++ flat_map (λ row. if holds row then name row ∷ [] else []) rows ≡ map name (if b then row ∷ filter holds rows else filter holds rows)
    go true e = ap (λ rest. name row ∷ rest) e
    go false e = e

-- the same of borrowed rows
pub held_names_of : {Row X Name : Type 0} (now : Row → X) (holds : X → Bool) (name : X → Name) (rows : List Row) → flat_map (λ row. if holds (now row) then name (now row) ∷ [] else []) rows ≡ map name (filter holds (map now rows))
held_names_of now holds name [] = refl
held_names_of now holds name (row ∷ rows) = go (holds (now row)) (held_names_of now holds name rows)
  where
    go : (b : Bool) → flat_map (λ row. if holds (now row) then name (now row) ∷ [] else []) rows ≡ map name (filter holds (map now rows))
        → (if b then name (now row) ∷ [] else []) ++ flat_map (λ row. if holds (now row) then name (now row) ∷ [] else []) rows ≡ map name (if b then now row ∷ filter holds (map now rows) else filter holds (map now rows))
    go true e = ap (λ rest. name (now row) ∷ rest) e
    go false e = e
