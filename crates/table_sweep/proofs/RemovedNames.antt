-- Names of the rows that a mask leaves out.
use Rattle.std.proofs.Common.{◌≡◌, ℕ, ◌+◌, ◌<◌, Bool, true, false, List, [], ◌∷◌, ◌++◌, map, length, get_or, take, refl, sym, ap, ◌∙◌, arith, if◌then◌else◌}
use Rattle.std.proofs.lemmas.List.{length-take-le, map-append, get_or_default}
use Rattle.gc_graph.proofs.BookNumbers.{take_next}
use Rattle.table_sweep.specs.Masks.{gone}
use Rattle.table_sweep.proofs.MasksFilter.{gone_next}

map_if : {Row Name : Type 0} (name : Row → Name) (b : Bool) (row : Row) → map name (if b then [] else row ∷ []) ≡ (if b then [] else name row ∷ [])
map_if name true row = refl
map_if name false row = refl

-- one row more
pub names_step : {Row Name : Type 0} (name : Row → Name) (mask : List Bool) (rows : List Row) (i : ℕ) (d : Bool) (row : Row) (now new : List Name)
    → length mask ≡ length rows → i < length rows → row ≡ get_or rows i row
    → now ≡ map name (gone (take i mask) (take i rows)) → new ≡ now ++ (if get_or mask i d then [] else name row ∷ [])
    → new ≡ map name (gone (take (i + 1) mask) (take (i + 1) rows))
names_step name mask rows i d row now new long lt item is step =
    let b = get_or mask i d in
    let lt_mask : i < length mask = omega (arith, long, lt) in
    let same : b ≡ get_or mask i b = get_or_default mask i d b lt_mask in
    let before = gone (take i mask) (take i rows) in
    let next : gone (take (i + 1) mask) (take (i + 1) rows) ≡ before ++ (if b then [] else row ∷ [])
    = (λ j. gone (take_next mask i b lt_mask same j) (take_next rows i row lt item j))
    ∙ gone_next (take i mask) (take i rows) b row (length-take-le i mask (omega (arith, lt_mask)) ∙ sym (length-take-le i rows (omega (arith, lt)))) in
    step ∙ (λ j. is j ++ sym (map_if name b row) j) ∙ sym (map-append name before (if b then [] else row ∷ [])) ∙ ap (map name) (sym next)

-- borrowed rows have the names of the rows
pub names_of : {Row X Name : Type 0} (now : Row → X) (name : X → Name) (mask : List Bool) (rows : List Row) → map (λ row. name (now row)) (gone mask rows) ≡ map name (gone mask (map now rows))
names_of now name [] [] = refl
names_of now name [] (row ∷ rows) = refl
names_of now name (b ∷ mask) [] = refl
names_of now name (true ∷ mask) (row ∷ rows) = names_of now name mask rows
names_of now name (false ∷ mask) (row ∷ rows) = ap (λ rest. name (now row) ∷ rest) (names_of now name mask rows)
