-- Which backend objects the rows that stay own.
use Rattle.std.proofs.Common.{◌≡◌, ℕ, ◌+◌, ◌<◌, Bool, true, false, List, [], ◌∷◌, ◌++◌, map, length, get_or, take, refl, sym, ap, ◌∙◌, arith, if◌then◌else◌}
use Rattle.std.proofs.lemmas.List.{length-take-le, map-append, get_or_default}
use Rattle.object_tables.specs.Calls.{kept}
use Rattle.gc_graph.proofs.BookNumbers.{take_next}

-- ---- rows that stay

kept_next : {Row : Type 0} (mask : List Bool) (rows : List Row) (b : Bool) (row : Row) → length mask ≡ length rows → kept (mask ++ b ∷ []) (rows ++ row ∷ []) ≡ kept mask rows ++ (if b then row ∷ [] else [])
kept_next [] [] true row e = refl
kept_next [] [] false row e = refl
kept_next [] (r ∷ rows) b row e = absurd (omega (arith, e))
kept_next (m ∷ mask) [] b row e = absurd (omega (arith, e))
kept_next (true ∷ mask) (r ∷ rows) b row e = ap (λ rest. r ∷ rest) (kept_next mask rows b row (omega (arith, e)))
kept_next (false ∷ mask) (r ∷ rows) b row e = kept_next mask rows b row (omega (arith, e))

map_if : {Row Name : Type 0} (name : Row → Name) (b : Bool) (row : Row) → map name (if b then row ∷ [] else []) ≡ (if b then name row ∷ [] else [])
map_if name true row = refl
map_if name false row = refl

-- one row more
pub kept_step : {Row Name : Type 0} (name : Row → Name) (mask : List Bool) (rows : List Row) (i : ℕ) (d : Bool) (row : Row) (now new : List Name)
    → length mask ≡ length rows → i < length rows → row ≡ get_or rows i row
    → now ≡ map name (kept (take i mask) (take i rows)) → new ≡ now ++ (if get_or mask i d then name row ∷ [] else [])
    → new ≡ map name (kept (take (i + 1) mask) (take (i + 1) rows))
kept_step name mask rows i d row now new long lt item is step =
    let b = get_or mask i d in
    let lt_mask : i < length mask = omega (arith, long, lt) in
    let same : b ≡ get_or mask i b = get_or_default mask i d b lt_mask in
    let before = kept (take i mask) (take i rows) in
    let next : kept (take (i + 1) mask) (take (i + 1) rows) ≡ before ++ (if b then row ∷ [] else [])
    = (λ j. kept (take_next mask i b lt_mask same j) (take_next rows i row lt item j))
    ∙ kept_next (take i mask) (take i rows) b row (length-take-le i mask (omega (arith, lt_mask)) ∙ sym (length-take-le i rows (omega (arith, lt)))) in
    step ∙ (λ j. is j ++ sym (map_if name b row) j) ∙ sym (map-append name before (if b then row ∷ [] else [])) ∙ ap (map name) (sym next)
