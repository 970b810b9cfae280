-- Names of rows that stand in another order, and keys of those that a list of tests keeps.
use Rattle.std.proofs.Common.{◌≡◌, ℕ, ◌+◌, ◌<◌, Bool, true, false, List, [], ◌∷◌, ◌++◌, map, length, get_or, take, refl, sym, ap, ◌∙◌, subst, arith, Some, slice_get, if◌then◌else◌}
use Rattle.std.specs.Prelude.{◌||◌}
use Rattle.std.specs.List.{flat_map, list_any}
use Rattle.std.specs.List.Sorted.{IsPermutation}
use Rattle.std.proofs.lemmas.List.{get_or_default}
use Rattle.std.proofs.lemmas.List.Sorted.{IsPermutation-map}
use Rattle.std.proofs.lemmas.Option.{slice_get-get_or, get_or_from_slice_get}
use Rattle.object_tables.specs.Calls.{kept}
use Rattle.table_sweep.specs.declared.depths.Key.{Key}
use Rattle.table_sweep.specs.Depths.{Listed, depth_in, key_at, key_of}
use Rattle.table_sweep.specs.SnapshotPlaces.{AreDepths}
use Rattle.table_sweep.proofs.Owning.{kept_step}

map_twice : {X Y Z : Type 0} (f : Y → Z) (g : X → Y) (xs : List X) → map f (map g xs) ≡ map
    (λ x. f (g x)) xs
map_twice f g [] = refl
map_twice f g (x ∷ xs) = ap (λ l. f (g x) ∷ l) (map_twice f g xs)

-- where these are the same rows in another order, so are their names
pub names_permuted : {Row One Name : Type 0} (name : Row → Name) (one_of : One → Row)
    (rows : List Row) (ones : List One) (names : List Name) → IsPermutation rows (map one_of ones)
    → names ≡ map (λ one. name (one_of one)) ones
    → IsPermutation (map name rows) names
names_permuted {Row} {One} {Name} name one_of rows ones names p is =
    subst (λ (l : List Name). IsPermutation (map name rows) l)
    (map_twice name one_of ones ∙ sym is) (IsPermutation-map name rows (map one_of ones) p)

-- one snapshot more
pub key_step : (snapshots : List Listed) (goes : List Bool) (depths : List ℕ) (i : ℕ) (d : Bool)
    (e : ℕ) (snap : Listed) (now new : List Key)
    → length goes ≡ length snapshots → AreDepths snapshots goes depths
    → i < length snapshots → snap ≡ get_or snapshots i snap
    → now ≡ map (key_of snapshots) (kept (take i goes) (take i snapshots))
    → new ≡ now ++ (if get_or goes i d then key_at snap (get_or depths i e) ∷ [] else [])
    → new ≡ map (key_of snapshots) (kept (take (i + 1) goes) (take (i + 1) snapshots))
key_step snapshots goes depths i d e snap now new long are lt item is step =
    let read : slice_get snapshots i ≡ Some snap =
    slice_get-get_or snapshots i snap lt ∙ ap Some (sym item) in
    let same : get_or goes i false ≡ get_or goes i d =
    get_or_default goes i false d (omega (arith, long, lt)) in
    kept_step (key_of snapshots) goes snapshots i d snap now new long lt item is
    (step ∙ ap (λ (l : List Key). now ++ l) (there (get_or goes i d) (λ e. same ∙ e) read))
  where
    there : (b : Bool) → (b ≡ true → get_or goes i false ≡ true) → slice_get snapshots i ≡ Some snap
        → (if b then key_at snap (get_or depths i e) ∷ [] else [])
        ≡ (if b then key_of snapshots snap ∷ [] else [])
    there true goes_here read = ap (λ (n : ℕ). key_at snap n ∷ []) (get_or_from_slice_get depths i
        (depth_in (length snapshots) snapshots snap) e (are i snap (goes_here refl) read))
    there false goes_here read = refl

-- what a test keeps, by the list of its answers
pub kept_each : {X Y : Type 0} (p : X → Bool) (f : X → Y) (xs : List X) → map f (kept (map p xs) xs)
    ≡ flat_map (λ x. if p x then f x ∷ [] else []) xs
kept_each p f [] = refl
kept_each {X} {Y} p f (x ∷ xs) = go (p x) (kept_each p f xs)
  where
    go : (b : Bool) → map f (kept (map p xs) xs) ≡ flat_map (λ y. if p y then f y ∷ [] else []) xs
        → map f (if b then x ∷ kept (map p xs) xs else kept (map p xs) xs) ≡
        (if b then f x ∷ [] else []) ++ flat_map (λ y. if p y then f y ∷ [] else []) xs
    go true e = ap (λ (l : List Y). f x ∷ l) e
    go false e = e

-- where none of these is true, none is kept
pub none_kept : {X : Type 0} (goes : List Bool) (xs : List X) → list_any (λ one. one) goes ≡ false
    → kept goes xs ≡ []
none_kept [] xs e = refl
none_kept (one ∷ goes) [] e = refl
none_kept {X} (one ∷ goes) (x ∷ xs) e = go one e (λ rest. none_kept goes xs rest)
  where
    go : (b : Bool) → (b || list_any (λ one. one) goes) ≡ false
        → (list_any (λ one. one) goes ≡ false → kept goes xs ≡ [])
        → (if b then x ∷ kept goes xs else kept goes xs) ≡ []
    go true e rest = absurd cc
    go false e rest = rest e
