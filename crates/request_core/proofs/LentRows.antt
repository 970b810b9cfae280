-- The rows of a listing are those that its reply names. None of it speaks of code.
use Rattle.std.proofs.Common.{◌≡◌, Bool, true, false, List, [], ◌∷◌, Some, None, refl, ap, ◌∙◌, sym}
use Rattle.std.specs.Prelude.{◌&&◌, ◌||◌, bytes_eq, filter, map, not}
use Rattle.meta_types.specs.Text.{Text}
use Rattle.meta_types.specs.Faults.{least_of}
use Rattle.meta_types.specs.declared.rows.SnapRow.{SnapRow}

-- a listing isn't refused whose texts are allowed, and whose namespace is there
pub is_listed : (allowed there : Bool) → allowed ≡ true → there ≡ true
    → least_of (not allowed) (not there || false) false false ≡ None
is_listed true true allowed there = refl
is_listed true false allowed there = absurd cc
is_listed false there allowed is_there = absurd cc

map_twice : {A B C : Type 0} (f : A → B) (g : B → C) (xs : List A)
    → map g (map f xs) ≡ map (λ x. g (f x)) xs
map_twice f g [] = refl
map_twice f g (x ∷ xs) = ap (λ rest. g (f x) ∷ rest) (map_twice f g xs)

-- rows that are lent are shown as the stored ones are
pub lent_rows : {A B C : Type 0} (now : A → B) (show : B → C) (lent : List A) (rows : List B)
    → map now lent ≡ rows → Some (map show rows) ≡ Some (map (λ x. show (now x)) lent)
lent_rows now show lent rows e =
    ap (λ list. Some (map show list)) (sym e) ∙ ap (λ list. Some list) (map_twice now show lent)

-- the snapshots of a snapshotter, under equal names, of equal rows
pub of_snapshotter : (ns snapshotter other_ns other : Text) (rows others listed : List SnapRow)
    → listed ≡ filter (λ row. bytes_eq ns row.key.ns && bytes_eq snapshotter row.key.snapshotter)
    rows
    → ns ≡ other_ns → snapshotter ≡ other → rows ≡ others
    → listed ≡ filter (λ row. bytes_eq other_ns row.key.ns
    && bytes_eq other row.key.snapshotter) others
of_snapshotter ns snapshotter other_ns other rows others listed e ns_is snapshotter_is rows_are =
    e ∙ (λ i. filter (λ row. bytes_eq (ns_is i) row.key.ns
    && bytes_eq (snapshotter_is i) row.key.snapshotter) (rows_are i))
