-- What a filter keeps, what it gives up, and by which name.
use Rattle.std.proofs.Common.{◌≡◌, Bool, true, false, not, List, [], ◌∷◌, map, sym, ap, ◌∙◌, subst, inl, inr}
use Rattle.std.specs.Prelude.{Contains, filter}
use Rattle.std.proofs.lemmas.Bool.{both_ways}
use Rattle.meta_types.specs.Keys.{Key, are_in_order}
use Rattle.meta_types.proofs.Members.{in_filter, from_filter, here, later, first_or_later, none_in_nothing}
use Rattle.meta_types.proofs.OneRowPerKey.{one_row}

-- what stands in a mapped list is the map of something there
pub from_map : {X Y : Type 0} (f : X → Y) (xs : List X) (y : Y) → Contains (map f xs) y → (x : X) × Contains xs x × (f x ≡ y)
from_map f [] y c = none_in_nothing y c
from_map f (x ∷ xs) y c = elim (first_or_later (f x) (map f xs) y c) [
  | inl same ↦ (x, here x xs, same)
  | inr more ↦ (let found = from_map f xs y more in (found.0, later x xs found.0 found.1, found.2))
]

-- the map of what stands in a list stands in the mapped list
pub in_map : {X Y : Type 0} (f : X → Y) (xs : List X) (x : X) → Contains xs x → Contains (map f xs) (f x)
in_map f [] x c = none_in_nothing x c
in_map f (y ∷ ys) x c = elim (first_or_later y ys x c) [
  | inl same ↦ subst (λ z. Contains (f y ∷ map f ys) (f z)) same (here (f y) (map f ys))
  | inr more ↦ later (f y) (map f ys) (f x) (in_map f ys x more)
]

module _ {Row Name : Type 0} (key_of : Row → Key) (name_of : Row → Name) (same : (a b : Row) → name_of a ≡ name_of b → key_of a ≡ key_of b) (stays : Row → Bool) (rows : List Row) where
  -- a row that stays isn't named among those that don't
  pub not_named : are_in_order key_of rows ≡ true → (row : Row) → Contains rows row → stays row ≡ true → Contains (map name_of (filter (λ (r : Row). not (stays r)) rows)) (name_of row) → ⊥
  not_named o row c h named =
      let found = from_map name_of (filter (λ (r : Row). not (stays r)) rows) (name_of row) named in
      let both = from_filter (λ (r : Row). not (stays r)) rows found.0 found.1 in
      let one : found.0 ≡ row = one_row key_of rows o found.0 row both.0 c (same found.0 row found.2) in
      both_ways (not (stays row)) (ap not h) (ap (λ (r : Row). not (stays r)) (sym one) ∙ both.1)

  -- a row that doesn't stay is gone, and is named
  pub gone_and_named : (row : Row) → Contains rows row → stays row ≡ false → (Contains (filter stays rows) row → ⊥) × Contains (map name_of (filter (λ (r : Row). not (stays r)) rows)) (name_of row)
  gone_and_named row c h = (
    (λ left. both_ways (stays row) h (from_filter stays rows row left).1),
    in_map name_of (filter (λ (r : Row). not (stays r)) rows) row (in_filter (λ (r : Row). not (stays r)) rows row c (ap not h)),
  )
