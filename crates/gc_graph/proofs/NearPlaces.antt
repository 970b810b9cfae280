-- A row that stands at a place that is tried is the first of its key.
use Rattle.std.proofs.Common.{◌≡◌, ℕ, zero, suc, Bool, true, false, cond, List, [], ◌∷◌, refl, sym, ap, ◌∙◌, subst, inl, inr, Bor, Option, Some, None, true≢false}
use Rattle.std.specs.Prelude.{◌&&◌, bytes_eq, slice_get}
use Rattle.std.specs.List.{position, IsDistinct, AllByRecursion}
use Rattle.std.specs.Option.{option_map, option_map_or, option_copied}
use Rattle.std.proofs.lemmas.Bool.{cases_Bool}
use Rattle.meta_types.proofs.ListSearches.{no_none, some_is}
use Rattle.meta_types.specs.Keys.{Key, is_key}
use Rattle.meta_types.specs.Rows.{content_key, snap_key}
use Rattle.meta_types.specs.Text.{Text}
use Rattle.meta_types.specs.declared.rows.ContentRow.{ContentRow}
use Rattle.meta_types.specs.declared.rows.SnapRow.{SnapRow}
use Rattle.row_tables.specs.Arrived.{same_key, keys_equiv}
use Rattle.row_tables.proofs.FirstPosition.{position_next}

all_at : {X : Type 0} (P : X → Type 0) (xs : List X) (i : ℕ) (y : X) → AllByRecursion P xs
    → slice_get xs i ≡ Some y → P y
all_at P [] i y all e = no_none y e
all_at P (x ∷ xs) zero y all e = subst P (some_is x y e) all.0
all_at P (x ∷ xs) (suc i) y all e = all_at P xs i y all.1 e

module _ {Row : Type 0} (key_of : Row → Key) (key : Key) where
  abbrev has : Row → Bool
  has row = is_key key (key_of row)

  found_near : (rows : List Row) (i : ℕ) (row : Row) → has row ≡ true
      → IsDistinct (same_key key_of) rows → slice_get rows i ≡ Some row
      → Some i ≡ position has rows
  unfolding IsDistinct
  found_near [] i row t d e = no_none row e
  found_near (x ∷ rows) zero row t d e =
      let here : has x ≡ true = ap has (some_is x row e) ∙ t in
      sym (position_next has x rows
      ∙ ap (λ b. cond b (Some 0) (option_map suc (position has rows))) here)
  found_near (x ∷ rows) (suc i) row t d e =
      let apart : same_key key_of x row ≡ false =
      all_at (λ y. same_key key_of x y ≡ false) rows i row d.0 e in
      let rest = found_near rows i row t d.1 e in
      let both : has x ≡ true → same_key key_of x row ≡ true =
      λ h. sym (keys_equiv.congr key (key_of x) (key_of row) h) ∙ t in
      sym (position_next has x rows ∙ elim (cases_Bool (has x)) [
        | inl h ↦ absurd (true≢false (sym (both h) ∙ apart))
        | inr f ↦ rw f (ap (option_map suc) (sym rest))
      ])

  -- the place of a row with the key
  near_there : (lent rows : List Row) (i : ℕ) → rows ≡ lent → IsDistinct (same_key key_of) rows
      → option_map_or has (slice_get lent i) false ≡ true → Some i ≡ position has rows
  near_there lent rows i is d h = go (slice_get lent i) refl h
    where
      go : (o : Option Row) → slice_get lent i ≡ o → option_map_or has o false ≡ true
          → Some i ≡ position has rows
      go None e t = absurd cc
      go (Some row) e t = found_near rows i row t d (ap (λ (l : List Row). slice_get l i) is ∙ e)

-- what a test says of a row that is lent
pub tested_there : {X Y : Type 0} (f : X → Y) (d : Y) (lent : Option (Bor X)) (there : Option X)
    (row : Bor X) → lent ≡ Some row → option_copied lent ≡ there
    → f row.now ≡ option_map_or f there d
tested_there f d lent there row here copied =
    ap (λ o. option_map_or f (option_copied o) d) (sym here) ∙ ap (λ o. option_map_or f o d) copied

pub untested : {X Y : Type 0} (f : X → Y) (d : Y) (lent : Option (Bor X)) (there : Option X)
    → lent ≡ None → option_copied lent ≡ there → d ≡ option_map_or f there d
untested f d lent there here copied =
    ap (λ o. option_map_or f (option_copied o) d) (sym here) ∙ ap (λ o. option_map_or f o d) copied

-- ---- in what order the texts of a key are compared

two_turned : (a b : Bool) → (a && b) ≡ (b && (a && true))
two_turned true true = refl
two_turned true false = refl
two_turned false true = refl
two_turned false false = refl

three_turned : (a b c : Bool) → (a && b && c) ≡ (c && (b && (a && true)))
three_turned true true true = refl
three_turned true true false = refl
three_turned true false true = refl
three_turned true false false = refl
three_turned false true true = refl
three_turned false true false = refl
three_turned false false true = refl
three_turned false false false = refl

-- the content that stands at a place
pub content_there : (ns digest : Text) (lent rows : List ContentRow) (i : ℕ)
    → rows ≡ lent → IsDistinct (same_key content_key) rows
    → option_map_or (λ row. bytes_eq digest row.digest && bytes_eq ns row.ns)
    (slice_get lent i) false ≡ true
    → Some i ≡ position (λ row. is_key (ns ∷ digest ∷ []) (content_key row)) rows
content_there ns digest lent rows i is d h =
    near_there content_key (ns ∷ digest ∷ []) lent rows i is d
    ((λ j. option_map_or (λ (row : ContentRow).
    sym (two_turned (bytes_eq digest row.digest) (bytes_eq ns row.ns)) j)
    (slice_get lent i) false) ∙ h)

-- the snapshot that stands at a place
pub snapshot_there : (ns snapshotter name : Text) (lent rows : List SnapRow) (i : ℕ)
    → rows ≡ lent → IsDistinct (same_key snap_key) rows
    → option_map_or (λ row. bytes_eq name row.key.name
    && bytes_eq snapshotter row.key.snapshotter && bytes_eq ns row.key.ns)
    (slice_get lent i) false ≡ true
    → Some i ≡ position (λ row. is_key (ns ∷ snapshotter ∷ name ∷ []) (snap_key row)) rows
snapshot_there ns snapshotter name lent rows i is d h =
    near_there snap_key (ns ∷ snapshotter ∷ name ∷ []) lent rows i is d
    ((λ j. option_map_or (λ (row : SnapRow). sym (three_turned
    (bytes_eq name row.key.name) (bytes_eq snapshotter row.key.snapshotter)
    (bytes_eq ns row.key.ns)) j) (slice_get lent i) false) ∙ h)
