-- The snapshotters of rows, one row at a time.
use Rattle.std.proofs.Common.{Bor, ℕ, zero, suc, ◌≡◌, ◌++◌, ◌+◌, ◌<◌, take, length, get_or, Bool, true, false, List, [], ◌∷◌, Option, None, Some, map, refl, ap, sym, ◌∙◌, inl, inr, subst}
use Rattle.std.specs.Prelude.{bytes_eq, not, if◌then◌else◌}
use Rattle.std.specs.List.{dedup, dedup_from, last_or}
use Rattle.std.specs.Option.{option_map_or}
use Rattle.std.proofs.lemmas.Bool.{cases_Bool}
use Rattle.std.proofs.lemmas.List.{take_more}
use mathlib.Core.List.{map-append}
use Rattle.meta_types.specs.Text.{Text}
use Rattle.meta_types.specs.declared.rows.SnapRow.{SnapRow}
use Rattle.row_tables.proofs.ListLoops.{at_map}
use Rattle.row_tables.proofs.MappedLists.{length_map}

module _ {X : Type 0} (same : X → X → Bool) where
  -- one item in front doesn't change which is the last
  last_from : (k y : X) (ys : List X) → last_or (Some k) (dedup_from same y ys) ≡ last_or None (dedup_from same y ys)
  last_from k y [] = refl
  last_from k y (z ∷ zs) = elim (cases_Bool (same z y)) [
    | inl t ↦ rw t (last_from k y zs)
    | inr f ↦ rw f refl
  ]

  -- an item at the end stays where the last that stays is another
  from_push : (k x : X) (xs : List X) → dedup_from same k (xs ++ x ∷ []) ≡ (if option_map_or (same x) (last_or None (dedup_from same k xs)) false then dedup_from same k xs else dedup_from same k xs ++ x ∷ [])
  from_push k x [] = elim (cases_Bool (same x k)) [
    | inl t ↦ rw t refl
    | inr f ↦ rw f refl
  ]
  from_push k x (y ∷ ys) = elim (cases_Bool (same y k)) [
    | inl t ↦ rw t (from_push k x ys)
    | inr f ↦ rw (f, last_from k y ys) (ap (λ l. k ∷ l) (from_push y x ys) ∙ under (option_map_or (same x) (last_or None (dedup_from same y ys)) false) (dedup_from same y ys))
  ]
    where
      under : (b : Bool) (l : List X) → (k ∷ (if b then l else l ++ x ∷ [])) ≡ (if b then k ∷ l else (k ∷ l) ++ x ∷ [])
      under true l = refl
      under false l = refl

  pub dedup_push : (x : X) (xs : List X) → dedup same (xs ++ x ∷ []) ≡ (if option_map_or (same x) (last_or None (dedup same xs)) false then dedup same xs else dedup same xs ++ x ∷ [])
  dedup_push x [] = refl
  dedup_push x (k ∷ xs) = from_push k x xs

-- the snapshotters of rows, each once
abbrev pub snapshotters_of : List SnapRow → List Text
snapshotters_of rows = dedup bytes_eq (map (λ (row : SnapRow). row.key.snapshotter) rows)

-- the row's snapshotter isn't the last so far
abbrev pub is_next : List SnapRow → SnapRow → Bool
is_next rows row = not (option_map_or (bytes_eq row.key.snapshotter) (last_or None (snapshotters_of rows)) false)

-- one row more
listed_more : (rows : List SnapRow) (i : ℕ) (row : SnapRow) → i < length rows → row ≡ get_or rows i row
    → snapshotters_of (take (i + 1) rows) ≡ (if is_next (take i rows) row then snapshotters_of (take i rows) ++ row.key.snapshotter ∷ [] else snapshotters_of (take i rows))
listed_more rows i row lt is =
    ap snapshotters_of (take_more rows i row lt ∙ ap (λ r. take i rows ++ r ∷ []) (sym is)) ∙ ap (dedup bytes_eq) (map-append (λ (r : SnapRow). r.key.snapshotter) (take i rows) (row ∷ []))
    ∙ dedup_push bytes_eq row.key.snapshotter (map (λ (r : SnapRow). r.key.snapshotter) (take i rows))
    ∙ flip (option_map_or (bytes_eq row.key.snapshotter) (last_or None (snapshotters_of (take i rows))) false) (snapshotters_of (take i rows)) (snapshotters_of (take i rows) ++ row.key.snapshotter ∷ [])
  where
    flip : (b : Bool) (x y : List Text) → (if b then x else y) ≡ (if not b then y else x)
    flip true x y = refl
    flip false x y = refl

-- an item at the end is the last
pub last_push : {X : Type 0} (o : Option X) (xs : List X) (x : X) → Some x ≡ last_or o (xs ++ x ∷ [])
last_push o [] x = refl
last_push o (y ∷ ys) x = last_push (Some y) ys x

-- a row whose snapshotter is listed next, or isn't
pub is_listed : (rows : List SnapRow) (i : ℕ) (row : SnapRow) → i < length rows → row ≡ get_or rows i row → is_next (take i rows) row ≡ true
    → snapshotters_of (take (i + 1) rows) ≡ snapshotters_of (take i rows) ++ row.key.snapshotter ∷ []
is_listed rows i row lt is next = listed_more rows i row lt is ∙ ap (λ b. if b then snapshotters_of (take i rows) ++ row.key.snapshotter ∷ [] else snapshotters_of (take i rows)) next

pub is_passed : (rows : List SnapRow) (i : ℕ) (row : SnapRow) → i < length rows → row ≡ get_or rows i row → is_next (take i rows) row ≡ false
    → snapshotters_of (take (i + 1) rows) ≡ snapshotters_of (take i rows)
is_passed rows i row lt is next = listed_more rows i row lt is ∙ ap (λ b. if b then snapshotters_of (take i rows) ++ row.key.snapshotter ∷ [] else snapshotters_of (take i rows)) next

-- ---- rows that are borrowed

mapped_take : {X Y : Type 0} (f : X → Y) (i : ℕ) (xs : List X) → map f (take i xs) ≡ take i (map f xs)
mapped_take f zero xs = refl
mapped_take f (suc i) [] = refl
mapped_take f (suc i) (x ∷ xs) = ap (λ rest. f x ∷ rest) (mapped_take f i xs)

module _ (rows : List (Bor SnapRow)) (i : ℕ) (row : Bor SnapRow) (lt : i < length rows) (is : row ≡ get_or rows i row) where
  abbrev lent : Bor SnapRow → SnapRow
  lent r = r.now

  within : i < length (map lent rows)
  within = subst (λ n. i < n) (sym (length_map lent rows)) lt

  pub lent_listed : is_next (map lent (take i rows)) row.now ≡ true → snapshotters_of (map lent (take (i + 1) rows)) ≡ snapshotters_of (map lent (take i rows)) ++ row.now.key.snapshotter ∷ []
  lent_listed next = ap snapshotters_of (mapped_take lent (i + 1) rows)
      ∙ is_listed (map lent rows) i row.now within (at_map lent rows i row is) (ap (λ l. is_next l row.now) (sym (mapped_take lent i rows)) ∙ next)
      ∙ ap (λ l. snapshotters_of l ++ row.now.key.snapshotter ∷ []) (sym (mapped_take lent i rows))

  pub lent_passed : is_next (map lent (take i rows)) row.now ≡ false → snapshotters_of (map lent (take (i + 1) rows)) ≡ snapshotters_of (map lent (take i rows))
  lent_passed next = ap snapshotters_of (mapped_take lent (i + 1) rows)
      ∙ is_passed (map lent rows) i row.now within (at_map lent rows i row is) (ap (λ l. is_next l row.now) (sym (mapped_take lent i rows)) ∙ next)
      ∙ ap snapshotters_of (sym (mapped_take lent i rows))
