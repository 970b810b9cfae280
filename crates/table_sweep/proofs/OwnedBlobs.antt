-- Marks of the blobs that rows own.
use Rattle.std.proofs.Common.{◌≡◌, ℕ, zero, suc, ◌+◌, ◌<◌, Bool, true, false, cond, not, List, [], ◌∷◌, ◌++◌, map, filter, length, get_or, take, refl, sym, ap, ◌∙◌, subst, inl, inr, Option, Some, None, if◌then◌else◌, true≢false}
use Rattle.std.specs.Prelude.{◌&&◌, ◌||◌, bytes_eq, slice_get, slice_set}
use Rattle.std.specs.List.{position, IsDistinct, AllByRecursion}
use Rattle.std.specs.Option.{option_map, option_map_or}
use Rattle.std.specs.Ordering.{is_lt, ordering_then}
use Rattle.std.specs.declared.cmp.Ordering.{Ordering}
use Rattle.std.specs.declared.cmp.Ordering.TheVariants.{Less, Equal, Greater}
use Rattle.std.proofs.lemmas.Bool.{cases_Bool}
use Rattle.std.proofs.lemmas.List.{map-id}
use Rattle.std.proofs.lemmas.List.Folds.{list_any-append}
use Rattle.std.proofs.lemmas.Option.{slice_get_within}
use Rattle.meta_types.proofs.ListSearches.{no_none, some_is}
use Rattle.meta_types.specs.Text.{Text, text_cmp}
use Rattle.meta_types.specs.Keys.{is_key, is_before}
use Rattle.meta_types.specs.declared.rows.ContentRow.{ContentRow}
use Rattle.gc_graph.proofs.Truths.{or_none}
use Rattle.object_tables.specs.Calls.{kept}
use Rattle.row_tables.specs.Arrived.{one_text, same_text, same_key, keys_equiv, sorted}
use Rattle.row_tables.proofs.FirstPosition.{position_next}
use Rattle.row_tables.proofs.Arrivals.{stayed, kept_is}
use Rattle.row_tables.proofs.KeysOnce.{kept_apart}
use Rattle.table_sweep.specs.Masks.{gone}
use Rattle.table_sweep.specs.Owned.{owns_blob}
use Rattle.table_sweep.proofs.InSlices.{kept_now}
use Rattle.table_sweep.proofs.RemovedNames.{names_step}
use Rattle.table_sweep.proofs.MasksFilter.{gone_is}

-- ---- one mark

abbrev set_there : List Bool → Option ℕ → List Bool
set_there marks None = marks
set_there marks (Some place) = slice_set marks place true

set_behind : (mark : Bool) (marks : List Bool) (o : Option ℕ) → set_there (mark ∷ marks) (option_map suc o) ≡ mark ∷ set_there marks o
set_behind mark marks None = refl
set_behind mark marks (Some place) = refl

module _ (digest : Text) (before : Text → Bool) where
  abbrev has : Text → Bool
  has other = is_key (one_text digest) (one_text other)

  abbrev after : Text → Bool
  after other = bytes_eq digest other || before other

  apart_from : (x : Text) → bytes_eq digest x ≡ true → (blobs : List Text) → AllByRecursion (λ other. same_key one_text x other ≡ false) blobs → map before blobs ≡ map after blobs
  apart_from x here [] all = refl
  apart_from x here (y ∷ blobs) all =
      let same : is_key (one_text digest) (one_text x) ≡ true = sym (same_text digest x) ∙ here in
      let other : bytes_eq digest y ≡ false = same_text digest y ∙ keys_equiv.congr (one_text digest) (one_text x) (one_text y) same ∙ all.0 in
      λ i. (sym other i || before y) ∷ apart_from x here blobs all.1 i

  marked : (blobs : List Text) → IsDistinct (same_key one_text) blobs → set_there (map before blobs) (position has blobs) ≡ map after blobs
  unfolding IsDistinct
  marked [] d = refl
  marked (x ∷ blobs) d =
      ap (set_there (before x ∷ map before blobs)) (position_next has x blobs ∙ ap (λ b. cond b (Some 0) (option_map suc (position has blobs))) (sym (same_text digest x)))
      ∙ elim (cases_Bool (bytes_eq digest x)) [
        | inl t ↦ rw t (ap (λ rest. true ∷ rest) (apart_from x t blobs d.0))
        | inr f ↦ rw f (set_behind (before x) (map before blobs) (position has blobs) ∙ ap (λ rest. before x ∷ rest) (marked blobs d.1))
      ]

  pub marked_there : (blobs : List Text) (marks : List Bool) (place : ℕ) → IsDistinct (same_key one_text) blobs → Some place ≡ position has blobs → marks ≡ map before blobs
      → slice_set marks place true ≡ map after blobs
  marked_there blobs marks place d found is = ap (λ (l : List Bool). slice_set l place true) is ∙ ap (set_there (map before blobs)) found ∙ marked blobs d

  pub marked_nowhere : (blobs : List Text) (marks : List Bool) → IsDistinct (same_key one_text) blobs → None ≡ position has blobs → marks ≡ map before blobs → marks ≡ map after blobs
  marked_nowhere blobs marks d none is = is ∙ ap (set_there (map before blobs)) none ∙ marked blobs d

-- ---- a place that is tried

all_at : {X : Type 0} (P : X → Type 0) (xs : List X) (i : ℕ) (y : X) → AllByRecursion P xs
    → slice_get xs i ≡ Some y → P y
all_at P [] i y all e = no_none y e
all_at P (x ∷ xs) zero y all e = subst P (some_is x y e) all.0
all_at P (x ∷ xs) (suc i) y all e = all_at P xs i y all.1 e

module _ (digest other : Text) (t : bytes_eq digest other ≡ true) where
  abbrev has_it : Text → Bool
  has_it o = is_key (one_text digest) (one_text o)

  same_other : is_key (one_text digest) (one_text other) ≡ true
  same_other = sym (same_text digest other) ∙ t

  -- a digest that stands at a place stands there alone
  found_near : (blobs : List Text) (i : ℕ) → IsDistinct (same_key one_text) blobs
      → slice_get blobs i ≡ Some other → Some i ≡ position has_it blobs
  unfolding IsDistinct
  found_near [] i d e = no_none other e
  found_near (x ∷ blobs) zero d e =
      let here : has_it x ≡ true = ap has_it (some_is x other e) ∙ same_other in
      sym (position_next has_it x blobs
      ∙ ap (λ b. cond b (Some 0) (option_map suc (position has_it blobs))) here)
  found_near (x ∷ blobs) (suc i) d e =
      let apart : same_key one_text x other ≡ false =
      all_at (λ y. same_key one_text x y ≡ false) blobs i other d.0 e in
      let rest = found_near blobs i d.1 e in
      let both : has_it x ≡ true → same_key one_text x other ≡ true =
      λ h. sym (keys_equiv.congr (one_text digest) (one_text x) (one_text other) h) ∙ same_other in
      sym (position_next has_it x blobs ∙ elim (cases_Bool (has_it x)) [
        | inl h ↦ absurd (true≢false (sym (both h) ∙ apart))
        | inr f ↦ rw f (ap (option_map suc) (sym rest))
      ])

pub near_there : (digest : Text) (blobs : List Text) (i : ℕ) → IsDistinct (same_key one_text) blobs
    → option_map_or (bytes_eq digest) (slice_get blobs i) false ≡ true
    → Some i ≡ position (λ other. is_key (one_text digest) (one_text other)) blobs
near_there digest blobs i d h = go (slice_get blobs i) refl h
  where
    go : (o : Option Text) → slice_get blobs i ≡ o → option_map_or (bytes_eq digest) o false ≡ true
        → Some i ≡ position (λ other. is_key (one_text digest) (one_text other)) blobs
    go None e t = absurd cc
    go (Some other) e t = found_near digest other t blobs i d e

pub near_within : (digest : Text) (blobs : List Text) (i : ℕ)
    → option_map_or (bytes_eq digest) (slice_get blobs i) false ≡ true → i < length blobs
near_within digest blobs i h = go (slice_get blobs i) refl h
  where
    go : (o : Option Text) → slice_get blobs i ≡ o → option_map_or (bytes_eq digest) o false ≡ true
        → i < length blobs
    go None e t = absurd cc
    go (Some other) e t = slice_get_within blobs i other e

-- ---- the marks of a row

pub row_stays : (digest : Text) (before : Text → Bool) (stays : Bool) (blobs : List Text) (marks : List Bool) → stays ≡ true → marks ≡ map (λ other. bytes_eq digest other || before other) blobs
    → marks ≡ map (λ other. (stays && bytes_eq digest other) || before other) blobs
row_stays digest before stays blobs marks t is = rw t is

or_turned : (a b : Bool) → (a || b) ≡ (b || a)
or_turned true true = refl
or_turned true false = refl
or_turned false true = refl
or_turned false false = refl

-- one row more owns its blob
owned_more : (rows : List ContentRow) (row : ContentRow) (stays : Bool) (digest : Text)
    → owns_blob (rows ++ (if stays then row ∷ [] else [])) digest ≡ ((stays && bytes_eq row.digest digest) || owns_blob rows digest)
owned_more rows row true digest = list_any-append (λ other. bytes_eq other.digest digest) rows (row ∷ []) ∙ or_turned (owns_blob rows digest) (bytes_eq row.digest digest || false) ∙ ap (λ b. b || owns_blob rows digest) (or_none (bytes_eq row.digest digest))
owned_more rows row false digest = list_any-append (λ other. bytes_eq other.digest digest) rows [] ∙ or_none (owns_blob rows digest)

pub owned_step : (blobs : List Text) (mask : List Bool) (rows : List ContentRow) (i : ℕ) (d : Bool)
    (row : ContentRow) (start : List ContentRow) (now new : List Bool)
    → length mask ≡ length rows → i < length rows → row ≡ get_or rows i row
    → now ≡ map (owns_blob (start ++ kept (take i mask) (take i rows))) blobs
    → ((before : Text → Bool) → now ≡ map before blobs → new ≡ map
    (λ other. (get_or mask i d && bytes_eq row.digest other) || before other) blobs)
    → new ≡ map (owns_blob (start ++ kept (take (i + 1) mask) (take (i + 1) rows))) blobs
owned_step blobs mask rows i d row start now new long lt item is step =
    let before : List ContentRow = start ++ kept (take i mask) (take i rows) in
    let more : List ContentRow = before ++ (if get_or mask i d then row ∷ [] else []) in
    step (owns_blob before) is
    ∙ (λ j. map (λ other. sym (owned_more before row (get_or mask i d) other) j) blobs)
    ∙ ap (λ (l : List ContentRow). map (owns_blob l) blobs)
    (kept_now mask rows i d row start before more long lt item refl refl)

-- ---- what no row owns

pub gone_step : (mask : List Bool) (blobs : List Text) (i : ℕ) (d : Bool) (digest : Text) (now new : List Text)
    → length mask ≡ length blobs → i < length blobs → digest ≡ get_or blobs i digest
    → now ≡ gone (take i mask) (take i blobs) → new ≡ now ++ (if get_or mask i d then [] else digest ∷ [])
    → new ≡ gone (take (i + 1) mask) (take (i + 1) blobs)
gone_step mask blobs i d digest now new long lt item is step =
    names_step (λ (t : Text). t) mask blobs i d digest now new long lt item (is ∙ sym (map-id (gone (take i mask) (take i blobs)))) step ∙ map-id (gone (take (i + 1) mask) (take (i + 1) blobs))

as_before : (r : Ordering) → is_lt r ≡ is_lt (ordering_then r Equal)
as_before Less = refl
as_before Equal = refl
as_before Greater = refl

pub before_is : (a b : Text) → is_lt (text_cmp a b) ≡ is_before (one_text a) (one_text b)
before_is a b = as_before (text_cmp a b)

-- the removed blobs, sorted, are the removed ones of the sorted blobs
pub gone_sorted : (owns : Text → Bool) (blobs : List Text) (marks : List Bool) → IsDistinct (same_key one_text) blobs → marks ≡ map owns blobs
    → sorted one_text (gone marks blobs) ≡ filter (λ digest. not (owns digest)) (sorted one_text blobs)
gone_sorted owns blobs marks d is =
    let goes : Text → Bool = λ digest. not (owns digest) in
    ap (λ m. sorted one_text (gone m blobs)) is ∙ ap (sorted one_text) (gone_is owns blobs)
    ∙ stayed one_text goes blobs d (subst (IsDistinct (same_key one_text)) (kept_is one_text goes blobs) (kept_apart one_text (map goes blobs) blobs d))
