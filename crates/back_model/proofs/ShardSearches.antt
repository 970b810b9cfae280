-- What a search by halves finds among shards in the order of their snapshotters.
use Rattle.std.proofs.Common.{◌≡◌, ◌<◌, ◌+◌, ℕ, suc, zero, List, [], ◌∷◌, map, length, get_or, sym, ◌∙◌, ap, subst, arith}
use Rattle.std.specs.Prelude.{Result, Ok, Err}
use Rattle.std.specs.List.{AllByRecursion}
use Rattle.std.specs.List.Sorted.{IsBinarySearchResult, IsNonDecreasingBy, IsSearchInRange}
use Rattle.std.specs.declared.cmp.Ordering.{Ordering}
use Rattle.std.specs.declared.cmp.Ordering.TheVariants.{Less, Equal, Greater}
use Rattle.std.specs.Cmp.Lexicographic.{nat_list_cmp_total}
use Rattle.std.specs.Ordering.{is_lt, ordering_index, ordering_reverse}
use Rattle.std.proofs.lemmas.List.Sorted.{searchable_from_sorted}
use Rattle.meta_types.specs.Text.{Text, text_cmp}
use Rattle.back_model.specs.Shown.{Shard, AreApart, IsPlace}
use Rattle.back_model.proofs.ShardPlaces.{apart_head, apart_rest, same_name}

module _ {X : Type 0} (f : X → Shard) where
  abbrev pub name_in : X → Text
  name_in x = (f x).snapshotter

  abbrev name_at : List X → ℕ → X → Text
  name_at xs i d = name_in (get_or xs i d)

  -- the names of all of them are greater
  abbrev Behind : Text → List Shard → Type 0
  Behind t shards = AllByRecursion (λ y. text_cmp t y ≡ Less) (map (λ s. s.snapshotter) shards)

  behind_at : (t : Text) (xs : List X) → Behind t (map f xs) → (i : ℕ) (d : X) → i < length xs
      → text_cmp t (name_at xs i d) ≡ Less
  behind_at t [] h i d lt = absurd (omega arith)
  behind_at t (x ∷ xs) h zero d lt = h.0
  behind_at t (x ∷ xs) h (suc i) d lt = behind_at t xs h.1 i d (omega arith)

  -- each later name is greater
  less_at : (xs : List X) → AreApart (map f xs) → (k i : ℕ) (d : X) → k < i → i < length xs
      → text_cmp (name_at xs k d) (name_at xs i d) ≡ Less
  less_at [] apart k i d lt within = absurd (omega arith)
  less_at (x ∷ xs) apart k zero d lt within = absurd (omega arith)
  less_at (x ∷ xs) apart zero (suc i) d lt within =
      behind_at (name_in x) xs (apart_head (f x) (map f xs) apart) i d (omega arith)
  less_at (x ∷ xs) apart (suc k) (suc i) d lt within =
      less_at xs (apart_rest (f x) (map f xs) apart) k i d (omega arith) (omega arith)

  module _ (name : Text) where
    -- how an item's name compares to the one that is looked for
    abbrev pub compared : X → Ordering
    compared x = text_cmp (name_in x) name

    turned : (r : Ordering) (x : X) → compared x ≡ r
        → text_cmp name (name_in x) ≡ ordering_reverse r
    turned r x is = nat_list_cmp_total.antisymm name (name_in x) ∙ ap ordering_reverse is

    rises : (xs : List X) → AreApart (map f xs)
        → IsNonDecreasingBy (λ x. ordering_index (compared x)) xs
    rises xs apart =
        searchable_from_sorted nat_list_cmp_total name_in xs name (λ k d low lt.
        ap is_lt (nat_list_cmp_total.antisymm (name_at xs (k + 1) d) (name_at xs k d)
        ∙ ap ordering_reverse (less_at xs apart k (k + 1) d (omega arith) lt)))

    pub searched : (xs : List X) (found : Result ℕ ℕ) → AreApart (map f xs)
        → IsSearchInRange found (length xs) → IsBinarySearchResult compared xs found
        → IsPlace name_in name xs found
    searched xs (Ok i) apart within h = (
      within,
      λ d. turned Equal (get_or xs i d) (h d),
      λ k d lt. turned Less (get_or xs k d)
          (subst (λ (t : Text). text_cmp (name_at xs k d) t ≡ Less)
          (same_name (name_at xs i d) name (h d)) (less_at xs apart k i d lt within)),
    )
    searched xs (Err i) apart within h =
        let parted = h (rises xs apart) in (
          within,
          λ d lt. turned Greater (get_or xs i d) (parted.1 i d (omega arith) lt),
          λ k d lt. turned Less (get_or xs k d) (parted.0 k d (omega (arith, within)) lt),
        )
