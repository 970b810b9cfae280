-- What isn't seen of the shards that a sweep leaves out.
use Rattle.std.proofs.Common.{◌≡◌, ◌+◌, ℕ, List, [], ◌∷◌, ◌++◌, map, length, Bool, true, false, refl, sym, ◌∙◌, ap, subst, inl, inr, arith}
use Rattle.std.specs.Prelude.{filter, not, ◌||◌, ◌==◌, Option}
use Rattle.std.specs.List.{AllByRecursion}
use Rattle.std.specs.FinMap as finmap
use Rattle.std.specs.declared.cmp.Ordering.TheVariants.{Less}
use Rattle.std.proofs.lemmas.Bool.{cases_Bool}
use Rattle.meta_types.specs.Text.{Text, text_cmp}
use Rattle.back_model.specs.Snaps.{Snaps, is_empty}
use Rattle.back_model.specs.Shown.{Shard, AreApart, shown, back_snap, snaps_in, all_snaps, all_failures}
use Rattle.back_model.proofs.ShardPlaces.{none_apart, apart_first, apart_head, apart_rest}
use Rattle.backend_sweep.specs.Tasks.{is_left}

module _ {S : Type 0} (contents : S → Snaps) (fails : S → ℕ) (names : List (Text × ℕ)) where
  abbrev view : Text × S → Shard
  view = shown contents fails

  abbrev stays : Text × S → Bool
  stays = is_left contents fails names

  -- what is left out holds nothing
  some : (x : ℕ × Option ℕ) (es : List (ℕ × Option ℕ)) → not (length (x ∷ es) == 0) ≡ false
      → ⊥
  some x es h = grind arith

  nothing : (es : List (ℕ × Option ℕ)) → not (length es == 0) ≡ false → es ≡ []
  nothing [] h = refl
  nothing (x ∷ es) h = absurd (some x es h)

  none_of : (n : ℕ) → not (n == 0) ≡ false → n ≡ 0
  none_of n h = grind arith

  neither : (a b c : Bool) → (a || (b || c)) ≡ false → (a ≡ false) × (b ≡ false)
  neither true b c e = absurd cc
  neither false true c e = absurd cc
  neither false false c e = (refl, refl)

  holds_none : (e : Text × S) → stays e ≡ false → snaps_in (view e) ≡ []
  holds_none e f =
      ap (λ (es : List (ℕ × Option ℕ)). map (back_snap e.0) es)
      (nothing (finmap.entries (contents e.1))
      (neither (not (is_empty (contents e.1))) (not (fails e.1 == 0)) _ f).0)

  failed_none : (e : Text × S) → stays e ≡ false → fails e.1 ≡ 0
  failed_none e f =
      none_of (fails e.1)
      (neither (not (is_empty (contents e.1))) (not (fails e.1 == 0)) _ f).1

  -- the same snapshots
  pub same_snaps : (es : List (Text × S))
      → all_snaps (map view (filter stays es)) ≡ all_snaps (map view es)
  same_snaps [] = refl
  same_snaps (e ∷ es) = elim (cases_Bool (stays e)) [
    | inl t ↦ rw t (ap (λ rest. snaps_in (view e) ++ rest) (same_snaps es))
    | inr f ↦ rw f (same_snaps es
        ∙ ap (λ first. first ++ all_snaps (map view es)) (sym (holds_none e f)))
  ]

  with_none : (n rest : ℕ) → n ≡ 0 → rest ≡ n + rest
  with_none n rest is = omega (arith, is)

  -- the same failures
  pub same_failures : (es : List (Text × S))
      → all_failures (map view (filter stays es)) ≡ all_failures (map view es)
  same_failures [] = refl
  same_failures (e ∷ es) = elim (cases_Bool (stays e)) [
    | inl t ↦ rw t (ap (λ rest. fails e.1 + rest) (same_failures es))
    | inr f ↦ rw f (same_failures es
        ∙ with_none (fails e.1) (all_failures (map view es)) (failed_none e f))
  ]

  abbrev Behind : Text → List Shard → Type 0
  Behind t shards = AllByRecursion (λ y. text_cmp t y ≡ Less) (map (λ s. s.snapshotter) shards)

  still_behind : (t : Text) (es : List (Text × S)) → Behind t (map view es)
      → Behind t (map view (filter stays es))
  still_behind t [] h = h
  still_behind t (e ∷ es) h = elim (cases_Bool (stays e)) [
    | inl y ↦ rw y (h.0, still_behind t es h.1)
    | inr n ↦ rw n (still_behind t es h.1)
  ]

  -- shards stay apart
  pub still_apart : (es : List (Text × S)) → AreApart (map view es)
      → AreApart (map view (filter stays es))
  still_apart [] apart = none_apart
  still_apart (e ∷ es) apart = elim (cases_Bool (stays e)) [
    | inl t ↦ rw t (apart_first e.0 (map (λ s. s.snapshotter) (map view (filter stays es)))
        (still_behind e.0 es (apart_head (view e) (map view es) apart))
        (still_apart es (apart_rest (view e) (map view es) apart)))
    | inr f ↦ rw f (still_apart es (apart_rest (view e) (map view es) apart))
  ]
