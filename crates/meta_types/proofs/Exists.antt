-- For every store and moment there is a test that tells where paths end: some pass adds nothing.
use Rattle.std.proofs.Common.{◌≡◌, ℕ, zero, suc, ◌<◌, ◌≤◌, Bool, true, false, cond, List, [], ◌∷◌, length, refl, sym, ap, arith, ◌⊎◌, inl, inr, ℤ}
use Rattle.std.specs.Prelude.{Contains, filter}
use Rattle.std.specs.List.{list_any}
use Rattle.std.proofs.lemmas.Bool.{or_cases, or_left, or_right, both_ways}
use Rattle.meta_types.specs.Rows.{Records}
use Rattle.meta_types.specs.Paths.{Thing, things, has_edge, is_root, TellsReached}
use Rattle.meta_types.proofs.Members.{from_filter, any_from, found_by_any, in_filter}
use Rattle.meta_types.proofs.Closure.{is_found, passes, passes_are_reached, tells_if_closed, closed_from_pass}

module _ {X : Type 0} where
  pub filter_short : (p : X → Bool) (xs : List X) → length (filter p xs) ≤ length xs
  filter_short p [] = omega arith
  filter_short p (x ∷ xs) = pick (p x) (filter_short p xs)
    where
      pick : (b : Bool) → length (filter p xs) ≤ length xs → length (cond b (x ∷ filter p xs) (filter p xs)) ≤ suc (length xs)
      pick true h = omega arith
      pick false h = omega arith

  -- a weaker test keeps as many, and where it keeps no more it keeps the same
  pub more_kept : (p q : X → Bool) → ((x : X) → p x ≡ true → q x ≡ true) → (xs : List X) → (filter q xs ≡ filter p xs) ⊎ (length (filter p xs) < length (filter q xs))
  more_kept p q h [] = inl refl
  more_kept p q h (x ∷ xs) = pick (p x) (q x) (h x) (more_kept p q h xs)
    where
      pick : (a b : Bool) → (a ≡ true → b ≡ true) → (filter q xs ≡ filter p xs) ⊎ (length (filter p xs) < length (filter q xs))
          → (cond b (x ∷ filter q xs) (filter q xs) ≡ cond a (x ∷ filter p xs) (filter p xs)) ⊎ (length (cond a (x ∷ filter p xs) (filter p xs)) < length (cond b (x ∷ filter q xs) (filter q xs)))
      pick true true f (inl same) = inl (ap (λ ys. x ∷ ys) same)
      pick true true f (inr more) = inr (omega arith)
      pick true false f r = absurd (both_ways false refl (f refl))
      pick false true f (inl same) = inr (omega (arith, ap length same))
      pick false true f (inr more) = inr (omega arith)
      pick false false f r = r

module _ (records : Records) (at : ℤ) where
  -- what is found stays found
  pub grows : (n : ℕ) (thing : Thing) → is_found records.profile at (passes n records at) thing ≡ true → is_found records.profile at (passes (suc n) records at) thing ≡ true
  grows zero thing h = elim (or_cases (is_root records.profile at thing) false h) [
    | inl root ↦ or_left (is_root records.profile at thing) (list_any (λ before. has_edge before thing) (passes 1 records at)) root
    | inr none ↦ absurd (both_ways false refl none)
  ]
  grows (suc n) thing h = elim (or_cases (is_root records.profile at thing) (list_any (λ before. has_edge before thing) (passes (suc n) records at)) h) [
    | inl root ↦ or_left (is_root records.profile at thing) (list_any (λ before. has_edge before thing) (passes (suc (suc n)) records at)) root
    | inr edge ↦ (
        let one = found_by_any (λ before. has_edge before thing) (passes (suc n) records at) edge in
        let both = from_filter (is_found records.profile at (passes n records at)) (things records) one.0 one.1 in
        or_right (is_root records.profile at thing) (list_any (λ before. has_edge before thing) (passes (suc (suc n)) records at))
        (any_from (λ before. has_edge before thing) (passes (suc (suc n)) records at) one.0
        (in_filter (is_found records.profile at (passes (suc n) records at)) (things records) one.0 both.0 (grows n one.0 both.1)) one.2))
  ]

  -- some pass adds nothing, or `n` passes have found at least `n` things
  stops : (n : ℕ) → ((k : ℕ) × (passes (suc k) records at ≡ passes k records at)) ⊎ (n ≤ length (passes n records at))
  stops zero = inr (omega arith)
  stops (suc zero) = first (passes 1 records at) refl
    where
      first : (found : List Thing) → passes 1 records at ≡ found → ((k : ℕ) × (passes (suc k) records at ≡ passes k records at)) ⊎ (1 ≤ length (passes 1 records at))
      first [] e = inl (0, e)
      first (x ∷ xs) e = inr (rw e (omega arith))
  stops (suc (suc n)) = elim (stops (suc n)) [
    | inl closed ↦ inl closed
    | inr many ↦ elim (more_kept (is_found records.profile at (passes n records at)) (is_found records.profile at (passes (suc n) records at)) (grows n) (things records)) [
      | inl same ↦ inl (suc n, same)
      | inr more ↦ inr (omega (arith, many, more))
    ]
  ]

  closes : (k : ℕ) × (passes (suc k) records at ≡ passes k records at)
  closes = elim (stops (suc (length (things records)))) [
    | inl closed ↦ closed
    | inr many ↦ absurd (omega (arith, many, filter_short (is_found records.profile at (passes (length (things records)) records at)) (things records)))
  ]

  -- there is a test that tells where paths end
  pub a_test_tells : (reached : Thing → Bool) × TellsReached records at reached
  a_test_tells = (
    is_found records.profile at (passes closes.0 records at),
    tells_if_closed records at (passes closes.0 records at) (passes_are_reached records at closes.0) (closed_from_pass records at (passes closes.0 records at) closes.1),
  )

  -- and two such tests agree on the things of the store
  pub tests_agree : (p q : Thing → Bool) → TellsReached records at p → TellsReached records at q → (thing : Thing) → Contains (things records) thing → p thing ≡ q thing
  tests_agree p q tp tq thing c = go (p thing) (q thing) (λ h. (tq.each thing c).1 ((tp.each thing c).0 h)) (λ h. (tp.each thing c).1 ((tq.each thing c).0 h))
    where
      go : (a b : Bool) → (a ≡ true → b ≡ true) → (b ≡ true → a ≡ true) → a ≡ b
      go true b f g = sym (f refl)
      go false true f g = g refl
      go false false f g = refl
