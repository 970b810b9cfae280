-- As many passes as there are things find all that paths end in.
use Rattle.std.proofs.Common.{◌≡◌, ℕ, zero, suc, ◌<◌, List, [], ◌∷◌, length, refl, ap, sym, subst, arith, ◌⊎◌, inl, inr, ℤ}
use Rattle.meta_types.specs.Rows.{Records}
use Rattle.meta_types.specs.Paths.{Thing, things, TellsReached}
use Rattle.meta_types.specs.Finding.{found_in, reached_in}
use Rattle.meta_types.specs.Promises.{ThisTestTells}
use Rattle.meta_types.proofs.Closure.{is_found, pass_over, passes, passes_are_reached, tells_if_closed, closed_from_pass}
use Rattle.meta_types.proofs.Exists.{filter_short, more_kept, grows}

module _ (records : Records) (at : ℤ) where
  -- the passes of the definition are those of the lemmas
  same_passes : (n : ℕ) → found_in n records at ≡ passes n records at
  same_passes zero = refl
  same_passes (suc n) = ap (pass_over records at) (same_passes n)

  -- pass `n + 1` adds nothing, or it has found more than `n` things
  stops_at : (n : ℕ) → (passes (suc n) records at ≡ passes n records at) ⊎ (n < length (passes (suc n) records at))
  stops_at zero = first (passes 1 records at) refl
    where
      first : (found : List Thing) → passes 1 records at ≡ found → (passes 1 records at ≡ []) ⊎ (0 < length (passes 1 records at))
      first [] e = inl e
      first (x ∷ xs) e = inr (rw e (omega arith))
  stops_at (suc n) = elim (stops_at n) [
    | inl same ↦ inl (ap (pass_over records at) same)
    | inr many ↦ elim (more_kept (is_found records.profile at (passes n records at)) (is_found records.profile at (passes (suc n) records at)) (grows records at n) (things records)) [
      | inl same ↦ inl same
      | inr more ↦ inr (omega (arith, many, more))
    ]
  ]

  closes_there : passes (suc (length (things records))) records at ≡ passes (length (things records)) records at
  closes_there = elim (stops_at (length (things records))) [
    | inl same ↦ same
    | inr many ↦ absurd (omega (arith, many, filter_short (is_found records.profile at (passes (length (things records)) records at)) (things records)))
  ]

  tells : TellsReached records at (is_found records.profile at (passes (length (things records)) records at))
  tells = tells_if_closed records at (passes (length (things records)) records at) (passes_are_reached records at (length (things records))) (closed_from_pass records at (passes (length (things records)) records at) closes_there)

  pub this_test_tells_here : TellsReached records at (reached_in records at)
  unfolding reached_in
  this_test_tells_here = subst (λ (found : List Thing). TellsReached records at (is_found records.profile at found)) (sym (same_passes (length (things records)))) tells

-- some pass over all things finds nothing more, and no more passes are wanted than there are things
pub this_test_tells : ThisTestTells
this_test_tells records at = this_test_tells_here records at
