-- Sweeping a list of objects: one more.
use Rattle.std.proofs.Common.{◌≡◌, ℕ, ◌+◌, List, [], ◌∷◌, ◌++◌, length, Bool, true, false, not, refl, sym, ◌∙◌, ap, subst, inl, inr, arith, append-nil, length-append, ◌||◌, ◌&&◌}
use Rattle.std.specs.Prelude.{cond, filter, Contains, Err}
use Rattle.std.proofs.lemmas.Bool.{cases_Bool, both_ways, false_from_ne_true}
use Rattle.std.proofs.lemmas.List.Elements.{filter-append}
use Rattle.back_model.specs.Answers.{Removes, remove_fails}
use Rattle.back_model.specs.declared.faults.RemoveFault.{RemoveFault}
use Rattle.back_model.specs.declared.faults.RemoveFault.TheVariants as F
use Rattle.meta_types.proofs.Members.{any_from, found_by_any, from_filter, in_filter}
use Rattle.backend_sweep.specs.Singles.{is_in, AreHeldOnce, SweepsEach}
use Rattle.backend_sweep.proofs.Pairing.{same_kept, in_back}

-- a removal that is refused where the object is held was failed by the device
pub device : (f : RemoveFault) → Removes (Err f) true false → remove_fails (Err f) ≡ 1
device F.Missing h = absurd cc
device F.HasChildren h = absurd cc
device F.Device h = refl

module _ {X : Type 0} (same : X → X → Bool) (is_same : (x y : X) → same x y ≡ true → x ≡ y) (same_is : (x y : X) → x ≡ y → same x y ≡ true) where
  abbrev isin : List X → X → Bool
  isin xs x = is_in same xs x

  pub in_of : (xs : List X) (x : X) → Contains xs x → isin xs x ≡ true
  in_of xs x c = any_from (same x) xs x c (same_is x x refl)

  pub of_in : (xs : List X) (x : X) → isin xs x ≡ true → Contains xs x
  of_in xs x h = (let f = found_by_any (same x) xs h in subst (Contains xs) (sym (is_same x f.0 f.2)) f.1)

  turned : (x y : X) → same x y ≡ same y x
  turned x y = elim (cases_Bool (same y x)) [
    | inl t ↦ same_is x y (sym (is_same y x t)) ∙ sym t
    | inr f ↦ false_from_ne_true (same x y) (λ h. both_ways (same y x) f (same_is y x (sym (is_same x y h)))) ∙ sym f
  ]

  in_push : (xs : List X) (n q : X) → isin (xs ++ n ∷ []) q ≡ (isin xs q || same q n)
  in_push [] n q = elim (same q n) as (λ (b : Bool). (b || false) ≡ (false || b)) [ true ↦ refl | false ↦ refl ]
  in_push (x ∷ xs) n q =
      ap (λ b. same q x || b) (in_push xs n q) ∙ elim (same q x) as (λ (b : Bool). (b || (isin xs q || same q n)) ≡ ((b || isin xs q) || same q n)) [ true ↦ refl | false ↦ refl ]

  -- those that failed are of the list
  not_failed : (done failed : List X) (n : X) → failed ≡ filter (λ x. isin failed x) done → isin done n ≡ false → isin failed n ≡ false
  not_failed done failed n is fresh = false_from_ne_true (isin failed n) (λ h.
      both_ways (isin done n) fresh (in_of done n (from_filter (λ x. isin failed x) done n (subst (λ (l : List X). Contains l n) is (of_in failed n h))).0))

  module _ (done old now removed failed : List X) (before after : ℕ) (n : X) (s : SweepsEach same done old now removed failed before after) (fresh : isin done n ≡ false) where
    fresh_failed : isin failed n ≡ false
    fresh_failed = not_failed done failed n s.failed_is fresh

    last_kept : (p : X → Bool) → p n ≡ true → filter p (n ∷ []) ≡ n ∷ []
    last_kept p h = ap (λ (b : Bool). cond b (n ∷ []) []) h

    last_gone : (p : X → Bool) → p n ≡ false → filter p (n ∷ []) ≡ []
    last_gone p h = ap (λ (b : Bool). cond b (n ∷ []) []) h

    gone_test : (q : X) (d f s : Bool) → (s ≡ true → f ≡ false) → ((not d || f) && not s) ≡ (not (d || s) || f)
    gone_test q d f true h = rw (h refl) (lost d)
      where
        lost : (d : Bool) → ((not d || false) && false) ≡ (not (d || true) || false)
        lost true = refl
        lost false = refl
    gone_test q true true false h = refl
    gone_test q true false false h = refl
    gone_test q false f false h = refl

    kept_test : (d f s : Bool) → (s ≡ true → d ≡ false) → (not d || f) ≡ (not (d || s) || (f || s))
    kept_test true f true h = absurd (both_ways true (h refl) refl)
    kept_test true true false h = refl
    kept_test true false false h = refl
    kept_test false true true h = refl
    kept_test false false true h = refl
    kept_test false f false h = refl

    filter_twice : (p q : X → Bool) (xs : List X) → filter q (filter p xs) ≡ filter (λ x. p x && q x) xs
    filter_twice p q [] = refl
    filter_twice p q (x ∷ xs) = elim (cases_Bool (p x)) [
      | inl t ↦ rw t (ap (λ (l : List X). cond (q x) (x ∷ l) l) (filter_twice p q xs))
      | inr f ↦ rw f (filter_twice p q xs)
    ]

    -- it was removed
    pub one_removed : (next : List X) → next ≡ filter (λ y. not (same n y)) now → SweepsEach same (done ++ n ∷ []) old next (removed ++ n ∷ []) failed before after
    one_removed next is = record {
      failed_is = s.failed_is ∙ sym (append-nil (filter (λ x. isin failed x) done)) ∙ ap (λ (l : List X). filter (λ x. isin failed x) done ++ l) (sym (last_gone (λ x. isin failed x) fresh_failed)) ∙ sym (filter-append (λ x. isin failed x) done (n ∷ []));
      removed_is = (λ i. s.removed_is i ++ n ∷ []) ∙ ap (λ (l : List X). filter (λ x. not (isin failed x)) done ++ l) (sym (last_kept (λ x. not (isin failed x)) (ap not fresh_failed))) ∙ sym (filter-append (λ x. not (isin failed x)) done (n ∷ []));
      left_is = is ∙ ap (filter (λ y. not (same n y))) s.left_is ∙ filter_twice (λ x. not (isin done x) || isin failed x) (λ y. not (same n y)) old
          ∙ same_kept (λ x. (not (isin done x) || isin failed x) && not (same n x)) (λ x. not (isin (done ++ n ∷ []) x) || isin failed x) old (λ x c.
          ap (λ (b : Bool). (not (isin done x) || isin failed x) && not b) (turned n x)
          ∙ gone_test x (isin done x) (isin failed x) (same x n) (λ t. ap (isin failed) (is_same x n t) ∙ fresh_failed)
          ∙ ap (λ (b : Bool). not b || isin failed x) (sym (in_push done n x)));
      count = s.count;
    }

    -- its removal failed
    pub one_failed : (next : List X) (more : ℕ) → next ≡ now → more ≡ after + 1 → SweepsEach same (done ++ n ∷ []) old next removed (failed ++ n ∷ []) before more
    one_failed next more is one =
        let itself : isin (failed ++ n ∷ []) n ≡ true = in_of (failed ++ n ∷ []) n (in_back failed (n ∷ []) n (0, omega arith, refl)) in
        let alike : (x : X) → Contains done x → isin failed x ≡ isin (failed ++ n ∷ []) x = λ x c. sym (in_push failed n x ∙ beside (isin failed x) (same x n) (false_from_ne_true (same x n) (λ t. both_ways (isin done n) fresh (ap (isin done) (sym (is_same x n t)) ∙ in_of done x c)))) in
        record {
          failed_is = (λ i. s.failed_is i ++ n ∷ []) ∙ (λ i. same_kept (λ x. isin failed x) (λ x. isin (failed ++ n ∷ []) x) done alike i ++ n ∷ [])
              ∙ ap (λ (l : List X). filter (λ x. isin (failed ++ n ∷ []) x) done ++ l) (sym (last_kept (λ x. isin (failed ++ n ∷ []) x) itself)) ∙ sym (filter-append (λ x. isin (failed ++ n ∷ []) x) done (n ∷ []));
          removed_is = s.removed_is ∙ same_kept (λ x. not (isin failed x)) (λ x. not (isin (failed ++ n ∷ []) x)) done (λ x c. ap not (alike x c))
              ∙ sym (append-nil (filter (λ x. not (isin (failed ++ n ∷ []) x)) done)) ∙ ap (λ (l : List X). filter (λ x. not (isin (failed ++ n ∷ []) x)) done ++ l) (sym (last_gone (λ x. not (isin (failed ++ n ∷ []) x)) (ap not itself)))
              ∙ sym (filter-append (λ x. not (isin (failed ++ n ∷ []) x)) done (n ∷ []));
          left_is = is ∙ s.left_is ∙ same_kept (λ x. not (isin done x) || isin failed x) (λ x. not (isin (done ++ n ∷ []) x) || isin (failed ++ n ∷ []) x) old (λ x c.
              kept_test (isin done x) (isin failed x) (same x n) (λ t. ap (isin done) (is_same x n t) ∙ fresh)
              ∙ (λ i. not (sym (in_push done n x) i) || sym (in_push failed n x) i));
          count = (let a = s.count in let b = length-append failed (n ∷ []) in omega (arith, a, b, one));
        }
      where
        beside : (f s : Bool) → s ≡ false → (f || s) ≡ f
        beside true s h = refl
        beside false s h = h

  -- ---- the whole list

  nothing_in : (xs : List X) → xs ≡ filter (λ x. true) xs
  nothing_in [] = refl
  nothing_in (x ∷ xs) = ap (λ (l : List X). x ∷ l) (nothing_in xs)

  pub none_swept : (old : List X) (before : ℕ) → SweepsEach same [] old old [] [] before before
  none_swept old before = record { failed_is = refl; removed_is = refl; left_is = nothing_in old; count = omega arith }

  module _ (list old : List X) (held : AreHeldOnce same list old) (done rest : List X) (n : X) (is : done ++ n ∷ rest ≡ list) where
    pub is_fresh : isin done n ≡ false
    is_fresh = held.once done rest n (sym is)

    -- what is still to come is still held
    pub still_held : (now removed failed : List X) (before after : ℕ) → SweepsEach same done old now removed failed before after → isin now n ≡ true
    still_held now removed failed before after s =
        let there : Contains old n = of_in old n (held.each n (in_of list n (subst (λ (l : List X). Contains l n) is (in_back done (n ∷ rest) n (0, omega arith, refl))))) in
        in_of now n (subst (λ (l : List X). Contains l n) (sym s.left_is) (kept there))
      where
        kept : Contains old n → Contains (filter (λ x. not (isin done x) || isin failed x) old) n
        kept c = in_filter (λ x. not (isin done x) || isin failed x) old n c (ap (λ (b : Bool). not b || isin failed n) is_fresh)

    -- ---- one more of the list

    pub more_removed : (now next removed removed' failed : List X) (before after after' : ℕ) → SweepsEach same done old now removed failed before after → removed' ≡ removed ++ n ∷ [] → next ≡ filter (λ y. not (same n y)) now → after' ≡ after + 0
        → SweepsEach same (done ++ n ∷ []) old next removed' failed before after'
    more_removed now next removed removed' failed before after after' s pushed left none =
        let same_count : after' ≡ after = omega (arith, none) in
        subst (λ (k : ℕ). SweepsEach same (done ++ n ∷ []) old next removed' failed before k) (sym same_count)
        (subst (λ (l : List X). SweepsEach same (done ++ n ∷ []) old next l failed before after) (sym pushed) (one_removed done old now removed failed before after n s is_fresh next left))

    pub more_failed : (now next removed failed failed' : List X) (before after after' : ℕ) (f : RemoveFault) → SweepsEach same done old now removed failed before after → failed' ≡ failed ++ n ∷ [] → Removes (Err f) (isin now n) false → next ≡ now → after' ≡ after + remove_fails (Err f)
        → SweepsEach same (done ++ n ∷ []) old next removed failed' before after'
    more_failed now next removed failed failed' before after after' f s pushed refused left more =
        let one : remove_fails (Err f) ≡ 1 = device f (subst (λ (b : Bool). Removes (Err f) b false) (still_held now removed failed before after s) refused) in
        subst (λ (l : List X). SweepsEach same (done ++ n ∷ []) old next removed l before after') (sym pushed) (one_failed done old now removed failed before after n s is_fresh next after' left (more ∙ ap (λ (k : ℕ). after + k) one))

  pub begun : (old removed failed : List X) (before : ℕ) → removed ≡ [] → failed ≡ [] → SweepsEach same [] old old removed failed before before
  begun old removed failed before r f = record { failed_is = f; removed_is = r; left_is = nothing_in old; count = (let e = ap (λ (l : List X). length l) f in omega (arith, e)) }
