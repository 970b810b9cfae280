-- A list whose objects all go at once.
use Rattle.std.proofs.Common.{◌≡◌, ℕ, ◌+◌, List, [], ◌∷◌, length, Bool, true, false, not, refl, sym, ◌∙◌, ap, subst, arith, map, ◌||◌}
use Rattle.std.specs.Prelude.{filter}
use Rattle.std.proofs.lemmas.List.Elements.{filter_agree}
use Rattle.backend_sweep.specs.ObjectOutcomes.{names_with, was_removed, has_failed}
use Rattle.backend_sweep.specs.Singles.{is_in, SweepsEach}
use Rattle.backend_sweep.specs.declared.outcomes.Outcome.{Outcome}
use Rattle.backend_sweep.specs.declared.outcomes.Outcome.TheVariants as F
use Rattle.backend_sweep.proofs.ObjectOutcomes.{with_mapped}

all_of : {X : Type 0} (xs : List X) → filter (λ x. true) xs ≡ xs
all_of [] = refl
all_of (x ∷ xs) = ap (λ l. x ∷ l) (all_of xs)

none_of : {X : Type 0} (xs : List X) → filter (λ x. false) xs ≡ []
none_of [] = refl
none_of (x ∷ xs) = none_of xs

or_none : (b : Bool) → b ≡ (b || false)
or_none true = refl
or_none false = refl

module _ {X : Type 0} (same : X → X → Bool) where
  went : (list old now : List X) (before after : ℕ) → now ≡ filter (λ x. not (is_in same list x)) old → after ≡ before → SweepsEach same list old now list [] before after
  went list old now before after left count =
      let counted : after ≡ before + 0 = omega (arith, count) in
      record {
        failed_is = sym (none_of list);
        removed_is = sym (all_of list);
        left_is = left ∙ filter_agree (λ x. not (is_in same list x)) (λ x. not (is_in same list x) || is_in same [] x) (λ x. or_none (not (is_in same list x))) old;
        count = counted;
      }

  -- all of them went, and their outcomes say so
  pub all_went : (list old now : List X) (outcomes : List Outcome) (before after : ℕ)
      → outcomes ≡ map (λ name. F.Removed) list
      → now ≡ filter (λ x. not (is_in same list x)) old → after ≡ before
      → SweepsEach same list old now (names_with was_removed list outcomes)
      (names_with has_failed list outcomes) before after
  all_went list old now outcomes before after set left count =
      let removed : names_with was_removed list outcomes
      ≡ list = ap (names_with was_removed list) set ∙ with_mapped was_removed
      (λ name. F.Removed) (λ name. true) (λ name. refl) list ∙ all_of list in
      let failed : names_with has_failed list outcomes ≡ [] = ap (names_with has_failed list) set
      ∙ with_mapped has_failed (λ name. F.Removed) (λ name. false) (λ name. refl) list
      ∙ none_of list in
      subst (λ (l : List X). SweepsEach same list old now l
      (names_with has_failed list outcomes) before after) (sym removed)
      (subst (λ (l : List X). SweepsEach same list old now list l before after) (sym failed) (went list old now before after left count))

  -- a sweep of what is still as it was
  pub same_before : (list old mid now removed failed : List X) (before between after : ℕ) → mid ≡ old → between ≡ before → SweepsEach same list mid now removed failed between after → SweepsEach same list old now removed failed before after
  same_before list old mid now removed failed before between after m b s =
      subst (λ (l : List X). SweepsEach same list l now removed failed before after) m
      (subst (λ (n : ℕ). SweepsEach same list mid now removed failed n after) b s)
