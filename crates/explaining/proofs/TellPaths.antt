-- The steps that tell a path.
use Rattle.std.proofs.Common.{◌≡◌, ℕ, zero, suc, ◌+◌, ◌-◌, ◌<◌, Bool, true, false, List, [], ◌∷◌, ◌++◌, map, length, drop, get_or, refl, sym, ap, ◌∙◌, subst, inl, inr, arith, ℤ, Some, None, is_some}
use Rattle.std.specs.Prelude.{IsTrue, ◌==◌}
use Rattle.std.proofs.lemmas.Bool.{false≢true, both_ways}
use Rattle.std.proofs.lemmas.Bool.Decides.{nat_tests}
use Rattle.std.proofs.lemmas.List.{length-map, get_or-map}
use Rattle.meta_types.specs.Rows.{Records}
use Rattle.meta_types.specs.Paths.{Thing, has_edge, IsPath}
use Rattle.meta_types.specs.Reasons.{reason_of}
use Rattle.meta_types.specs.Explanations.{Explains, AreTold, step_of, ExplainsLast, IsExplanation}
use Rattle.meta_types.specs.declared.explanation.By.{By}
use Rattle.meta_types.specs.declared.explanation.By.TheVariants.{Root, Ended}
use Rattle.meta_types.specs.declared.explanation.PathStep.{PathStep}
use Rattle.explaining.specs.declared.thing_row.ThingRow.{ThingRow}
use Rattle.explaining.specs.ThingRows.{thing_of}
use Rattle.explaining.specs.StepWords.{AreLinked, IsBy}
use Rattle.explaining.proofs.ReasonEdges.{reason_edge}

-- ---- links

linked_path : (records : Records) (at : ℤ) (last : Thing) (path : List Thing) → IsPath records at last path → AreLinked (last ∷ path)
linked_path records at last [] p = tt
linked_path records at last (before ∷ path) p = (p.1, linked_path records at before path p.2)

pub linked : (records : Records) (at : ℤ) (asked : Thing → Bool) (xs : List Thing) → Explains records at asked xs → AreLinked xs
linked records at asked [] e = tt
linked records at asked (last ∷ path) e = linked_path records at last path e.leads

pub linked_last : (records : Records) (asked : Thing → Bool) (xs : List Thing)
    → ExplainsLast records asked xs → AreLinked xs
linked_last records asked [] e = tt
linked_last records asked (last ∷ path) e = linked_path records e.0 last path e.1.leads

-- each thing but the root is referenced by the one behind it
pub linked_at : (xs : List Thing) (i : ℕ) (d : Thing) → AreLinked xs → suc i < length xs → IsTrue (has_edge (get_or xs (suc i) d) (get_or xs i d))
linked_at [] i d l lt = absurd (omega arith)
linked_at (x ∷ []) i d l lt = absurd (omega arith)
linked_at (x ∷ y ∷ xs) zero d l lt = l.0
linked_at (x ∷ y ∷ xs) (suc i) d l lt = linked_at (y ∷ xs) i d l.1 (omega arith)

-- so there is a reason
pub not_without : (a b : Thing) → IsTrue (has_edge a b) → None ≡ reason_of a b → ⊥
not_without a b h e = false≢true (ap is_some e ∙ reason_edge a b ∙ h)

-- ---- by what a thing stands there

pub by_root : (word : By) (xs : List Thing) (i : ℕ) → suc i ≡ length xs → IsBy word (drop i xs) word
by_root word [] i e = absurd (omega arith)
by_root word (x ∷ []) zero e = refl
by_root word (x ∷ y ∷ xs) zero e = absurd (omega arith)
by_root word (x ∷ xs) (suc i) e = by_root word xs i (omega arith)

pub by_reason : (word by : By) (xs : List Thing) (i : ℕ) (d : Thing) → suc i < length xs → reason_of (get_or xs (suc i) d) (get_or xs i d) ≡ Some by → IsBy word (drop i xs) by
by_reason word by [] i d lt e = absurd (omega arith)
by_reason word by (x ∷ []) i d lt e = absurd (omega arith)
by_reason word by (x ∷ y ∷ xs) zero d lt e = e
by_reason word by (x ∷ y ∷ xs) (suc i) d lt e = by_reason word by (y ∷ xs) i d (omega arith) e

-- ---- steps

one_step_more : (profile : ℕ) (word by : By) (x : Thing) (xs : List Thing) (steps : List PathStep) → IsBy word (x ∷ xs) by → AreTold profile word xs steps → AreTold profile word (x ∷ xs) (steps ++ step_of profile by x ∷ [])
one_step_more profile word by x [] steps h t = λ i. t i ++ step_of profile (h i) x ∷ []
one_step_more profile word by x (y ∷ xs) steps h t = (by, steps, h, t, refl)

pub told_one_more : (profile : ℕ) (word by : By) (xs : List Thing) (i : ℕ) (d : Thing) (steps : List PathStep) → i < length xs → IsBy word (drop i xs) by → AreTold profile word (drop (suc i) xs) steps
    → AreTold profile word (drop i xs) (steps ++ step_of profile by (get_or xs i d) ∷ [])
told_one_more profile word by [] i d steps lt h t = absurd (omega arith)
told_one_more profile word by (x ∷ xs) zero d steps lt h t = one_step_more profile word by x xs steps h t
told_one_more profile word by (x ∷ xs) (suc i) d steps lt h t = told_one_more profile word by xs i d steps (omega arith) h t

-- ---- the answer

pub is_kept : (records : Records) (at : ℤ) (asked : Thing → Bool) (xs : List Thing) (steps : List PathStep) → (length xs ≡ 0 → ⊥) → Explains records at asked xs → AreTold records.profile Root xs steps → IsExplanation records at asked true steps
is_kept records at asked [] steps some e t = absurd (some refl)
is_kept records at asked (last ∷ path) steps some e t = inl (refl, record { last = last; path = path; explains = e; told = t })

pub was_kept : (records : Records) (at : ℤ) (asked : Thing → Bool) (xs ys : List Thing) (steps : List PathStep) → length xs ≡ 0 → Explains records at asked xs → ExplainsLast records asked ys → AreTold records.profile Ended ys steps → IsExplanation records at asked false steps
was_kept records at asked [] ys steps none e f t = inr (refl, record { none = e; path = ys; explains = f; told = t })
was_kept records at asked (x ∷ xs) ys steps none e f t = absurd (omega arith)

pub none_explains_it : (records : Records) (at : ℤ) (asked : Thing → Bool) (xs : List Thing)
    → length xs ≡ 0 → Explains records at asked xs → Explains records at asked []
none_explains_it records at asked [] none e = e
none_explains_it records at asked (x ∷ xs) none e = absurd (omega arith)

-- ---- places of found things

pub found_at : (path : List ThingRow) (i : ℕ) (x : ThingRow) (d : Thing) → i < length path
    → x ≡ get_or path i x → get_or (map thing_of path) i d ≡ thing_of x
found_at path i x d lt is = get_or-map thing_of path i x d lt ∙ ap thing_of (sym is)

pub below_next : (i n : ℕ) → i < n → (i + 1 ≡ n → ⊥) → i + 1 < n
below_next i n lt other = omega arith

module _ (path : List ThingRow) (i : ℕ) (behind here : ThingRow) (lt : i + 1 < length path)
    (is_behind : behind ≡ get_or path (i + 1) behind) (is_here : here ≡ get_or path i here) where
  behind_is : get_or (map thing_of path) (suc i) (thing_of here) ≡ thing_of behind
  behind_is = ap (λ k. get_or (map thing_of path) k (thing_of here)) (next i) ∙ found_at path (i + 1) behind (thing_of here) lt is_behind
    where
      next : (k : ℕ) → suc k ≡ k + 1
      next k = omega arith

  here_is : get_or (map thing_of path) i (thing_of here) ≡ thing_of here
  here_is = found_at path i here (thing_of here) (omega arith) is_here

  within : suc i < length (map thing_of path)
  within = (let long = length-map path thing_of in omega arith)

  -- there is a reason between the two
  pub no_gap : AreLinked (map thing_of path) → None ≡ reason_of (thing_of behind) (thing_of here) → ⊥
  no_gap l e =
      not_without (thing_of behind) (thing_of here)
      (subst (λ (t : Thing). IsTrue (has_edge (thing_of behind) t)) here_is
      (subst (λ (t : Thing). IsTrue (has_edge t (get_or (map thing_of path) i (thing_of here)))) behind_is (linked_at (map thing_of path) i (thing_of here) l within))) e

  pub told_by : (word by : By) → reason_of (thing_of behind) (thing_of here) ≡ Some by → IsBy word (drop i (map thing_of path)) by
  told_by word by e = by_reason word by (map thing_of path) i (thing_of here) within ((λ j. reason_of (behind_is j) (here_is j)) ∙ e)

pub root_by : (word by : By) (path : List ThingRow) (i : ℕ) → i + 1 ≡ length path → by ≡ word
    → IsBy word (drop i (map thing_of path)) by
root_by word by path i e h = subst (IsBy word (drop i (map thing_of path))) (sym h) (by_root word (map thing_of path) i (let long = length-map path thing_of in omega arith))

-- a step more
pub told_round : (profile : ℕ) (word by : By) (path : List ThingRow) (done place : ℕ) (x : ThingRow)
    (steps after : List PathStep) (step : PathStep)
    → done < length path → place ≡ length path - 1 - done → x ≡ get_or path place x → IsBy word (drop place (map thing_of path)) by
    → step ≡ step_of profile by (thing_of x) → after ≡ steps ++ step ∷ []
    → AreTold profile word (drop (length path - done) (map thing_of path)) steps
    → AreTold profile word (drop (length path - (done + 1)) (map thing_of path)) after
told_round profile word by path done place x steps after step lt is_place is_x h is_step is_after t =
    let long = length-map path thing_of in
    let below : place < length path = omega arith in
    let inside : place < length (map thing_of path) = omega arith in
    let next : length path - done ≡ suc place = omega arith in
    let here : place ≡ length path - (done + 1) = omega arith in
    let at_x : get_or (map thing_of path) place (thing_of x) ≡ thing_of x = found_at path place x (thing_of x) below is_x in
    subst (λ k. AreTold profile word (drop k (map thing_of path)) after) here
    (subst (AreTold profile word (drop place (map thing_of path))) (sym (is_after ∙ ap (λ (s : PathStep). steps ++ s ∷ []) (is_step ∙ ap (step_of profile by) (sym at_x))))
    (told_one_more profile word by (map thing_of path) place (thing_of x) steps inside h
    (subst (λ k. AreTold profile word (drop k (map thing_of path)) steps) next t)))

-- ---- no thing

pub none_there : (path : List ThingRow) → (length path == 0) ≡ true → length (map thing_of path) ≡ 0
none_there path h = length-map path thing_of ∙ none (length path) h
  where
    none : (n : ℕ) → (n == 0) ≡ true → n ≡ 0
    none n e = grind (arith, nat_tests)

pub some_there : (path : List ThingRow) → (length path == 0) ≡ false → length (map thing_of path)
    ≡ 0 → ⊥
some_there path h e = both_ways (length path == 0) h (test (length path) (sym (length-map path thing_of) ∙ e))
  where
    test : (n : ℕ) → n ≡ 0 → (n == 0) ≡ true
    test n z = grind (arith, nat_tests)
