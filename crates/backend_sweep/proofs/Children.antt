-- A parent has a child.
use Rattle.std.proofs.Common.{◌≡◌, ℕ, [], ◌∷◌, Bool, true, false, refl, sym, ◌∙◌, ap, inl, inr}
use Rattle.std.specs.Prelude.{cond, Option, Some, None, ◌&&◌}
use Rattle.std.proofs.Math.Dec.{T}
use Rattle.std.proofs.lemmas.Bool.{cases_Bool, or_cases, eqb-true}
use Rattle.std.specs.List.{list_any}
use Rattle.std.specs.declared.cmp.Ordering.{Ordering}
use Rattle.std.specs.declared.cmp.Ordering.TheVariants.{Less, Equal, Greater}
use Rattle.std.specs.Ordering.{nat_cmp, eq_by_cmp, is_lt, is_eq}
use Rattle.std.specs.Cmp.{nat_cmp_total, unsigned_tied}
use Rattle.std.specs.FinMap as finmap
use Rattle.std.specs.FinMap.Entries.{is_sorted, below_all}
use Rattle.std.proofs.lemmas.Cmp.{tied_itself}
use Rattle.back_model.specs.Snaps.{Snaps, is_number, has_child}
use Rattle.back_model.proofs.Entries.{Parents}
use Rattle.backend_sweep.specs.Shards.{IsChild}

pub left : (a b : Bool) → T (a && b) → T a
left true b h = tt
left false b h = h

pub right : (a b : Bool) → T (a && b) → T b
right true b h = h
right false b h = absurd h

-- a key below all of the entries isn't among them
pub absent : (k : ℕ) (es : Parents) → T (below_all nat_cmp k es) → finmap.find nat_cmp k es ≡ None
absent k [] h = refl
absent k (e ∷ es) h = go (nat_cmp k e.0) (left (is_lt (nat_cmp k e.0)) (below_all nat_cmp k es) h) (absent k es (right (is_lt (nat_cmp k e.0)) (below_all nat_cmp k es) h))
  where
    go : (r : Ordering) → T (is_lt r) → finmap.find nat_cmp k es ≡ None → cond (is_eq r) (Some e.1) (finmap.find nat_cmp k es) ≡ None
    go Less h rest = rest
    go Equal h rest = absurd h
    go Greater h rest = absurd h

number_is : (n : ℕ) (p : Option ℕ) → is_number n p ≡ true → p ≡ Some n
number_is n None h = absurd cc
number_is n (Some a) h = ap Some (eqb-true a n h)

there : (n : ℕ) (es : Parents) → T (is_sorted nat_cmp es) → list_any (λ (e : ℕ × Option ℕ). is_number n e.1) es ≡ true → (c : ℕ) × (finmap.find nat_cmp c es ≡ Some (Some n))
there n [] s h = absurd cc
there n (e ∷ es) s h = elim (or_cases (is_number n e.1) (list_any (λ (f : ℕ × Option ℕ). is_number n f.1) es) h) [
  | inl this ↦ (e.0, ap (λ (b : Bool). cond b (Some e.1) (finmap.find nat_cmp e.0 es)) (ap is_eq (tied_itself nat_cmp_total e.0)) ∙ ap Some (number_is n e.1 this))
  | inr later ↦ (
      let rest = there n es (right (below_all nat_cmp e.0 es) (is_sorted nat_cmp es) s) later in (
        rest.0,
        elim (cases_Bool (eq_by_cmp nat_cmp rest.0 e.0)) [
          | inl same ↦ (
              let key : rest.0 ≡ e.0 = eqb-true rest.0 e.0 (sym (unsigned_tied rest.0 e.0) ∙ same) in
              let none : finmap.find nat_cmp rest.0 es ≡ None = ap (λ (k : ℕ). finmap.find nat_cmp k es) key ∙ absent e.0 es (left (below_all nat_cmp e.0 es) (is_sorted nat_cmp es) s) in
              absurd (cc (none, rest.1)))
          | inr other ↦ ap (λ (b : Bool). cond b (Some e.1) (finmap.find nat_cmp rest.0 es)) other ∙ rest.1
        ],
      ))
]

-- some snapshot has the number as its parent
pub child_there : (m : Snaps) (n : ℕ) → has_child m n ≡ true → (c : ℕ) × IsChild m n c
child_there m n h = let found = there n (finmap.entries m) (finmap.entries_sorted m) h in (found.0, finmap.get-entries m found.0 ∙ found.1)
