-- One removal, and the parents of what is left.
use Rattle.std.proofs.Common.{◌≡◌, ℕ, ◌+◌, List, [], ◌∷◌, ◌++◌, true, false, refl, sym, ◌∙◌, ap, subst, inl, inr, ◌-◌, ◌||◌}
use Rattle.std.specs.Prelude.{◌⊎◌, Option, Some, None, option_and_then}
use Rattle.std.specs.FinMap as map
use Rattle.backend_sweep.specs.Shards.{IsChild, has}
use Rattle.back_model.specs.Snaps.{Snaps, parent_of}
use Rattle.backend_sweep.specs.declared.outcomes.Outcome.{Outcome}
use Rattle.backend_sweep.specs.declared.outcomes.Outcome.TheVariants as R
use Rattle.backend_sweep.specs.Sweep.{Swept, put_of, with_number, with_parent}
use Rattle.backend_sweep.proofs.Listing.{truth, push_cases, push_old, push_new}

-- one removal, by its answer on the children that are left
abbrev pub Tried : Outcome → ℕ → List ℕ → List ℕ → Snaps → Snaps → ℕ → ℕ → Type 0
Tried R.Removed n failed kept m now before after =
    (now ≡ map.remove m n) × (after ≡ before) × ((c : ℕ) → IsChild m n c → (has failed c || has kept c) ≡ false)
Tried R.Failed n failed kept m now before after =
    (now ≡ m) × (after ≡ before + 1) × ((c : ℕ) → IsChild m n c → (has failed c || has kept c) ≡ false)
Tried R.Kept n failed kept m now before after =
    (now ≡ m) × (after ≡ before) × ((c : ℕ) × ((has failed c || has kept c) ≡ true) × IsChild m n c)

-- a number that is new goes last
abbrev pub puts : Swept → ℕ → List ℕ → Outcome → Swept
puts s n parents R.Removed = record s { removed = s.removed ++ n ∷ []; room = s.room - 1 }
puts s n parents R.Failed = record s { failed = s.failed ++ n ∷ []; parents = parents; room = s.room - 1 }
puts s n parents R.Kept = record s { kept = s.kept ++ n ∷ []; parents = parents; room = s.room - 1 }

pub last_of : (xs : List ℕ) (n : ℕ) → has xs n ≡ false → with_number xs n ≡ xs ++ n ∷ []
last_of xs n h = rw h refl

pub put_is : (s : Swept) (n : ℕ) (above : Option ℕ) (what : Outcome) → has s.failed n ≡ false
    → has s.kept n ≡ false → put_of s n above what ≡ puts s n (with_parent s.parents above) what
put_is s n above R.Removed f k = refl
put_is s n above R.Failed f k = λ i. record s { failed = last_of s.failed n f i; parents = with_parent s.parents above; room = s.room - 1 }
put_is s n above R.Kept f k = λ i. record s { kept = last_of s.kept n k i; parents = with_parent s.parents above; room = s.room - 1 }

-- the parents of what failed or was kept
pub record Blocks (m : Snaps) (r : Swept) : Type 0 where
  pub child : (p : ℕ) → has r.parents p ≡ true → (c : ℕ) × ((has r.failed c || has r.kept c) ≡ true) × IsChild m p c
  pub all : (p c : ℕ) → (has r.failed c || has r.kept c) ≡ true → IsChild m p c → has r.parents p ≡ true

pub none_blocked : (m : Snaps) (r : Swept) → r.failed ≡ [] → r.kept ≡ [] → r.parents ≡ [] → Blocks m r
none_blocked m r f k p = record {
  child = λ q h. (let e : false ≡ true = ap (λ (l : List ℕ). has l q) (sym p) ∙ h in cc);
  all = λ q c h is. (let e : false ≡ true = (λ i. has (sym f i) c || has (sym k i) c) ∙ h in cc);
}

-- what is among the numbers with one more
pub with_old : (xs : List ℕ) (n q : ℕ) → has xs q ≡ true → has (with_number xs n) q ≡ true
with_old xs n q h = elim (truth (has xs n)) [ inl t ↦ rw t h | inr f ↦ ap (λ (l : List ℕ). has l q) (last_of xs n f) ∙ push_old xs n q h ]

pub with_new : (xs : List ℕ) (n : ℕ) → has (with_number xs n) n ≡ true
with_new xs n = elim (truth (has xs n)) [ inl t ↦ rw t t | inr f ↦ ap (λ (l : List ℕ). has l n) (last_of xs n f) ∙ push_new xs n n refl ]

pub with_cases : (xs : List ℕ) (n q : ℕ) → has (with_number xs n) q ≡ true → (has xs q ≡ true) ⊎ (n ≡ q)
with_cases xs n q h = elim (truth (has xs n)) [ inl t ↦ inl (rw t at h) | inr f ↦ push_cases xs n q (ap (λ (l : List ℕ). has l q) (sym (last_of xs n f)) ∙ h) ]

pub parent_old : (xs : List ℕ) (above : Option ℕ) (q : ℕ) → has xs q ≡ true → has (with_parent xs above) q ≡ true
parent_old xs None q h = h
parent_old xs (Some p) q h = with_old xs p q h

pub parent_new : (xs : List ℕ) (above : Option ℕ) (q : ℕ) → above ≡ Some q → has (with_parent xs above) q ≡ true
parent_new xs None q e = absurd cc
parent_new xs (Some p) q e = subst (λ (o : Option ℕ). has (with_parent xs o) q ≡ true) (sym e) (with_new xs q)

pub parent_cases : (xs : List ℕ) (above : Option ℕ) (q : ℕ) → has (with_parent xs above) q ≡ true → (has xs q ≡ true) ⊎ (above ≡ Some q)
parent_cases xs None q h = inl h
parent_cases xs (Some p) q h = elim (with_cases xs p q h) [ inl a ↦ inl a | inr e ↦ inr (ap (λ (k : ℕ). Some k) e) ]

-- a child, by its parent
pub child_of : (m : Snaps) (p n : ℕ) → parent_of m n ≡ Some p → IsChild m p n
child_of m p n h = go (map.get m n) h
  where
    go : (o : Option (Option ℕ)) → option_and_then (λ (parent : Option ℕ). parent) o ≡ Some p → o ≡ Some (Some p)
    go None e = absurd cc
    go (Some above) e = ap (λ (x : Option ℕ). Some x) e

pub parent_is : (m : Snaps) (p n : ℕ) → IsChild m p n → parent_of m n ≡ Some p
parent_is m p n h = ap (λ (o : Option (Option ℕ)). option_and_then (λ (parent : Option ℕ). parent) o) h
