-- Keys of an ordered set, seen as a list in order.
use Rattle.std.proofs.Common.{◌≡◌, ℕ, List, [], ◌∷◌, Bool, true, false, refl, sym, ◌∙◌, ap}
use Rattle.std.specs.Prelude.{cond, not, ◌||◌, filter, ◌==◌, nat_lt}
use Rattle.std.specs.List.{list_any, AllByRecursion}
use Rattle.std.specs.List.Sorted.{IsStrictlySortedBy}
use Rattle.std.specs.declared.cmp.Ordering.{Ordering}
use Rattle.std.specs.declared.cmp.Ordering.TheVariants.{Less, Equal, Greater}
use Rattle.std.specs.Ordering.{nat_cmp, is_eq, is_lt, match_ordering}
use Rattle.std.specs.Cmp.{IsTotalOrder, nat_cmp_total, unsigned_tied, nat_eq_equiv}
use Rattle.std.specs.BTreeMap.{is_at}
use Rattle.std.specs.BTreeSet.{insert_key}
use Rattle.std.specs.Set.{remove_key}
use Rattle.std.proofs.lemmas.Map.Keys.{sorted_head, sorted_tail}
use Rattle.meta_types.specs.Keys.{put_in_order}
use Rattle.back_model.specs.Objects.{has_number, put_number, without_number}

-- the key k, a test that finds it alone, and a test for what it stands before
module _ {K : Type 0} (R : K → K → Ordering) (o : IsTotalOrder R) (k : K) (same before : K → Bool) (tied : (x : K) → is_eq (R k x) ≡ same x) (less : (x : K) → is_lt (R k x) ≡ before x) where
  any_tied : (ks : List K) → list_any (is_at (R k)) ks ≡ list_any same ks
  any_tied [] = refl
  any_tied (x ∷ ks) = ap (λ b. b || list_any (is_at (R k)) ks) (tied x) ∙ ap (λ b. same x || b) (any_tied ks)

  put_key : (put : K → List K → List K) → ((x : K) → put x [] ≡ x ∷ []) → ((x : K) (xs : List K) → put k (x ∷ xs) ≡ cond (before x) (k ∷ x ∷ xs) (x ∷ put k xs))
      → (ks : List K) → list_any same ks ≡ false → insert_key R ks k ≡ put k ks
  put_key put none more [] free = sym (none k)
  put_key put none more (x ∷ ks) free = go (R k x) refl (put_key put none more ks) ∙ ap (λ b. cond b (k ∷ x ∷ ks) (x ∷ put k ks)) (less x) ∙ sym (more x ks)
    where
      rest : (b : Bool) → (b || list_any same ks) ≡ false → list_any same ks ≡ false
      rest true e = absurd cc
      rest false e = e

      go : (r : Ordering) → R k x ≡ r → (list_any same ks ≡ false → insert_key R ks k ≡ put k ks)
          → match_ordering (R k x) (k ∷ x ∷ ks) (x ∷ ks) (x ∷ insert_key R ks k) ≡ cond (is_lt (R k x)) (k ∷ x ∷ ks) (x ∷ put k ks)
      go Less is later = rw is refl
      go Equal is later = let one : true ≡ same x = ap is_eq (sym is) ∙ tied x in absurd (cc (rw (sym one) at free))
      go Greater is later = rw is (ap (λ l. x ∷ l) (later (rest (same x) free)))

  untouched : (x : K) → R k x ≡ Equal → (ks : List K) → AllByRecursion (λ y. R x y ≡ Less) ks → ks ≡ filter (λ y. not (same y)) ks
  untouched x here [] h = refl
  untouched x here (y ∷ ks) h =
      let apart : same y ≡ false = sym (tied y) ∙ ap is_eq (o.congr k x y here ∙ h.0) in
      rw apart (ap (λ l. y ∷ l) (untouched x here ks h.1))

  without_key : (ks : List K) → IsStrictlySortedBy R ks → remove_key (is_at (R k)) ks ≡ filter (λ y. not (same y)) ks
  without_key [] h = refl
  without_key (x ∷ ks) h = go (R k x) refl (without_key ks (sorted_tail R x ks h))
    where
      go : (r : Ordering) → R k x ≡ r → remove_key (is_at (R k)) ks ≡ filter (λ y. not (same y)) ks
          → cond (is_eq (R k x)) ks (x ∷ remove_key (is_at (R k)) ks) ≡ cond (not (same x)) (x ∷ filter (λ y. not (same y)) ks) (filter (λ y. not (same y)) ks)
      go Less is later = let one : same x ≡ false = sym (tied x) ∙ ap is_eq is in rw (is, one) (ap (λ l. x ∷ l) later)
      go Equal is later = let one : same x ≡ true = sym (tied x) ∙ ap is_eq is in rw (is, one) (untouched x is ks (sorted_head R x ks h))
      go Greater is later = let one : same x ≡ false = sym (tied x) ∙ ap is_eq is in rw (is, one) (ap (λ l. x ∷ l) later)

-- what is new wasn't there
pub was_new : (there new : Bool) → new ≡ not there → new ≡ true → there ≡ false
was_new true new e h = absurd (cc (sym e ∙ h))
was_new false new e h = refl

less_number : (a b : Bool) → is_lt (cond a Less (cond b Equal Greater)) ≡ a
less_number true b = refl
less_number false true = refl
less_number false false = refl

module _ (number : ℕ) where
  -- the order of numbers calls two equal exactly if they are
  pub equal_number : (x : ℕ) → is_eq (nat_cmp number x) ≡ (x == number)
  equal_number x = unsigned_tied number x ∙ nat_eq_equiv.symm number x

  below_number : (x : ℕ) → is_lt (nat_cmp number x) ≡ nat_lt number x
  below_number x = less_number (nat_lt number x) (number == x)

  pub has_key : (ks : List ℕ) → list_any (is_at (nat_cmp number)) ks ≡ has_number number ks
  has_key = any_tied nat_cmp nat_cmp_total number (λ x. x == number) (nat_lt number) equal_number below_number

  pub put_one : (ks : List ℕ) → has_number number ks ≡ false → insert_key nat_cmp ks number ≡ put_number number ks
  put_one = put_key nat_cmp nat_cmp_total number (λ x. x == number) (nat_lt number) equal_number below_number (put_in_order nat_lt) (λ x. refl) (λ x xs. refl)

  pub without_one : (ks : List ℕ) → IsStrictlySortedBy nat_cmp ks → remove_key (is_at (nat_cmp number)) ks ≡ without_number number ks
  without_one = without_key nat_cmp nat_cmp_total number (λ x. x == number) (nat_lt number) equal_number below_number
