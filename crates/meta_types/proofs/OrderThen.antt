-- Two orders, of which the second tells where the first doesn't, are one
-- order; and the order of numbers.
use Rattle.std.proofs.Common.{◌≡◌, ℕ, Bool, true, false, refl, sym, ap, ◌∙◌, cond}
use Rattle.std.specs.Prelude.{◌==◌, nat_lt}
use Rattle.std.specs.declared.cmp.Ordering.{Ordering}
use Rattle.std.specs.declared.cmp.Ordering.TheVariants.{Less, Equal, Greater}
use Rattle.std.specs.Ordering.{is_lt, is_eq, nat_cmp, ordering_reverse, ordering_then}
use Rattle.std.specs.Cmp.{IsTotalOrder, nat_cmp_total, unsigned_tied, nat_eq_equiv}

-- ---- numbers

less_number : (a b : Bool) → is_lt (cond a Less (cond b Equal Greater)) ≡ a
less_number true b = refl
less_number false true = refl
less_number false false = refl

-- the order of numbers calls a number less exactly if it is
pub is_lt-nat : (a b : ℕ) → is_lt (nat_cmp a b) ≡ nat_lt a b
is_lt-nat a b = less_number (nat_lt a b) (a == b)

-- the order of numbers calls two equal exactly if they are
pub is_eq-nat : (a b : ℕ) → is_eq (nat_cmp a b) ≡ (b == a)
is_eq-nat a b = unsigned_tied a b ∙ nat_eq_equiv.symm a b

-- ---- one order after another

both_reversed : (r s : Ordering) → ordering_then (ordering_reverse r) (ordering_reverse s) ≡ ordering_reverse (ordering_then r s)
both_reversed Less s = refl
both_reversed Equal s = refl
both_reversed Greater s = refl

module _ {X : Type 0} (R S : X → X → Ordering) (r : IsTotalOrder R) (s : IsTotalOrder S) where
  abbrev then : X → X → Ordering
  then x y = ordering_then (R x y) (S x y)

  -- what ties with another compares as that one
  pub from_tied : (x y z : X) → R y z ≡ Equal → R x z ≡ R x y
  from_tied x y z e = r.antisymm x z ∙ ap ordering_reverse (sym (r.congr y z x e)) ∙ sym (r.antisymm x y)

  then_trans : (x y z : X) → ordering_then (R x y) (S x y) ≡ Less → ordering_then (R y z) (S y z) ≡ Less → ordering_then (R x z) (S x z) ≡ Less
  then_trans x y z h k = go (R x y) (R y z) refl refl h k
    where
      go : (a b : Ordering) → R x y ≡ a → R y z ≡ b → ordering_then a (S x y) ≡ Less → ordering_then b (S y z) ≡ Less → ordering_then (R x z) (S x z) ≡ Less
      go Less Less e f h k = rw (r.trans x y z e f) refl
      go Less Equal e f h k = rw (from_tied x y z f ∙ e) refl
      go Less Greater e f h k = absurd cc
      go Equal Less e f h k = rw (r.congr x y z e ∙ f) refl
      go Equal Equal e f h k = rw (r.congr x y z e ∙ f) (s.trans x y z h k)
      go Equal Greater e f h k = absurd cc
      go Greater b e f h k = absurd cc

  then_congr : (x y z : X) → ordering_then (R x y) (S x y) ≡ Equal → ordering_then (R x z) (S x z) ≡ ordering_then (R y z) (S y z)
  then_congr x y z h = go (R x y) refl h
    where
      go : (a : Ordering) → R x y ≡ a → ordering_then a (S x y) ≡ Equal → ordering_then (R x z) (S x z) ≡ ordering_then (R y z) (S y z)
      go Less e h = absurd cc
      go Equal e h = λ i. ordering_then (r.congr x y z e i) (s.congr x y z h i)
      go Greater e h = absurd cc

  -- two total orders, the second used if the first calls two items equal, are one total order
  pub then_total : IsTotalOrder then
  then_total = record {
    antisymm = λ x y. (λ i. ordering_then (r.antisymm x y i) (s.antisymm x y i)) ∙ both_reversed (R y x) (S y x);
    trans = then_trans;
    congr = then_congr;
  }

-- ---- numbers from the greatest down

-- numbers from the greatest down are in a total order
pub deepest_total : IsTotalOrder (λ (a b : ℕ). nat_cmp b a)
deepest_total = record {
  antisymm = λ x y. nat_cmp_total.antisymm y x;
  trans = λ x y z h k. nat_cmp_total.trans z y x k h;
  congr = λ x y z e. back x y z e;
}
  where
    back : (x y z : ℕ) → nat_cmp y x ≡ Equal → nat_cmp z x ≡ nat_cmp z y
    back x y z e = from_tied nat_cmp nat_cmp nat_cmp_total nat_cmp_total z y x e
