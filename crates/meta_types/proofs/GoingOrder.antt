-- Snapshots go in an order: by snapshotter, the deepest first, then by number. Of two that differ
-- one goes before the other, and not the other way.
use Rattle.std.proofs.Common.{◌≡◌, true, false, refl, sym, ap, ◌∙◌, List, inl, inr}
use Rattle.std.specs.Prelude.{◌&&◌, ◌||◌}
use Rattle.std.specs.declared.cmp.Ordering.{Ordering}
use Rattle.std.specs.declared.cmp.Ordering.TheVariants.{Less, Equal, Greater}
use Rattle.std.specs.Ordering.{is_lt, is_eq, nat_cmp, ordering_reverse, ordering_then}
use Rattle.std.specs.Cmp.{IsTotalOrder, nat_cmp_total}
use Rattle.std.specs.Cmp.Lexicographic.{nat_list_cmp_total}
use Rattle.std.proofs.lemmas.Bool.{cases_Bool, both_ways}
use Rattle.std.proofs.lemmas.Map.Text.{is_eq-slice_cmp}
use Rattle.std.proofs.lemmas.Cmp.{on_total}
use Rattle.meta_types.specs.Text.{text_cmp}
use Rattle.meta_types.specs.Rows.{BackSnap}
use Rattle.meta_types.specs.Backends.{depth_of, goes_before}
use Rattle.meta_types.proofs.OrderThen.{is_lt-nat, is_eq-nat, from_tied, then_total, deepest_total}

module _ (all : List BackSnap) where
  abbrev go_cmp : BackSnap → BackSnap → Ordering
  go_cmp a b = ordering_then (ordering_then (text_cmp a.snapshotter b.snapshotter) (nat_cmp (depth_of all b) (depth_of all a))) (nat_cmp a.number b.number)

  go_total : IsTotalOrder go_cmp
  go_total =
      then_total (λ (a b : BackSnap). ordering_then (text_cmp a.snapshotter b.snapshotter) (nat_cmp (depth_of all b) (depth_of all a))) (λ (a b : BackSnap). nat_cmp a.number b.number)
      (then_total (λ (a b : BackSnap). text_cmp a.snapshotter b.snapshotter) (λ (a b : BackSnap). nat_cmp (depth_of all b) (depth_of all a))
      (on_total (λ (k : BackSnap). k.snapshotter) nat_list_cmp_total) (on_total (λ (k : BackSnap). depth_of all k) deepest_total))
      (on_total (λ (k : BackSnap). k.number) nat_cmp_total)

  goes_is : (a b : BackSnap) → goes_before all a b ≡ is_lt (go_cmp a b)
  goes_is a b =
      (λ i. is_lt (text_cmp a.snapshotter b.snapshotter) || sym (is_eq-slice_cmp a.snapshotter b.snapshotter) i
      && (sym (is_lt-nat (depth_of all b) (depth_of all a)) i || sym (is_eq-nat (depth_of all b) (depth_of all a)) i && sym (is_lt-nat a.number b.number) i))
      ∙ go (text_cmp a.snapshotter b.snapshotter) (nat_cmp (depth_of all b) (depth_of all a)) (nat_cmp a.number b.number)
    where
      go : (r s t : Ordering) → (is_lt r || is_eq r && (is_lt s || is_eq s && is_lt t)) ≡ is_lt (ordering_then (ordering_then r s) t)
      go Less s t = refl
      go Equal Less t = refl
      go Equal Equal Less = refl
      go Equal Equal Equal = refl
      go Equal Equal Greater = refl
      go Equal Greater t = refl
      go Greater s t = refl

  less : (r : Ordering) → is_lt r ≡ true → r ≡ Less
  less Less h = refl
  less Equal h = absurd cc
  less Greater h = absurd cc

  one_way_cmp : (x y : BackSnap) → is_lt (go_cmp x y) ≡ true → is_lt (go_cmp y x) ≡ false
  one_way_cmp x y h = ap is_lt (go_total.antisymm y x ∙ ap ordering_reverse (less (go_cmp x y) h))

  further : (x y z : BackSnap) → is_lt (go_cmp y x) ≡ false → is_lt (go_cmp z y) ≡ false → is_lt (go_cmp z x) ≡ false
  further x y z h k = go (go_cmp y x) refl h
    where
      go : (r : Ordering) → go_cmp y x ≡ r → is_lt r ≡ false → is_lt (go_cmp z x) ≡ false
      go Less e n = absurd cc
      go Equal e n = ap is_lt (from_tied go_cmp go_cmp go_total go_total z y x e) ∙ k
      go Greater e n = elim (cases_Bool (is_lt (go_cmp z x))) [
        | inl t ↦ (
            let xy : go_cmp x y ≡ Less = go_total.antisymm x y ∙ ap ordering_reverse e in
            let zy : go_cmp z y ≡ Less = go_total.trans z x y (less (go_cmp z x) t) xy in
            absurd (both_ways (is_lt (go_cmp z y)) k (ap is_lt zy)))
        | inr f ↦ f
      ]

  -- if a snapshot goes before another, the other doesn't go before it
  pub one_way : (x y : BackSnap) → goes_before all x y ≡ true → goes_before all y x ≡ false
  one_way x y h = goes_is y x ∙ one_way_cmp x y (sym (goes_is x y) ∙ h)

  -- if x doesn't go before y, and y doesn't go before z, x doesn't go before z
  pub chain : (x y z : BackSnap) → goes_before all x y ≡ false → goes_before all y z ≡ false → goes_before all x z ≡ false
  chain x y z h k = goes_is x z ∙ further z y x (sym (goes_is y z) ∙ k) (sym (goes_is x y) ∙ h)
