-- Backend snapshots are ordered by snapshotter and number; one more stands last of its snapshotter.
use Rattle.std.proofs.Common.{◌≡◌, ◌<◌, Bool, true, false, List, refl, sym, ap, ◌∙◌, subst, arith, inl, inr}
use Rattle.std.specs.Prelude.{All, AllPairs, IsTrue, nat_lt, bytes_eq, ◌&&◌}
use Rattle.std.specs.Ordering.{is_lt, is_eq, ordering_reverse}
use Rattle.std.specs.Cmp.Lexicographic.{texts_ties}
use Rattle.std.specs.declared.cmp.Ordering.{Ordering}
use Rattle.std.specs.declared.cmp.Ordering.TheVariants.{Less, Equal, Greater}
use Rattle.std.proofs.lemmas.Cmp.{nat_list_cmp_total}
use Rattle.std.proofs.lemmas.Bool.{and_parts, and_from, or_cases, or_left, or_right, or_parts, both_ways, ltb-true, lt-ltb}
use Rattle.std.proofs.lemmas.List.Elements.{All-weaker}
use Rattle.std.proofs.lemmas.Slice.Eq.{bytes_eq-Decides}
use Rattle.meta_types.specs.Text.{Text, text_cmp}
use Rattle.meta_types.specs.Keys.{put_in_order}
use Rattle.meta_types.specs.Rows.{BackSnap}
use Rattle.meta_types.specs.Changes.{stands_before}
use Rattle.object_tables.proofs.PairsKept.{pairs_put}

-- ---- the order

less : (r : Ordering) → is_lt r ≡ true → r ≡ Less
less Less e = refl
less Equal e = absurd cc
less Greater e = absurd cc

-- one snapshot stands before another: by the snapshotter, or of one snapshotter by the number
module _ (a b c : BackSnap) where
  abbrev ahead : BackSnap → BackSnap → Bool
  ahead x y = is_lt (text_cmp x.snapshotter y.snapshotter)

  abbrev beside : BackSnap → BackSnap → Bool
  beside x y = bytes_eq x.snapshotter y.snapshotter && nat_lt x.number y.number

  pub stands_trans : stands_before a b ≡ true → stands_before b c ≡ true → stands_before a c ≡ true
  stands_trans p q = elim (or_cases (ahead a b) (beside a b) p) [
    | inl first ↦ elim (or_cases (ahead b c) (beside b c) q) [
      | inl second ↦ or_left (ahead a c) (beside a c) (ap is_lt
          (nat_list_cmp_total.trans a.snapshotter b.snapshotter c.snapshotter (less _ first)
          (less _ second)))
      | inr second ↦ or_left (ahead a c) (beside a c)
          (subst (λ (t : Text). is_lt (text_cmp a.snapshotter t) ≡ true) (same b c
          (and_parts (bytes_eq b.snapshotter c.snapshotter) (nat_lt b.number c.number) second).0)
          first)
    ]
    | inr first ↦ (
        let firsts = and_parts (bytes_eq a.snapshotter b.snapshotter) (nat_lt a.number b.number)
        first in
        elim (or_cases (ahead b c) (beside b c) q) [
          | inl second ↦ or_left (ahead a c) (beside a c)
              (subst (λ (t : Text). is_lt (text_cmp t c.snapshotter) ≡ true)
              (sym (same a b firsts.0)) second)
          | inr second ↦ (
              let seconds = and_parts (bytes_eq b.snapshotter c.snapshotter)
              (nat_lt b.number c.number) second in
              or_right (ahead a c) (beside a c)
              (and_from (bytes_eq a.snapshotter c.snapshotter) (nat_lt a.number c.number)
              ((bytes_eq-Decides a.snapshotter c.snapshotter).1
              (same a b firsts.0 ∙ same b c seconds.0))
              (let p = ltb-true a.number b.number firsts.1 in let q =
              ltb-true b.number c.number seconds.1 in
              lt-ltb a.number c.number (omega (arith, p, q)))))
        ])
  ]
    where
      same : (x y : BackSnap) → bytes_eq x.snapshotter y.snapshotter ≡ true
          → x.snapshotter ≡ y.snapshotter
      same x y h = (bytes_eq-Decides x.snapshotter y.snapshotter).0 h

-- of two, the one with the greater number stands behind, or before by its snapshotter
pub stands_behind : (a b : BackSnap) → b.number < a.number → stands_before a b ≡ false
    → stands_before b a ≡ true
stands_behind a b below n = go (text_cmp a.snapshotter b.snapshotter) refl
  where
    parts : (is_lt (text_cmp a.snapshotter b.snapshotter) ≡ false)
        × ((bytes_eq a.snapshotter b.snapshotter && nat_lt a.number b.number) ≡ false)
    parts = or_parts (is_lt (text_cmp a.snapshotter b.snapshotter))
        (bytes_eq a.snapshotter b.snapshotter && nat_lt a.number b.number) n

    go : (r : Ordering) → text_cmp a.snapshotter b.snapshotter ≡ r → stands_before b a ≡ true
    go Less e =
        absurd (both_ways (is_lt (text_cmp a.snapshotter b.snapshotter)) parts.0 (ap is_lt e))
    go Equal e = (
        let same : a.snapshotter ≡ b.snapshotter =
        (bytes_eq-Decides a.snapshotter b.snapshotter).0
        (texts_ties a.snapshotter b.snapshotter ∙ ap is_eq e) in
        or_right (is_lt (text_cmp b.snapshotter a.snapshotter))
        (bytes_eq b.snapshotter a.snapshotter && nat_lt b.number a.number)
        (and_from (bytes_eq b.snapshotter a.snapshotter) (nat_lt b.number a.number)
        ((bytes_eq-Decides b.snapshotter a.snapshotter).1 (sym same))
        (lt-ltb b.number a.number below)))
    go Greater e = or_left (is_lt (text_cmp b.snapshotter a.snapshotter))
        (bytes_eq b.snapshotter a.snapshotter && nat_lt b.number a.number)
        (ap is_lt (nat_list_cmp_total.antisymm b.snapshotter a.snapshotter ∙ ap ordering_reverse e))

pub object_in_order : (new : BackSnap) (snaps : List BackSnap)
    → All (λ (snap : BackSnap). snap.number < new.number) snaps
    → AllPairs (λ a b. IsTrue (stands_before a b)) snaps
    → AllPairs (λ a b. IsTrue (stands_before a b)) (put_in_order stands_before new snaps)
object_in_order new snaps below order =
    pairs_put (λ a b. IsTrue (stands_before a b)) stands_trans stands_before new snaps
    (All-weaker (λ (snap : BackSnap). snap.number < new.number)
    (λ snap. (stands_before new snap ≡ true → IsTrue (stands_before new snap))
    × (stands_before new snap ≡ false → IsTrue (stands_before snap new)))
    (λ snap h. ((λ t. t), stands_behind new snap h)) snaps below) order
