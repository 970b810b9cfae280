-- A look at a reached node keeps the rule of the claim words.
use Rattle.std.proofs.Common.{◌≡◌, ◌≢◌, ℕ, zero, suc, ◌+◌, ◌/◌, ◌%◌, ◌^◌, ◌<◌, List, length, get_or, set, bit_or, refl, sym, ap, ◌∙◌, subst, arith}
use Rattle.std.specs.Prelude.{All, sum_by}
use Rattle.std.proofs.lemmas.List.{length-set}
use Rattle.std.proofs.lemmas.List.Elements.{All-push, All-weaker}
use native.Mathlib.Decide.{ℕ_discrete}
use mathlib.Core.Logic.{dite}
use mathlib.Core.Option.{none, some}
use lib.ListN.{get_elem?}
use Rattle.atomic_table.specs.Table.{State, Me, step, Allows, keeps}
use Rattle.mark_core.specs.declared.graph.Graph.{Graph}
use Rattle.mark_core.specs.Bits.{bit_of, times}
use Rattle.mark_core.specs.Reach.{Reached, node_count}
use Rattle.mark_core.proofs.BitLemmas.{bit_of-lt, with_bit, bit_of-with_same, bit_of-with_other}
use Rattle.mark_core.proofs.Counts.{times_push, one_if, one_if_same, one_if_other}
use Rattle.steal_mark.specs.declared.shared.claims.Claims.{Claims}
use Rattle.steal_mark.specs.Claiming.{Fits, IsClaimed, claimed_after, looked, Looks}
use Rattle.steal_mark.proofs.Sums.{sum_set, each_set}

-- what a claim adds to the count of k
abbrev fresh : ℕ → ℕ → ℕ → ℕ
fresh zero n k = one_if n k
fresh (suc bit) n k = 0

-- a claim adds one node
times-claimed_after : (n bit : ℕ) (xs : List ℕ) (k : ℕ) → times k (claimed_after n bit xs) ≡ times k xs + fresh bit n k
times-claimed_after n zero xs k = times_push k xs n
times-claimed_after n (suc bit) xs k = omega arith

-- a claimed node is reached
reached_after : (g : Graph) (n bit : ℕ) (xs : List ℕ) → Reached g n → All (Reached g) xs → All (Reached g) (claimed_after n bit xs)
reached_after g n zero xs here all = All-push (Reached g) xs n all here
reached_after g n (suc bit) xs here all = all

module _ (words : List ℕ) (n mask : ℕ) (is : mask ≡ 2 ^ (n % 64)) (inside : n / 64 < length words) where
  -- one bit is set, and the others stay
  bits_after : (bit : ℕ) → bit_of words n ≡ bit → (k : ℕ) → bit_of words k + fresh bit n k ≡ bit_of (with_bit words n mask) k
  bits_after zero e k =
      dite (ℕ_discrete k n)
      (λ (same : k ≡ n). subst (λ m. bit_of words m + one_if n m ≡ bit_of (with_bit words n mask) m) (sym same)
      (let a = bit_of-with_same words n mask is inside in let b = one_if_same n in omega arith))
      (λ (ne : k ≢ n). let a = bit_of-with_other words n mask is inside k ne in let b = one_if_other n k (λ (h : n ≡ k). ne (sym h)) in omega arith)
  bits_after (suc bit) e k =
      dite (ℕ_discrete k n)
      (λ (same : k ≡ n). subst (λ m. bit_of words m + 0 ≡ bit_of (with_bit words n mask) m) (sym same)
      (let a = bit_of-with_same words n mask is inside in let b = bit_of-lt words n in omega arith))
      (λ (ne : k ≢ n). let a = bit_of-with_other words n mask is inside k ne in omega arith)

  -- a set bit stays set
  bit_stays : (k : ℕ) → bit_of words k ≡ 1 → bit_of (with_bit words n mask) k ≡ 1
  bit_stays k set' =
      dite (ℕ_discrete k n) (λ (same : k ≡ n). ap (λ m. bit_of (with_bit words n mask) m) same ∙ bit_of-with_same words n mask is inside)
      (λ (ne : k ≢ n). bit_of-with_other words n mask is inside k ne ∙ set')

  -- what fitted before fits with one bit more
  fits_stays : (g : Graph) (v : Claims) → Fits g words v → Fits g (with_bit words n mask) v
  fits_stays g v f = record { reached = f.reached; seen = All-weaker (λ k. bit_of words k ≡ 1) (λ k. bit_of (with_bit words n mask) k ≡ 1) bit_stays v.seen f.seen; idle = f.idle }

-- a seat that looked at a reached node has claimed reached nodes alone, and the bit of each node
-- that it saw is set
fits_looked : (g : Graph) (n mask : ℕ) (words : List ℕ) (v : Claims) → mask ≡ 2 ^ (n % 64) → n / 64 < length words → Reached g n → 0 < v.parts → Fits g words v → Fits g (with_bit words n mask) (looked n (bit_of words n) v)
fits_looked g n mask words v is inside here some_part old = record {
  reached = reached_after g n (bit_of words n) v.claimed here old.reached;
  seen = All-push (λ k. bit_of (with_bit words n mask) k ≡ 1) v.seen n (fits_stays words n mask is inside g v old).seen (bit_of-with_same words n mask is inside);
  idle = λ z. absurd (omega arith);
}

-- what all seats have claimed of a node and its bit grow by the same
counted_looked : (g : Graph) (n mask : ℕ) (s : State (Unit {0}) Claims) (id : ℕ) (v : Claims) → mask ≡ 2 ^ (n % 64) → n / 64 < length s.words → IsClaimed g s → get_elem? s.views id ≡ some v
    → (k : ℕ) → sum_by (λ (u : Claims). times k u.claimed) (set s.views id (looked n (bit_of s.words n) v)) ≡ bit_of (with_bit s.words n mask) k
counted_looked g n mask s id v is wide h at k =
    let a = sum_set (λ (u : Claims). times k u.claimed) s.views id v (looked n (bit_of s.words n) v) at in
    let b = times-claimed_after n (bit_of s.words n) v.claimed k in
    let c = bits_after s.words n mask is wide (bit_of s.words n) refl k in
    let d = h.counted k in
    omega arith

-- a look at a reached node keeps the rule: the seat's claims and the bits grow by the same
pub looks : (g : Graph) (n mask slots id : ℕ) (me : Me (Unit {0}) Claims) → mask ≡ 2 ^ (n % 64) → n < node_count g → Reached g n → 0 < me.0.parts
    → Allows (IsClaimed g) slots id me (n / 64) (λ w. bit_or w mask) (Looks (step slots (n / 64) mask 0 none) me)
looks g n mask slots id me is inside here some_part s h homes at fits =
    let v : Claims = me.0 in
    let bit : ℕ = bit_of s.words n in
    let w : Claims = looked n bit v in
    let wide : n / 64 < length s.words = let e = h.wide in omega arith in
    let mine : Fits g (with_bit s.words n mask) w = fits_looked g n mask s.words v is wide here some_part (h.each id v at) in (
      w,
      keeps,
      tt,
      record {
        parts = let a = sum_set (λ u. u.parts) s.views id v w at in let p = h.parts in omega arith;
        wide = length-set s.words (n / 64) (bit_or (get_or s.words (n / 64) 0) mask) ∙ h.wide;
        counted = counted_looked g n mask s id v is wide h at;
        each = each_set (Fits g (with_bit s.words n mask)) s.views id w (λ j u e. fits_stays s.words n mask is wide g u (h.each j u e)) mine;
      },
      (n, refl, sym is, refl),
    )
