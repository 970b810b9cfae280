-- What a seat learns from a look, and from a load where it has every part.
use Rattle.std.proofs.Common.{◌≡◌, ◌≢◌, ℕ, ◌/◌, ◌%◌, ◌^◌, ◌<◌, bit_and, Bool, true, false, true≢false, eq-eqb, refl, sym, ap, ◌∙◌, subst, arith}
use Rattle.std.specs.Prelude.{MatchBool, nat_eq, Some}
use Rattle.atomic_table.proofs.Lists.{set_again}
use Rattle.std.specs.Int.{bit_at}
use Rattle.std.proofs.lemmas.List.{set-get_or}
use Rattle.std.proofs.lemmas.List.Elements.{All-weaker}
use native.Mathlib.Decide.{dec_lt}
use Rattle.std.proofs.Math.Pow.{pow-lt}
use Rattle.std.proofs.lemmas.Nat.{div-add-mod'}
use Rattle.std.proofs.lemmas.Nat.Bits.{bit_at-lt}
use Rattle.std.proofs.lemmas.Bool.Decides.{nat_tests}
use mathlib.Core.Logic.{dite}
use mathlib.Core.Option.{none, some}
use lib.ListN.{get_elem?}
use Rattle.atomic_table.specs.Table.{State, Me, step, Allows, keeps}
use Rattle.mark_core.specs.declared.graph.Graph.{Graph}
use Rattle.mark_core.specs.Bits.{bit_of, times}
use Rattle.mark_core.proofs.BitLemmas.{bit_of-lt, bit_clear, clear_bit}
use Rattle.steal_mark.specs.declared.shared.claims.Claims.{Claims}
use Rattle.steal_mark.specs.Claiming.{IsClaimed, looked, Looks, Knows, Learns}
use Rattle.steal_mark.proofs.Sums.{all_in_one}

-- who has every part has all claims, and the rule says of these that they are the bits
pub knows : (g : Graph) (s : State (Unit {0}) Claims) (id : ℕ) (v : Claims) → IsClaimed g s → get_elem? s.views id ≡ some v → v.parts ≡ 1024 → Knows g v
knows g s id v h at all =
    let is : (n : ℕ) → times n v.claimed ≡ bit_of s.words n = λ n.
    let a = all_in_one (λ (u : Claims). u.parts) (λ u. times n u.claimed) s.views id v at (all ∙ sym h.parts) (λ j u e z. ap (times n) ((h.each j u e).idle z)) in
    let b = h.counted n in omega arith in
    let mine = h.each id v at in
    record {
      once = λ n. let a = is n in let b = bit_of-lt s.words n in omega arith;
      seen = All-weaker (λ n. bit_of s.words n ≡ 1) (λ n. 0 < times n v.claimed) (λ n b. let a = is n in omega arith) v.seen mine.seen;
      reached = mine.reached;
    }

-- powers of two are equal only at equal exponents
same_power : (a b : ℕ) → 2 ^ a ≡ 2 ^ b → a ≡ b
same_power a b e =
    dite (dec_lt a b) (λ (l : a < b). absurd (let p : 2 ^ a < 2 ^ b = pow-lt l in omega arith))
    (λ (nl : ¬ (a < b)). dite (dec_lt b a) (λ (l : b < a). absurd (let p : 2 ^ b < 2 ^ a = pow-lt l in omega arith)) (λ (nl' : ¬ (b < a)). omega arith))

-- what the caller of a look learns
module _ (n mask found slots : ℕ) (me me' : Me (Unit {0}) Claims) (is : mask ≡ 2 ^ (n % 64)) (t : Looks (step slots (n / 64) mask 0 none) me found me') where
  -- the word and the bit name one node
  same_node : t.0 ≡ n
  same_node =
      let a : t.0 / 64 ≡ n / 64 = t.1 in
      let b : t.0 % 64 ≡ n % 64 = same_power (t.0 % 64) (n % 64) (t.2 ∙ is) in
      let p = div-add-mod' (t.0) 64 in let q = div-add-mod' n 64 in
      omega arith

  -- the look was at the node that was asked for
  after_look : me' ≡ (looked n (bit_at found (n % 64)) me.0, me.1)
  after_look = subst (λ m. me' ≡ (looked m (bit_at found (m % 64)) me.0, me.1)) same_node t.3

  -- the seat after a look
  view_after : me'.0 ≡ looked n (bit_at found (n % 64)) me.0
  view_after = ap (λ (x : Me (Unit {0}) Claims). x.0) after_look

  -- the bit of the found word says whether the node was claimed before
  pub told : (b : Bool) → nat_eq (bit_and found mask) 0 ≡ b → MatchBool b (me'.0 ≡ looked n 0 me.0) (me'.0 ≡ looked n 1 me.0)
  told true e =
      let z : bit_and found mask ≡ 0 = grind (arith, nat_tests) in
      view_after ∙ ap (λ b. looked n b me.0) (bit_clear found n mask is z)
  told false e =
      let low : bit_at found (n % 64) < 2 = bit_at-lt found (n % 64) in
      let ne : bit_at found (n % 64) ≢ 0 = λ z. (let y : bit_and found mask ≡ 0 = clear_bit found n mask is z in let f : nat_eq (bit_and found mask) 0 ≡ true = eq-eqb (bit_and found mask) 0 y in true≢false (sym f ∙ e)) in
      let one : bit_at found (n % 64) ≡ 1 = omega arith in
      view_after ∙ ap (λ b. looked n b me.0) one

-- a load, by who has every part
pub learns : (g : Graph) (slots id word : ℕ) (me : Me (Unit {0}) Claims) → Allows (IsClaimed g) slots id me word (λ n. n) (Learns (Some g) (step slots word 0 0 none) me)
learns g slots id word me s h homes at fits = (
  me.0,
  keeps,
  tt,
  subst (IsClaimed g) (λ i. record { words = sym (set-get_or s.words word 0) i; homes = s.homes; views = sym (set_again s.views id me.0 at) i }) h,
  (refl, λ all. knows g s id me.0 h at all),
)
