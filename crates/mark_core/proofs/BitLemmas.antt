-- One bit is set in words of bits.
use Rattle.std.proofs.Common.{◌≡◌, ◌≢◌, ℕ, ◌*◌, ◌/◌, ◌%◌, ◌^◌, ◌<◌, List, length, get_or, set, bit_or, bit_and, max, sym, ap, ◌∙◌, subst, arith}
use Rattle.std.specs.Int.{bit_at}
use Rattle.std.proofs.Math.Pow.{pow-lt, pow_pos}
use Rattle.std.proofs.Math.Nat.{mod-eq_of_lt, mod-lt}
use Rattle.std.proofs.lemmas.Nat.{div-add-mod'}
use Rattle.std.proofs.lemmas.Nat.Bits.{bit_at_or, bit_at-pow_same, bit_at-pow_other, bit_at-lt, and_pow}
use Rattle.std.proofs.lemmas.List.{get_or-set_same, get_or-set_other}
use Rattle.std.proofs.lemmas.Grind.{get_or_default_zero}
use Rattle.std.proofs.lemmas.Bool.Decides.{nat_tests}
use Rattle.std.specs.Prelude.{IsTrue, nat_eq, ◌↔◌}
use native.Mathlib.Decide.{ℕ_discrete}
use mathlib.Core.Logic.{dite}
use Rattle.mark_core.specs.Bits.{bit_of, HasRoom}

-- a bit is 0 or 1
pub bit_of-lt : (words : List ℕ) (n : ℕ) → bit_of words n < 2
bit_of-lt words n = bit_at-lt (get_or words (n / 64) 0) (n % 64)

-- what `1 << n % 64` computes
pub mask_is : (n : ℕ) → 1 * 2 ^ (n % 64) % 18446744073709551616 ≡ 2 ^ (n % 64)
mask_is n =
    let k : n % 64 < 64 = mod-lt n {m = 64} (omega arith) in
    let small : 2 ^ (n % 64) < 2 ^ 64 = pow-lt k in
    let e : 1 * 2 ^ (n % 64) ≡ 2 ^ (n % 64) = omega arith in
    ap (λ x. x % 18446744073709551616) e ∙ mod-eq_of_lt small

-- its word and its place in it give a number
same_node : (k n : ℕ) → k / 64 ≡ n / 64 → k % 64 ≡ n % 64 → k ≡ n
same_node k n a b = let p = div-add-mod' k 64 in let q = div-add-mod' n 64 in omega arith

-- the word of n, with the bit of n added
abbrev pub with_bit : List ℕ → ℕ → ℕ → List ℕ
with_bit words n mask = set words (n / 64) (bit_or (get_or words (n / 64) 0) mask)

-- what setting the bit of n does
module _ (words : List ℕ) (n mask : ℕ) (is : mask ≡ 2 ^ (n % 64))
    (inside : n / 64 < length words) where
  -- an or with the mask sets the bit of n
  pub bit_of-with_same : bit_of (with_bit words n mask) n ≡ 1
  bit_of-with_same =
      let w : ℕ = get_or words (n / 64) 0 in
      let e : get_or (with_bit words n mask) (n / 64) 0 ≡ bit_or w mask =
      get_or-set_same words (n / 64) (bit_or w mask) 0 inside in
      let f : bit_at (bit_or w mask) (n % 64) ≡ max (bit_at w (n % 64)) (bit_at mask (n % 64)) =
      bit_at_or w mask (n % 64) in
      let g : bit_at mask (n % 64) ≡ 1 =
      ap (λ m. bit_at m (n % 64)) is ∙ bit_at-pow_same (n % 64) in
      let b : bit_at w (n % 64) < 2 = bit_at-lt w (n % 64) in
      let h : max (bit_at w (n % 64)) (bit_at mask (n % 64)) ≡ 1 = omega arith in
      ap (λ v. bit_at v (n % 64)) e ∙ f ∙ h

  -- another number has another word, or another place, which the mask leaves
  pub bit_of-with_other : (k : ℕ) → k ≢ n → bit_of (with_bit words n mask) k ≡ bit_of words k
  bit_of-with_other k other =
      let w : ℕ = get_or words (n / 64) 0 in
      dite (ℕ_discrete (k / 64) (n / 64))
      (λ (same : k / 64 ≡ n / 64).
      let apart : k % 64 ≢ n % 64 = λ e. other (same_node k n same e) in
      let e : get_or (with_bit words n mask) (k / 64) 0 ≡ bit_or w mask =
      ap (λ i. get_or (with_bit words n mask) i 0) same
      ∙ get_or-set_same words (n / 64) (bit_or w mask) 0 inside in
      let f : bit_at (bit_or w mask) (k % 64) ≡ max (bit_at w (k % 64)) (bit_at mask (k % 64)) =
      bit_at_or w mask (k % 64) in
      let g : bit_at mask (k % 64) ≡ 0 =
      ap (λ m. bit_at m (k % 64)) is ∙ bit_at-pow_other (n % 64) (k % 64) apart in
      let h : max (bit_at w (k % 64)) (bit_at mask (k % 64)) ≡ bit_at w (k % 64) = omega arith in
      ap (λ v. bit_at v (k % 64)) e ∙ f ∙ h
      ∙ ap (λ i. bit_at (get_or words i 0) (k % 64)) (sym same))
      (λ (away : k / 64 ≢ n / 64).
      ap (λ v. bit_at v (k % 64)) (get_or-set_other words (n / 64) (k / 64) (bit_or w mask) 0 away))

-- the test `word & mask == 0`
pub bit_clear : (word n mask : ℕ) → mask ≡ 2 ^ (n % 64) → bit_and word mask ≡ 0
    → bit_at word (n % 64) ≡ 0
bit_clear word n mask is clear =
    let e : bit_and word mask ≡ bit_at word (n % 64) * 2 ^ (n % 64) =
    ap (λ m. bit_and word m) is ∙ and_pow word (n % 64) in
    let b : bit_at word (n % 64) < 2 = bit_at-lt word (n % 64) in
    let p : 0 < 2 ^ (n % 64) = pow_pos (n % 64) in
    grind arith

-- the same the other way: an and with the mask shows that bit alone
pub clear_bit : (word n mask : ℕ) → mask ≡ 2 ^ (n % 64) → bit_at word (n % 64) ≡ 0
    → bit_and word mask ≡ 0
clear_bit word n mask is clear =
    let e : bit_at word (n % 64) * 2 ^ (n % 64) ≡ 0 * 2 ^ (n % 64) =
    ap (λ b. b * 2 ^ (n % 64)) clear in
    let z : 0 * 2 ^ (n % 64) ≡ 0 = omega arith in
    ap (λ m. bit_and word m) is ∙ and_pow word (n % 64) ∙ e ∙ z

-- what a write of the word with the bit of n does, where w is the word that was read
module _ (words now : List ℕ) (n w : ℕ) (view : words ≡ now)
    (inside : n / 64 < length now) (read : w ≡ get_or words (n / 64) w) where
  -- the mask as the code computes it
  abbrev mask : ℕ
  mask = 1 * 2 ^ (n % 64) % 18446744073709551616

  -- the word that was read is the one of the set
  word_is : w ≡ get_or words (n / 64) 0
  word_is =
      read ∙ get_or_default_zero words (n / 64) w (subst (λ l. n / 64 < length l) (sym view) inside)

  -- so the test of the word tells whether the set has n
  pub tells_clear : IsTrue (nat_eq (bit_and w mask) 0) ↔ (bit_of now n ≡ 0)
  tells_clear =
      let e : bit_at w (n % 64) ≡ bit_of now n =
      ap (λ v. bit_at v (n % 64)) word_is ∙ ap (λ l. bit_of l n) view in (
        λ t. let z : bit_and w mask ≡ 0 = grind (arith, nat_tests) in
            sym e ∙ bit_clear w n mask (mask_is n) z,
        λ z. let y : bit_and w mask ≡ 0 = clear_bit w n mask (mask_is n) (e ∙ z) in
            grind (arith, nat_tests),
      )

  -- the words as written are those with the bit of n
  written : set words (n / 64) (bit_or w mask) ≡ with_bit now n mask
  written = ap (λ v. set words (n / 64) (bit_or v mask)) word_is ∙ ap (λ l. with_bit l n mask) view

  -- which has the bit
  pub has_bit : bit_of (set words (n / 64) (bit_or w mask)) n ≡ 1
  has_bit = ap (λ l. bit_of l n) written ∙ bit_of-with_same now n mask (mask_is n) inside

  -- and each other as before
  pub keeps_others : (k : ℕ) → k ≢ n → bit_of (set words (n / 64) (bit_or w mask)) k ≡ bit_of now k
  keeps_others k other =
      ap (λ l. bit_of l k) written ∙ bit_of-with_other now n mask (mask_is n) inside k other

-- ---- the room
-- as many words have room for as many numbers
pub HasRoom-same : (count : ℕ) (old new : List ℕ)
    → length new ≡ length old → HasRoom count old → HasRoom count new
HasRoom-same count old new same room n inside = let r = room n inside in omega arith
