-- Zeros that are written piece by piece behind the end of a file.
use Rattle.std.proofs.Common.{◌≡◌, ◌∙◌, ap, sym, refl, subst, ℕ, ◌+◌, ◌-◌, ◌<◌, ◌≤◌, List, length, replicate, slice_index, inl, inr, arith}
use Rattle.std.proofs.lemmas.Bool.{cases_lt}
use Rattle.std.proofs.lemmas.List.{length-replicate, get_or-replicate}
use Rattle.sqlite_disk.specs.Disk.{Holds, Torn, Follows}
use Rattle.journal.proofs.Growth.{torn_same}

-- ---- no piece is written yet

pub follows_none : (at : ℕ) (outcomes : List ℕ → Type 0) → Follows (Torn at 0) outcomes outcomes
follows_none at outcomes c may = (c, may, torn_same at 0 c c refl)

pub follows_same : (at n : ℕ) (outcomes : List ℕ → Type 0) → Follows (Torn at n) outcomes outcomes
follows_same at n outcomes c may = (c, may, torn_same at n c c refl)

-- ---- as many zeros

module _ (at n : ℕ) where
  pub torn_of : (old new zeros : List ℕ) → zeros ≡ replicate n 0
      → Torn at (length zeros) old new → Torn at n old new
  torn_of old new zeros are torn =
      subst (λ (m : ℕ). Torn at m old new) (ap length are ∙ length-replicate n 0) torn

  pub follows_of : (old new : List ℕ → Type 0) (zeros : List ℕ) → zeros ≡ replicate n 0
      → Follows (Torn at (length zeros)) old new → Follows (Torn at n) old new
  follows_of old new zeros are follows c may =
      let from = follows c may in
      (from.0, from.1, torn_of from.0 c zeros are from.2)

  pub holds_of : (file zeros : List ℕ) → zeros ≡ replicate n 0 → 0 < n
      → (0 < length zeros → Holds file at zeros) → Holds file at (replicate n 0)
  holds_of file zeros are some holds =
      let size = ap length are in
      let long = length-replicate {A = ℕ} n 0 in
      subst (λ (t : List ℕ). Holds file at t) are (holds (omega (arith, size, long, some)))

-- ---- some pieces of all

pub torn_wider : (at n m : ℕ) (old new : List ℕ) → n ≤ m → Torn at n old new → Torn at m old new
torn_wider at n m old new le torn =
    let high = torn.no_longer in
    record {
      no_shorter = torn.no_shorter;
      no_longer = omega (arith, le, high);
      below = torn.below;
      above = λ i less behind. torn.above i less (omega (arith, le, behind));
    }

pub follows_wider : (at n m : ℕ) (old new : List ℕ → Type 0) → n ≤ m
    → Follows (Torn at n) old new → Follows (Torn at m) old new
follows_wider at n m old new le follows c may =
    let from = follows c may in
    (from.0, from.1, torn_wider at n m from.0 c le from.2)

-- ---- a piece more

module _ (from at n m all : ℕ) (place : at ≡ from + n) (both : all ≡ n + m) where
  pub torn_more : (a b c : List ℕ) → Torn from n a b → Torn at m b c → Torn from all a c
  torn_more a b c one other =
      let low = one.no_shorter in
      let high = one.no_longer in
      let low_then = other.no_shorter in
      let high_then = other.no_longer in
      record {
        no_shorter = omega (arith, low, low_then);
        no_longer = omega (arith, place, both, high, high_then);
        below = λ i less before.
            other.below i (omega (arith, less, low)) (omega (arith, before, place))
            ∙ one.below i less before;
        above = λ i less behind.
            other.above i (omega (arith, less, low)) (omega (arith, behind, place, both))
            ∙ one.above i less (omega (arith, behind, both));
      }

  pub follows_more : (old mid new : List ℕ → Type 0) → Follows (Torn from n) old mid
      → Follows (Torn at m) mid new → Follows (Torn from all) old new
  follows_more old mid new one other c may =
      let then = other c may in
      let first = one then.0 then.1 in
      (first.0, first.1, torn_more first.0 then.0 c first.2 then.2)

  pub holds_more : (b c : List ℕ) → (from < at → Holds b from (replicate n 0)) → Torn at m b c
      → Holds c at (replicate m 0) → Holds c from (replicate all 0)
  holds_more b c before torn there =
      let size = length-replicate {A = ℕ} m 0 in
      let long = length-replicate {A = ℕ} all 0 in
      let within = there.within in
      record {
        within = omega (arith, place, both, size, long, within);
        each = λ i less.
            let here : i < all = omega (arith, less, long) in
            elim (cases_lt i n) [
              | inl first ↦
                  let old = before (omega (arith, first, place)) in
                  let fits = old.within in
                  let count = length-replicate {A = ℕ} n 0 in
                  torn.below (from + i) (omega (arith, fits, count, first))
                  (omega (arith, first, place))
                  ∙ old.each i (omega (arith, count, first)) ∙ get_or-replicate n i 0 0 first
                  ∙ sym (get_or-replicate all i 0 0 here)
              | inr later ↦
                  let j = i - n in
                  let same : from + i ≡ at + j = omega (arith, place, later) in
                  let less_then : j < m = omega (arith, here, both, later) in
                  ap (slice_index c) same ∙ there.each j (omega (arith, size, less_then))
                  ∙ get_or-replicate m j 0 0 less_then
                  ∙ sym (get_or-replicate all i 0 0 here)
            ];
      }
