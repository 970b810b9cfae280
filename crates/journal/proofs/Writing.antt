-- What a write within a file leaves.
use Rattle.std.proofs.Common.{◌≡◌, ◌⊎◌, ◌∙◌, ap, sym, ℕ, suc, ◌+◌, ◌<◌, ◌≤◌, List, [], ◌∷◌, ◌++◌, length, take, drop, slice_index, inl, inr, arith, length-drop, get_or-drop, get_or-take}
use Rattle.std.proofs.lemmas.List.{take-append-drop, length-take-le, drop-drop, ext_get_or}
use Rattle.sqlite_disk.specs.Disk.{Holds, Torn, Mixed}
use Rattle.journal.specs.Crashes.{Mixes, written}

mixes_from : (a b c : List ℕ) → length a ≡ length c → length b ≡ length c
    → ((i : ℕ) → i < length c
    → (slice_index c i ≡ slice_index a i) ⊎ (slice_index c i ≡ slice_index b i)) → Mixes a b c
mixes_from [] [] [] one other each = tt
mixes_from [] (y ∷ b) [] one other each = absurd (omega (arith, other))
mixes_from (x ∷ a) b [] one other each = absurd (omega (arith, one))
mixes_from [] b (z ∷ c) one other each = absurd (omega (arith, one))
mixes_from (x ∷ a) [] (z ∷ c) one other each = absurd (omega (arith, other))
mixes_from (x ∷ a) (y ∷ b) (z ∷ c) one other each = (
  each 0 (omega arith),
  mixes_from a b c (omega (arith, one)) (omega (arith, other))
      (λ i lt. each (suc i) (omega (arith, lt))),
)

module _ (at : ℕ) (n : ℕ) (old new : List ℕ) (torn : Torn at n old new)
    (within : at + n ≤ length old) where
  pub same_size : length new ≡ length old
  same_size = let low = torn.no_shorter in let high =
      torn.no_longer in omega (arith, low, high, within)

  front : take at new ≡ take at old
  front =
      let here = length-take-le at new (omega (arith, same_size, within)) in
      let there = length-take-le at old (omega (arith, within)) in
      ext_get_or 0 (take at new) (take at old) (here ∙ sym there) (λ i lt.
      let below : i < at = omega (arith, lt, here) in
      get_or-take at new i 0 below ∙ torn.below i (omega (arith, below, within)) below
      ∙ sym (get_or-take at old i 0 below))

  back : drop (at + n) new ≡ drop (at + n) old
  back =
      let here = length-drop (at + n) new in
      let there = length-drop (at + n) old in
      ext_get_or 0 (drop (at + n) new) (drop (at + n) old) (omega (arith, here, there, same_size))
      (λ i lt.
      get_or-drop (at + n) new i 0
      ∙ torn.above (at + n + i) (omega (arith, lt, here, same_size)) (omega arith)
      ∙ sym (get_or-drop (at + n) old i 0))

  pub length-middle : length (take n (drop at new)) ≡ n
  length-middle = length-take-le n (drop at new)
      (let here = length-drop at new in omega (arith, here, same_size, within))

  pub is_written : new ≡ written at (take n (drop at new)) old
  is_written =
      sym (take-append-drop at new)
      ∙ ap (λ (t : List ℕ). take at new ++ t) (sym (take-append-drop n (drop at new)))
      ∙ ap (λ (t : List ℕ). take at new ++ (take n (drop at new) ++ t)) (drop-drop n at new ∙ back)
      ∙ ap (λ (t : List ℕ). t ++ (take n (drop at new) ++ drop (at + n) old)) front
      ∙ ap (λ (k : ℕ). take at old ++ (take n (drop at new) ++ drop (at + k) old))
      (sym length-middle)

  pub byte_at : (i : ℕ) → i < n → slice_index (take n (drop at new)) i ≡ slice_index new (at + i)
  byte_at i lt = get_or-take n (drop at new) i 0 lt ∙ get_or-drop at new i 0

  old_at : (i : ℕ) → i < n → slice_index (take n (drop at old)) i ≡ slice_index old (at + i)
  old_at i lt = get_or-take n (drop at old) i 0 lt ∙ get_or-drop at old i 0

  length-old : length (take n (drop at old)) ≡ n
  length-old = length-take-le n (drop at old)
      (let here = length-drop at old in omega (arith, here, within))

-- a whole write
pub put_done : (at : ℕ) (bytes old new : List ℕ) → Torn at (length bytes) old new
    → (0 < length bytes → Holds new at bytes) → at + length bytes ≤ length old
    → new ≡ written at bytes old
put_done at bytes old new torn holds within =
    let n = length bytes in
    let same : take n (drop at new) ≡ bytes =
    ext_get_or 0 (take n (drop at new)) bytes (length-middle at n old new torn within) (λ i lt.
    let less : i < n = let size =
    length-middle at n old new torn within in omega (arith, lt, size) in
    byte_at at n old new torn within i less ∙ (holds (omega (arith, less))).each i less) in
    is_written at n old new torn within ∙ ap (λ (m : List ℕ). written at m old) same

-- one that a crash cut short
pub put_mixed : (at : ℕ) (bytes d c : List ℕ) → at + length bytes ≤ length d → Mixed at bytes d c
    → (mixed : List ℕ) × (length mixed ≡ length bytes)
    × Mixes (take (length bytes) (drop at d)) bytes mixed × (c ≡ written at mixed d)
put_mixed at bytes d c within mixed =
    let n = length bytes in
    let size = length-middle at n d c mixed.torn within in (
      take n (drop at c),
      size,
      mixes_from (take n (drop at d)) bytes (take n (drop at c))
          (length-old at n d c mixed.torn within ∙ sym size) (sym size) (λ i lt.
          let less : i < n = omega (arith, lt, size) in
          let here = byte_at at n d c mixed.torn within i less in
          elim (mixed.each i less (omega (arith, less, within))) [
            | inl same ↦ inl (here ∙ same ∙ sym (old_at at n d c mixed.torn within i less))
            | inr other ↦ inr (here ∙ other)
          ]),
      is_written at n d c mixed.torn within,
    )

-- what a read answers
pub holds_take : (at : ℕ) (file bytes : List ℕ) → Holds file at bytes
    → bytes ≡ take (length bytes) (drop at file)
holds_take at file bytes holds =
    let n = length bytes in
    let size = length-take-le n (drop at file)
    (let here = length-drop at file in let within =
    holds.within in omega (arith, here, within)) in
    ext_get_or 0 bytes (take n (drop at file)) (sym size) (λ i lt.
    sym (get_or-take n (drop at file) i 0 lt ∙ get_or-drop at file i 0 ∙ holds.each i lt))

pub read_is : (at count : ℕ) (file bytes : List ℕ) → length bytes ≡ count
    → (0 < length bytes → Holds file at bytes) → bytes ≡ take count (drop at file)
read_is at count file [] size holds = ap (λ (n : ℕ). take n (drop at file)) size
read_is at count file (b ∷ bytes) size holds =
    holds_take at file (b ∷ bytes) (holds (omega arith))
    ∙ ap (λ (n : ℕ). take n (drop at file)) size
