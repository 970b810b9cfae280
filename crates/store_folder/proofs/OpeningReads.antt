-- What a read of a disk answers, and what a write within a file leaves. (As in journal's proofs.)
use Rattle.std.proofs.Common.{◌≡◌, ◌∙◌, ap, sym, ℕ, ◌+◌, ◌<◌, ◌≤◌, min, List, [], ◌∷◌, ◌++◌, length, take, drop, slice_index, inl, inr, arith, length-drop, get_or-drop, get_or-take}
use Rattle.std.proofs.lemmas.Bool.{cases_lt}
use Rattle.std.proofs.lemmas.List.{take-append-drop, length-take-le, take_all, drop-drop, ext_get_or}
use Rattle.sqlite_disk.specs.Disk.{Holds, Torn}
use Rattle.journal.specs.Crashes.{written}

-- ---- a read

holds_take : (at : ℕ) (file bytes : List ℕ) → Holds file at bytes
    → bytes ≡ take (length bytes) (drop at file)
holds_take at file bytes holds =
    let n = length bytes in
    let size = length-take-le n (drop at file)
    (let here = length-drop at file in let within =
    holds.within in omega (arith, here, within)) in
    ext_get_or 0 bytes (take n (drop at file)) (sym size) (λ i lt.
    sym (get_or-take n (drop at file) i 0 lt ∙ get_or-drop at file i 0 ∙ holds.each i lt))

pub read_is : (at count : ℕ) (file bytes : List ℕ) → length bytes ≡ count
    → (0 < length bytes → Holds file at bytes) → bytes ≡ take count (drop at file)
read_is at count file [] size holds = ap (λ (n : ℕ). take n (drop at file)) size
read_is at count file (b ∷ bytes) size holds =
    holds_take at file (b ∷ bytes) (holds (omega arith))
    ∙ ap (λ (n : ℕ). take n (drop at file)) size

-- the first bytes, or all
pub front_is : (most size count : ℕ) (file block : List ℕ) → size ≡ length file
    → count ≡ min size most → block ≡ take count (drop 0 file) → block ≡ take most file
front_is most size count file block is less are = are ∙ elim (cases_lt size most) [
  | inl few ↦ take_all count file (omega (arith, is, less, few))
      ∙ sym (take_all most file (omega (arith, is, few)))
  | inr more ↦ ap (λ (n : ℕ). take n file) (omega (arith, less, more))
]

-- ---- a write

module _ (at : ℕ) (n : ℕ) (old new : List ℕ) (torn : Torn at n old new)
    (within : at + n ≤ length old) where
  pub same_size : length new ≡ length old
  same_size = let low = torn.no_shorter in let high =
      torn.no_longer in omega (arith, low, high, within)

  front : take at new ≡ take at old
  front =
      let here = length-take-le at new (omega (arith, same_size, within)) in
      let there = length-take-le at old (omega (arith, within)) in
      ext_get_or 0 (take at new) (take at old) (here ∙ sym there) (λ i lt.
      let below : i < at = omega (arith, lt, here) in
      get_or-take at new i 0 below ∙ torn.below i (omega (arith, below, within)) below
      ∙ sym (get_or-take at old i 0 below))

  back : drop (at + n) new ≡ drop (at + n) old
  back =
      let here = length-drop (at + n) new in
      let there = length-drop (at + n) old in
      ext_get_or 0 (drop (at + n) new) (drop (at + n) old) (omega (arith, here, there, same_size))
      (λ i lt.
      get_or-drop (at + n) new i 0
      ∙ torn.above (at + n + i) (omega (arith, lt, here, same_size)) (omega arith)
      ∙ sym (get_or-drop (at + n) old i 0))

  length-middle : length (take n (drop at new)) ≡ n
  length-middle = length-take-le n (drop at new)
      (let here = length-drop at new in omega (arith, here, same_size, within))

  is_written : new ≡ written at (take n (drop at new)) old
  is_written =
      sym (take-append-drop at new)
      ∙ ap (λ (t : List ℕ). take at new ++ t) (sym (take-append-drop n (drop at new)))
      ∙ ap (λ (t : List ℕ). take at new ++ (take n (drop at new) ++ t)) (drop-drop n at new ∙ back)
      ∙ ap (λ (t : List ℕ). t ++ (take n (drop at new) ++ drop (at + n) old)) front
      ∙ ap (λ (k : ℕ). take at old ++ (take n (drop at new) ++ drop (at + k) old))
      (sym length-middle)

  byte_at : (i : ℕ) → i < n → slice_index (take n (drop at new)) i ≡ slice_index new (at + i)
  byte_at i lt = get_or-take n (drop at new) i 0 lt ∙ get_or-drop at new i 0

pub put_done : (at : ℕ) (bytes old new : List ℕ) → Torn at (length bytes) old new
    → (0 < length bytes → Holds new at bytes) → at + length bytes ≤ length old
    → new ≡ written at bytes old
put_done at bytes old new torn holds within =
    let n = length bytes in
    let same : take n (drop at new) ≡ bytes =
    ext_get_or 0 (take n (drop at new)) bytes (length-middle at n old new torn within) (λ i lt.
    let less : i < n = let size =
    length-middle at n old new torn within in omega (arith, lt, size) in
    byte_at at n old new torn within i less ∙ (holds (omega (arith, less))).each i less) in
    is_written at n old new torn within ∙ ap (λ (m : List ℕ). written at m old) same
