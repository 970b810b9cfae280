-- A page that no call changes.
use Rattle.std.proofs.Common.{◌≡◌, ◌⊎◌, ◌∙◌, ap, ℕ, ◌+◌, ◌≤◌, List, ◌++◌, length, take, drop, replicate, inl, inr, arith, length-append, length-drop}
use Rattle.std.proofs.lemmas.List.{take-append-le, length-take-le}
use Rattle.journal.specs.Crashes.{Only, PutCrash, written}
use Rattle.journal.specs.Growth.{Longer}
use Rattle.store_folder.proofs.Fronts.{written_front}

module _ (page text : List ℕ) (shown : take 4096 text ≡ page) where
  -- bytes are written behind it
  pub page_written : (at place : ℕ) (bytes : List ℕ) → place ≡ 4096 + at
      → place + length bytes ≤ length text → take 4096 (written place bytes text) ≡ page
  page_written at place bytes there fits =
      written_front 4096 place bytes text (omega (arith, there)) (omega (arith, fits)) ∙ shown

  -- a crash cuts that short
  pub page_put : (at place : ℕ) (bytes : List ℕ) (old new : List ℕ → Type 0) → place ≡ 4096 + at
      → Only text old
      → ((c : List ℕ) → new c → old c)
      ⊎ ((place + length bytes ≤ length text) × PutCrash text place bytes new)
      → (c : List ℕ) → new c → take 4096 c ≡ page
  page_put at place bytes old new there only crash c left = elim crash [
    | inl fewer ↦ ap (take 4096) (only c (fewer c left)) ∙ shown
    | inr cut ↦ let out = cut.1 c left in
        let fits = cut.0 in
        ap (take 4096) out.2
        ∙ written_front 4096 place out.0 text (omega (arith, there)) (omega (arith, fits)) ∙ shown
  ]

  -- zeros are put behind the file
  pub page_grown : (new : List ℕ) → 4096 ≤ length text → Longer text new → take 4096 new ≡ page
  page_grown new room more =
      ap (take 4096) more.1 ∙ take-append-le 4096 text (replicate more.0 0) room ∙ shown

  -- all of it is on the disk
  pub page_only : (outcomes : List ℕ → Type 0) → Only text outcomes → (c : List ℕ) → outcomes c
      → take 4096 c ≡ page
  page_only outcomes only c left = ap (take 4096) (only c left) ∙ shown

-- how long a file is in which bytes were written
pub length-written : (at : ℕ) (bytes text : List ℕ) → at + length bytes ≤ length text
    → length (written at bytes text) ≡ length text
length-written at bytes text fits =
    let all = length-append (take at text) (bytes ++ drop (at + length bytes) text) in
    let some = length-append bytes (drop (at + length bytes) text) in
    let front = length-take-le at text (omega (arith, fits)) in
    let back = length-drop (at + length bytes) text in
    omega (arith, all, some, front, back, fits)

-- and in one that grew
pub length-grown : (text new : List ℕ) → Longer text new → length text ≤ length new
length-grown text new more =
    let size = ap length more.1 in
    let both = length-append text (replicate more.0 0) in
    omega (arith, size, both)
