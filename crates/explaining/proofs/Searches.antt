-- What a search of a list finds.
use Rattle.std.proofs.Common.{◌≡◌, ℕ, zero, suc, ◌+◌, ◌<◌, ◌≤◌, Bool, true, false, List, [], ◌∷◌, map, length, get_or, take, refl, sym, ap, ◌∙◌, arith, Some, None}
use Rattle.std.specs.Prelude.{if◌then◌else◌}
use Rattle.std.specs.List.{find}

-- ---- searches that have come to a place

module _ {X Y : Type 0} (p : Y → Bool) (f : X → Y) where
  -- what fits there is the first, where nothing before it does
  pub find_at : (xs : List X) (i : ℕ) (x : X) → find p (map f (take i xs)) ≡ None → i < length xs → x ≡ get_or xs i x → p (f x) ≡ true → find p (map f xs) ≡ Some (f x)
  find_at [] i x none lt is e = absurd (omega (arith, lt))
  find_at (y ∷ xs) zero x none lt is e = ap (λ z. if p (f z) then Some (f z) else find p (map f xs)) (sym is) ∙ ap (λ b. if b then Some (f x) else find p (map f xs)) e
  find_at (y ∷ xs) (suc i) x none lt is e = go (p (f y)) (λ h. find_at xs i x h (omega (arith, lt)) is e) none
    where
      go : (b : Bool) → (find p (map f (take i xs)) ≡ None → find p (map f xs) ≡ Some (f x)) → (if b then Some (f y) else find p (map f (take i xs))) ≡ None → (if b then Some (f y) else find p (map f xs)) ≡ Some (f x)
      go true rec h = absurd cc
      go false rec h = rec h

  -- what doesn't fit changes nothing
  past : (xs : List X) (i k : ℕ) (x : X) → k ≡ i + 1 → find p (map f (take i xs)) ≡ None → i < length xs → x ≡ get_or xs i x → p (f x) ≡ false → find p (map f (take k xs)) ≡ None
  past [] i k x up none lt is e = absurd (omega (arith, lt))
  past (y ∷ xs) i zero x up none lt is e = absurd (omega (arith, up))
  past (y ∷ xs) zero (suc k) x up none lt is e = let none_more : k ≡ 0 = omega (arith, up) in
      ap (λ j. if p (f y) then Some (f y) else find p (map f (take j xs))) none_more
      ∙ ap (λ z. if p (f z) then Some (f z) else None) (sym is) ∙ ap (λ b. if b then Some (f x) else None) e
  past (y ∷ xs) (suc i) (suc k) x up none lt is e = go (p (f y)) (λ h. past xs i k x (omega (arith, up)) h (omega (arith, lt)) is e) none
    where
      go : (b : Bool) → (find p (map f (take i xs)) ≡ None → find p (map f (take k xs)) ≡ None) → (if b then Some (f y) else find p (map f (take i xs))) ≡ None → (if b then Some (f y) else find p (map f (take k xs))) ≡ None
      go true rec h = absurd cc
      go false rec h = rec h

  pub find_past : (xs : List X) (i : ℕ) (x : X) → find p (map f (take i xs)) ≡ None → i < length xs → x ≡ get_or xs i x → p (f x) ≡ false → find p (map f (take (i + 1) xs)) ≡ None
  find_past xs i x = past xs i (i + 1) x refl

  -- at the end nothing fits
  pub find_end : (xs : List X) (i : ℕ) → find p (map f (take i xs)) ≡ None → length xs ≤ i → find p (map f xs) ≡ None
  find_end [] i none le = refl
  find_end (y ∷ xs) zero none le = absurd (omega (arith, le))
  find_end (y ∷ xs) (suc i) none le = go (p (f y)) (λ h. find_end xs i h (omega (arith, le))) none
    where
      go : (b : Bool) → (find p (map f (take i xs)) ≡ None → find p (map f xs) ≡ None) → (if b then Some (f y) else find p (map f (take i xs))) ≡ None → (if b then Some (f y) else find p (map f xs)) ≡ None
      go true rec h = absurd cc
      go false rec h = rec h
