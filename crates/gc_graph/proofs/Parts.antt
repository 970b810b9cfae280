-- What is made of the parts of a list, joined, is what is made of the list.
use Rattle.std.proofs.Common.{◌≡◌, ℕ, ◌<◌, ◌≤◌, zero, suc, max, List, [], ◌∷◌, ◌++◌, map, length, take, drop, refl, sym, ap, ◌∙◌, arith, Vec}
use Rattle.std.specs.Prelude.{Result, Ok, Err, IfOk}
use Rattle.std.specs.List.{flat_map}
use Rattle.std.proofs.lemmas.List.{length-drop, map-append, take-append-drop}
use Rattle.rayon.specs.Lists.{chunks_from, chunks_of}

joined_map : {X Y : Type 0} (items : X → List Y) (xs : List X)
    → flat_map items xs ≡ flat_map (λ l. l) (map items xs)
joined_map items [] = refl
joined_map items (x ∷ xs) = ap (λ l. items x ++ l) (joined_map items xs)

module _ {X Y : Type 0} (f : X → Y) (size : ℕ) (some : 0 < size) where
  joined_from : (n : ℕ) (xs : List X) → length xs ≤ n
      → flat_map (λ part. part) (map (map f) (chunks_from n size xs)) ≡ map f xs
  joined_from zero [] fits = refl
  joined_from zero (x ∷ xs) fits = absurd (omega (arith, fits))
  joined_from (suc n) [] fits = refl
  joined_from (suc n) (x ∷ xs) fits =
      let l = x ∷ xs in
      let short = length-drop size l in
      let less : length (drop size l) ≤ n = omega (arith, short, fits, some) in
      ap (λ rest. map f (take size l) ++ rest) (joined_from n (drop size l) less)
      ∙ sym (map-append f (take size l) (drop size l))
      ∙ ap (map f) (take-append-drop size l)

  pub joined_parts : {E A V : Type 0} (items : V → List Y) (r : Result (Vec V A) E) (xs : List X)
      → IfOk r (λ c. map items c.items ≡ map (map f) (chunks_of size xs))
      → IfOk r (λ c. flat_map items c.items ≡ map f xs)
  joined_parts items (Ok c) xs made =
      joined_map items c.items ∙ ap (flat_map (λ part. part)) made
      ∙ joined_from (length xs) xs (omega arith)
  joined_parts items (Err e) xs made = tt

pub of_full : {V E : Type 0} (P Q : V → Type 0) (r : Result V E)
    → IfOk r (λ v. P v × Q v) → IfOk r P
of_full P Q (Ok v) h = h.0
of_full P Q (Err e) h = tt

pub of_flat : {V E : Type 0} (P Q : V → Type 0) (r : Result V E)
    → IfOk r (λ v. P v × Q v) → IfOk r Q
of_flat P Q (Ok v) h = h.1
of_flat P Q (Err e) h = tt
