-- Two lists, seen place by place through one function.
use Rattle.std.proofs.Common.{◌≡◌, ◌∙◌, sym, ap, ℕ, ◌+◌, ◌<◌, List, map, take, length, get_or, arith}
use Rattle.std.proofs.lemmas.List.{take_more_same, get_or-map, length-map}

-- what stands at a place
there : {X Y : Type 0} (f : X → Y) (xs : List X) (i : ℕ) (x : X) (d : Y) → x ≡ get_or xs i x
    → i < length xs → get_or (map f xs) i d ≡ f x
there f xs i x d is below = get_or-map f xs i x d below ∙ ap f (sym is)

module _ {X Y : Type 0} (f : X → Y) (xs ys : List X) (i : ℕ) (x y : X) (x_is : x ≡ get_or xs i x)
    (y_is : y ≡ get_or ys i y) (below : i < length xs) (within : i < length ys) where
  -- one list has one value at a place
  pub same_at : map f xs ≡ map f ys → f x ≡ f y
  same_at e =
      sym (there f xs i x (f x) x_is below) ∙ ap (λ values. get_or values i (f x)) e
      ∙ there f ys i y (f x) y_is within

  -- lists that are the same up to a place, and there too
  pub same_more : take i (map f xs) ≡ take i (map f ys) → f x ≡ f y
      → take (i + 1) (map f xs) ≡ take (i + 1) (map f ys)
  same_more e s =
      take_more_same (map f xs) (map f ys) i (f x) (omega (arith, below, length-map xs f))
      (omega (arith, within, length-map ys f)) e
      (there f xs i x (f x) x_is below ∙ s ∙ sym (there f ys i y (f x) y_is within))
