-- The first of several by an order.
use Rattle.std.proofs.Common.{◌≡◌, ℕ, suc, ◌<◌, Bool, true, false, List, [], ◌∷◌, refl, sym, ap, ◌∙◌, inl, inr, ◌⊎◌, arith, Option, Some, None, fold}
use Rattle.std.specs.Prelude.{Contains, if◌then◌else◌}
use mathlib.Core.Logic.{dite}
use native.Mathlib.Decide.{ℕ_discrete}
use Rattle.std.proofs.lemmas.Bool.{both_ways, false_from_ne_true}
use Rattle.meta_types.proofs.Members.{first_or_later, none_in_nothing}
use Rattle.explaining.specs.Firsts.{chosen}

module _ {X : Type 0} (before : X → X → Bool) (itself : (x : X) → before x x ≡ false) (onward : (x y z : X) → before x y ≡ true → before y z ≡ true → before x z ≡ true) (fits : X → Bool) where
  -- of those that were seen and fit it is the first; or none fits
  abbrev pub IsBest : (X → Type 0) → Option X → Type 0
  IsBest seen None = (x : X) → seen x → fits x ≡ false
  IsBest seen (Some best) = seen best × (fits best ≡ true) × ((x : X) → seen x → fits x ≡ true → before x best ≡ false)

  pub same_best : (seen more : X → Type 0) → ((x : X) → seen x → more x) → ((x : X) → more x → seen x) → (o : Option X) → IsBest seen o → IsBest more o
  same_best seen more up down None h = λ x m. h x (down x m)
  same_best seen more up down (Some best) h = (up best h.0, h.1, λ x m f. h.2 x (down x m) f)

  module _ (seen more : X → Type 0) (y : X) (up : (x : X) → seen x → more x) (there : more y) (only : (x : X) → more x → seen x ⊎ (x ≡ y)) where
    pub one_more : (o : Option X) → IsBest seen o → (b : Bool) → fits y ≡ b → IsBest more (chosen before b y o)
    one_more None h false e = λ x m. elim (only x m) [
      | inl old ↦ h x old
      | inr new ↦ ap fits new ∙ e
    ]
    one_more None h true e = (
      there,
      e,
      λ x m f. elim (only x m) [
        | inl old ↦ absurd (both_ways (fits x) (h x old) f)
        | inr new ↦ ap (λ z. before z y) new ∙ itself y
      ],
    )
    one_more (Some best) h false e = (
      up best h.0,
      h.1,
      λ x m f. elim (only x m) [
        | inl old ↦ h.2 x old f
        | inr new ↦ absurd (both_ways (fits y) e (sym (ap fits new) ∙ f))
      ],
    )
    one_more (Some best) h true e = go (before y best) refl
      where
        go : (c : Bool) → before y best ≡ c → IsBest more (if c then Some y else Some best)
        go true k = (
          there,
          e,
          λ x m f. elim (only x m) [
            | inl old ↦ false_from_ne_true (before x y) (λ t. both_ways (before x best) (h.2 x old f) (onward x y best t k))
            | inr new ↦ ap (λ z. before z y) new ∙ itself y
          ],
        )
        go false k = (
          up best h.0,
          h.1,
          λ x m f. elim (only x m) [
            | inl old ↦ h.2 x old f
            | inr new ↦ ap (λ z. before z best) new ∙ k
          ],
        )

  -- along a list
  pub best_of : (xs : List X) (seen : X → Type 0) (o : Option X) → IsBest seen o → IsBest (λ x. seen x ⊎ Contains xs x) (fold (λ so_far x. chosen before (fits x) x so_far) o xs)
  best_of [] seen o h = same_best seen (λ x. seen x ⊎ Contains [] x) (λ x s. inl s) (λ x m. elim m [
    | inl s ↦ s
    | inr c ↦ absurd (none_in_nothing x c)
  ]) o h
  best_of (y ∷ ys) seen o h =
      same_best (λ x. (seen x ⊎ (x ≡ y)) ⊎ Contains ys x) (λ x. seen x ⊎ Contains (y ∷ ys) x)
      (λ x m. elim m [
        | inl here ↦ elim here [
          | inl s ↦ inl s
          | inr new ↦ inr (0, omega arith, sym new)
        ]
        | inr later ↦ inr (suc later.0, (let lt = later.1 in omega arith), later.2)
      ])
      (λ x m. elim m [
        | inl s ↦ inl (inl s)
        | inr c ↦ elim (first_or_later y ys x c) [
          | inl here ↦ inl (inr (sym here))
          | inr later ↦ inr later
        ]
      ])
      (fold (λ so_far x. chosen before (fits x) x so_far) (chosen before (fits y) y o) ys)
      (best_of ys (λ x. seen x ⊎ (x ≡ y)) (chosen before (fits y) y o)
      (one_more seen (λ x. seen x ⊎ (x ≡ y)) y (λ x s. inl s) (inr refl) (λ x m. m) o h (fits y) refl))

-- a number below the next is one below, or this
pub below_or_this : (x n : ℕ) → x < suc n → (x < n) ⊎ (x ≡ n)
below_or_this x n lt = dite (ℕ_discrete x n) (λ (same : x ≡ n). inr same) (λ (other : x ≡ n → ⊥). inl (omega arith))
