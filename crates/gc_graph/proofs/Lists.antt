-- Members of the lists that a graph is made of.
use Rattle.std.proofs.Common.{◌≡◌, ℕ, zero, suc, ◌+◌, ◌<◌, Bool, true, false, List, [], ◌∷◌, length, get_or, refl, sym, ap, ◌∙◌, arith, subst, inl, inr, ℤ, Option, Some, None, if◌then◌else◌}
use Rattle.std.specs.Prelude.{Contains}
use Rattle.std.specs.List.{flat_map, filter_map, cons_option}
use Rattle.std.proofs.lemmas.List.Elements.{Contains-append_left, Contains-append_right, Contains-append_cases}
use Rattle.meta_types.specs.Paths.{Thing, is_root}
use Rattle.meta_types.proofs.Members.{here, later, first_or_later, none_in_nothing}
use Rattle.gc_graph.specs.Built.{root_places}

-- ---- lists

module _ {X Y : Type 0} (h : X → Option Y) where
  pub in_filter_map : (xs : List X) (x : X) (y : Y) → Contains xs x → h x ≡ Some y → Contains (filter_map h xs) y
  in_filter_map [] x y c e = none_in_nothing x c
  in_filter_map (z ∷ zs) x y c e = elim (first_or_later z zs x c) [
    | inl same ↦ (let s : h z ≡ Some y = ap h same ∙ e in rw s (here y (filter_map h zs)))
    | inr more ↦ skip (h z) (in_filter_map zs x y more e)
  ]
    where
      skip : (o : Option Y) → Contains (filter_map h zs) y → Contains (cons_option o (filter_map h zs)) y
      skip None c = c
      skip (Some w) c = later w (filter_map h zs) y c

  pub from_filter_map : (xs : List X) (y : Y) → Contains (filter_map h xs) y → (x : X) × Contains xs x × (h x ≡ Some y)
  from_filter_map [] y c = none_in_nothing y c
  from_filter_map (z ∷ zs) y c = go (h z) refl c (λ d. from_filter_map zs y d)
    where
      go : (o : Option Y) → h z ≡ o → Contains (cons_option o (filter_map h zs)) y → (Contains (filter_map h zs) y → (x : X) × Contains zs x × (h x ≡ Some y)) → (x : X) × Contains (z ∷ zs) x × (h x ≡ Some y)
      go None e c rest = let found = rest c in (found.0, later z zs found.0 found.1, found.2)
      go (Some w) e c rest = elim (first_or_later w (filter_map h zs) y c) [
        | inl same ↦ (z, here z zs, e ∙ ap Some same)
        | inr more ↦ (let found = rest more in (found.0, later z zs found.0 found.1, found.2))
      ]

-- what is made of an item of a list is in the joined list of what is made of all
pub in_flat_map : {X Y : Type 0} (f : X → List Y) (xs : List X) (x : X) (y : Y) → Contains xs x → Contains (f x) y → Contains (flat_map f xs) y
in_flat_map f [] x y c d = none_in_nothing x c
in_flat_map f (z ∷ zs) x y c d = elim (first_or_later z zs x c) [
  | inl same ↦ Contains-append_left (f z) (flat_map f zs) y (subst (λ w. Contains (f w) y) (sym same) d)
  | inr more ↦ Contains-append_right (f z) (flat_map f zs) y (in_flat_map f zs x y more d)
]

-- what is in the joined list is made of some item
pub from_flat_map : {X Y : Type 0} (f : X → List Y) (xs : List X) (y : Y) → Contains (flat_map f xs) y → (x : X) × Contains xs x × Contains (f x) y
from_flat_map f [] y c = none_in_nothing y c
from_flat_map f (z ∷ zs) y c = elim (Contains-append_cases (f z) (flat_map f zs) y c) [
  | inl first ↦ (z, here z zs, first)
  | inr more ↦ (let found = from_flat_map f zs y more in (found.0, later z zs found.0 found.1, found.2))
]

-- ---- roots by their places

-- a root's number is among the places of roots, counted from n
pub in_places : (profile : ℕ) (at : ℤ) (n : ℕ) (ts : List Thing) (i : ℕ) (d : Thing) → i < length ts → is_root profile at (get_or ts i d) ≡ true → Contains (root_places profile at n ts) (n + i)
in_places profile at n [] i d lt h = absurd (omega arith)
in_places profile at n (t ∷ ts) zero d lt h = rw h (subst (λ k. Contains (n ∷ root_places profile at (suc n) ts) k) (omega arith) (here n (root_places profile at (suc n) ts)))
in_places profile at n (t ∷ ts) (suc i) d lt h = go (is_root profile at t) (subst (λ k. Contains (root_places profile at (suc n) ts) k) (omega arith) (in_places profile at (suc n) ts i d (omega arith) h))
  where
    go : (b : Bool) → Contains (root_places profile at (suc n) ts) (n + suc i) → Contains (if b then n ∷ root_places profile at (suc n) ts else root_places profile at (suc n) ts) (n + suc i)
    go true c = later n (root_places profile at (suc n) ts) (n + suc i) c
    go false c = c

-- the number, counted from n, is that of a root of the list
abbrev pub IsPlace : ℕ → ℤ → ℕ → List Thing → ℕ → Type 0
IsPlace profile at n ts k = (i : ℕ) × (i < length ts) × (k ≡ n + i) × ((d : Thing) → is_root profile at (get_or ts i d) ≡ true)

-- each of the places of roots, counted from n, is the number of a root
pub from_places : (profile : ℕ) (at : ℤ) (n : ℕ) (ts : List Thing) (k : ℕ) → Contains (root_places profile at n ts) k → IsPlace profile at n ts k
from_places profile at n [] k c = none_in_nothing k c
from_places profile at n (t ∷ ts) k c = go (is_root profile at t) refl c (λ d. from_places profile at (suc n) ts k d)
  where
    further : IsPlace profile at (suc n) ts k → IsPlace profile at n (t ∷ ts) k
    further found = (suc found.0, omega (arith, found.1), omega (arith, found.2), found.3)

    go : (b : Bool) → is_root profile at t ≡ b → Contains (if b then n ∷ root_places profile at (suc n) ts else root_places profile at (suc n) ts) k → (Contains (root_places profile at (suc n) ts) k → IsPlace profile at (suc n) ts k) → IsPlace profile at n (t ∷ ts) k
    go true e c rest = elim (first_or_later n (root_places profile at (suc n) ts) k c) [
      | inl same ↦ (0, omega arith, omega (arith, same), λ d. e)
      | inr more ↦ further (rest more)
    ]
    go false e c rest = further (rest c)
