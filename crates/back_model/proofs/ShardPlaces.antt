-- Shards at the place of a snapshotter.
use Rattle.std.proofs.Common.{◌≡◌, ◌<◌, ◌≤◌, ℕ, suc, zero, List, [], ◌∷◌, map, length, get_or, refl, sym, ◌∙◌, ap, subst, arith}
use Rattle.std.specs.Prelude.{Some, None, Ok, Err, slice_set}
use Rattle.std.specs.List.{insert, AllByRecursion}
use Rattle.std.specs.List.Sorted.{IsStrictlySortedBy}
use Rattle.std.specs.declared.cmp.Ordering.{Ordering}
use Rattle.std.specs.declared.cmp.Ordering.TheVariants.{Less, Equal, Greater}
use Rattle.std.specs.Ordering.{match_ordering}
use Rattle.std.specs.Cmp.Lexicographic.{nat_list_cmp_total}
use Rattle.std.specs.FinMap.{slice_cmp-IsAntisymmetric, nat_cmp-IsAntisymmetric}
use Rattle.std.proofs.lemmas.Map.Keys.{sorted_head, sorted_tail}
use Rattle.std.proofs.lemmas.Cmp.{tied_itself}
use Rattle.std.specs.Ordering.{ordering_reverse}
use Rattle.meta_types.specs.Text.{Text, text_cmp}
use Rattle.back_model.specs.Shown.{Shard, AreApart, shard_at, put_shard, AreLesser, IsPlace}

module _ {X : Type 0} (f : X → Shard) where
  abbrev name_in : X → Text
  name_in x = (f x).snapshotter

  lesser_rest : (name : Text) (y : X) (ys : List X) (i : ℕ) → AreLesser name_in name (y ∷ ys) (suc i) → AreLesser name_in name ys i
  lesser_rest name y ys i h k d below = h (suc k) d (omega arith)

  module _ (x : X) where
    -- the item at the place is replaced
    pub set_there : (xs : List X) (i : ℕ) → AreLesser name_in (name_in x) xs i → i < length xs → ((d : X) → text_cmp (name_in x) (name_in (get_or xs i d)) ≡ Equal)
        → map f (slice_set xs i x) ≡ put_shard (f x) (map f xs)
    set_there [] i h inside at = absurd (omega arith)
    set_there (y ∷ ys) zero h inside at = rw (at x) refl
    set_there (y ∷ ys) (suc i) h inside at = rw (h 0 x (omega arith)) (ap (λ l. f y ∷ l) (set_there ys i (lesser_rest (name_in x) y ys i h) (omega arith) at))

    -- an item is put at the place
    pub put_there : (xs : List X) (i : ℕ) → AreLesser name_in (name_in x) xs i → i ≤ length xs → ((d : X) → i < length xs → text_cmp (name_in x) (name_in (get_or xs i d)) ≡ Less)
        → map f (insert xs i x) ≡ put_shard (f x) (map f xs)
    put_there [] zero h inside at = refl
    put_there [] (suc i) h inside at = absurd (omega arith)
    put_there (y ∷ ys) zero h inside at = rw (at x (omega arith)) refl
    put_there (y ∷ ys) (suc i) h inside at = rw (h 0 x (omega arith)) (ap (λ l. f y ∷ l) (put_there ys i (lesser_rest (name_in x) y ys i h) (omega arith) (λ d k. at d (omega arith))))

  -- the item at the place is the shard that is found
  pub found_there : (name : Text) (xs : List X) (i : ℕ) (d : X) → AreLesser name_in name xs i → i < length xs → ((e : X) → text_cmp name (name_in (get_or xs i e)) ≡ Equal)
      → shard_at name (map f xs) ≡ Some (f (get_or xs i d))
  found_there name [] i d h inside at = absurd (omega arith)
  found_there name (y ∷ ys) zero d h inside at = rw (at d) refl
  found_there name (y ∷ ys) (suc i) d h inside at = rw (h 0 d (omega arith)) (found_there name ys i d (lesser_rest name y ys i h) (omega arith) at)

  names : List X → List Text
  names xs = map (λ s. s.snapshotter) (map f xs)

-- no shard of a list is found where each stands behind the name
none_behind : (name : Text) (shards : List Shard) → AllByRecursion (λ y. text_cmp name y ≡ Less) (map (λ s. s.snapshotter) shards) → shard_at name shards ≡ None
none_behind name [] h = refl
none_behind name (s ∷ shards) h = rw h.0 (none_behind name shards h.1)

all_behind : (name other : Text) → text_cmp name other ≡ Less → (ts : List Text) → AllByRecursion (λ y. text_cmp other y ≡ Less) ts → AllByRecursion (λ y. text_cmp name y ≡ Less) ts
all_behind name other less [] h = h
all_behind name other less (t ∷ ts) h = (nat_list_cmp_total.trans name other t less h.0, all_behind name other less ts h.1)

-- a name before the first shard's snapshotter is before that of each shard
pub behind : (name : Text) (s : Shard) (shards : List Shard) → text_cmp name s.snapshotter ≡ Less → AreApart (s ∷ shards) → AllByRecursion (λ y. text_cmp name y ≡ Less) (map (λ x. x.snapshotter) (s ∷ shards))
behind name s shards less apart = (less, all_behind name s.snapshotter less (map (λ x. x.snapshotter) shards) (sorted_head text_cmp s.snapshotter (map (λ x. x.snapshotter) shards) apart))

-- no shard has a name that is before the first shard's snapshotter
pub none_at : (name : Text) (s : Shard) (shards : List Shard) → text_cmp name s.snapshotter ≡ Less → AreApart (s ∷ shards) → shard_at name (s ∷ shards) ≡ None
none_at name s shards less apart = none_behind name (s ∷ shards) (behind name s shards less apart)

-- the first shard's snapshotter is before those of the other shards
pub apart_head : (s : Shard) (shards : List Shard) → AreApart (s ∷ shards) → AllByRecursion (λ y. text_cmp s.snapshotter y ≡ Less) (map (λ x. x.snapshotter) shards)
apart_head s shards = sorted_head text_cmp s.snapshotter (map (λ x. x.snapshotter) shards)

-- shards in order, each snapshotter once, are so without the first shard
pub apart_rest : (s : Shard) (shards : List Shard) → AreApart (s ∷ shards) → AreApart shards
apart_rest s shards = sorted_tail text_cmp s.snapshotter (map (λ x. x.snapshotter) shards)

module _ {X : Type 0} (f : X → Shard) where
  -- no shard is found where none stands at its place
  pub none_there : (name : Text) (xs : List X) (i : ℕ) → AreLesser (name_in f) name xs i → i ≤ length xs → ((e : X) → i < length xs → text_cmp name (name_in f (get_or xs i e)) ≡ Less) → AreApart (map f xs)
      → shard_at name (map f xs) ≡ None
  none_there name [] i h inside at apart = refl
  none_there name (y ∷ ys) zero h inside at apart = none_at name (f y) (map f ys) (at y (omega arith)) apart
  none_there name (y ∷ ys) (suc i) h inside at apart =
      rw (h 0 y (omega arith)) (none_there name ys i (lesser_rest f name y ys i h) (omega arith) (λ e k. at e (omega arith)) (apart_rest (f y) (map f ys) apart))

-- texts that compare as equal are equal
pub same_name : (a b : Text) → text_cmp a b ≡ Equal → a ≡ b
same_name a b = slice_cmp-IsAntisymmetric nat_cmp-IsAntisymmetric a b

module _ (x : Shard) where
  all_put : (name : Text) → text_cmp name x.snapshotter ≡ Less → (shards : List Shard) → AllByRecursion (λ y. text_cmp name y ≡ Less) (map (λ s. s.snapshotter) shards)
      → AllByRecursion (λ y. text_cmp name y ≡ Less) (map (λ s. s.snapshotter) (put_shard x shards))
  all_put name less [] h = (less, tt)
  all_put name less (s ∷ shards) h = go (text_cmp x.snapshotter s.snapshotter) (all_put name less shards h.1)
    where
      go : (r : Ordering) → AllByRecursion (λ y. text_cmp name y ≡ Less) (map (λ s. s.snapshotter) (put_shard x shards))
          → AllByRecursion (λ y. text_cmp name y ≡ Less) (map (λ s. s.snapshotter) (match_ordering r (x ∷ s ∷ shards) (x ∷ shards) (s ∷ put_shard x shards)))
      go Less rest = (less, h)
      go Equal rest = (less, h.1)
      go Greater rest = (h.0, rest)

-- no shard, each apart
pub none_apart : AreApart []
unfolding IsStrictlySortedBy
none_apart = tt

-- names in order, each once, are so with one more in front that is before each of them
pub apart_first : (name : Text) (ts : List Text) → AllByRecursion (λ y. text_cmp name y ≡ Less) ts → IsStrictlySortedBy text_cmp ts → IsStrictlySortedBy text_cmp (name ∷ ts)
unfolding IsStrictlySortedBy
apart_first name ts h sorted = (h, sorted)

module _ (x : Shard) where
  -- shards stay apart
  pub apart_put : (shards : List Shard) → AreApart shards → AreApart (put_shard x shards)
  apart_put [] h = apart_first x.snapshotter [] tt none_apart
  apart_put (s ∷ shards) h = go (text_cmp x.snapshotter s.snapshotter) refl (apart_put shards (apart_rest s shards h))
    where
      go : (r : Ordering) → text_cmp x.snapshotter s.snapshotter ≡ r → AreApart (put_shard x shards) → AreApart (match_ordering r (x ∷ s ∷ shards) (x ∷ shards) (s ∷ put_shard x shards))
      go Less is rest = apart_first x.snapshotter (map (λ x. x.snapshotter) (s ∷ shards)) (behind x.snapshotter s shards is h) h
      go Equal is rest =
          apart_first x.snapshotter (map (λ x. x.snapshotter) shards)
          (subst (λ name. AllByRecursion (λ y. text_cmp name y ≡ Less) (map (λ x. x.snapshotter) shards)) (sym (same_name x.snapshotter s.snapshotter is)) (sorted_head text_cmp s.snapshotter (map (λ x. x.snapshotter) shards) h))
          (apart_rest s shards h)
      go Greater is rest =
          let less : text_cmp s.snapshotter x.snapshotter ≡ Less = nat_list_cmp_total.antisymm s.snapshotter x.snapshotter ∙ ap ordering_reverse is in
          apart_first s.snapshotter (map (λ x. x.snapshotter) (put_shard x shards)) (all_put x s.snapshotter less shards (sorted_head text_cmp s.snapshotter (map (λ x. x.snapshotter) shards) h)) rest

  -- the shard that was put is found
  pub at_put : (shards : List Shard) → shard_at x.snapshotter (put_shard x shards) ≡ Some x
  at_put [] = rw (tied_itself nat_list_cmp_total x.snapshotter) refl
  at_put (s ∷ shards) = go (text_cmp x.snapshotter s.snapshotter) refl (at_put shards)
    where
      go : (r : Ordering) → text_cmp x.snapshotter s.snapshotter ≡ r → shard_at x.snapshotter (put_shard x shards) ≡ Some x
          → shard_at x.snapshotter (match_ordering r (x ∷ s ∷ shards) (x ∷ shards) (s ∷ put_shard x shards)) ≡ Some x
      go Less is rest = rw (tied_itself nat_list_cmp_total x.snapshotter) refl
      go Equal is rest = rw (tied_itself nat_list_cmp_total x.snapshotter) refl
      go Greater is rest = rw is rest

  tied : (y : Shard) → y.snapshotter ≡ x.snapshotter → text_cmp y.snapshotter x.snapshotter ≡ Equal
  tied y same = ap (λ t. text_cmp t x.snapshotter) same ∙ tied_itself nat_list_cmp_total x.snapshotter

  -- a shard that is put twice stands as it was put last
  pub put_put : (y : Shard) → y.snapshotter ≡ x.snapshotter → (shards : List Shard) → put_shard y (put_shard x shards) ≡ put_shard y shards
  put_put y same [] = rw (tied y same) refl
  put_put y same (s ∷ shards) = go (text_cmp x.snapshotter s.snapshotter) refl (put_put y same shards)
    where
      go : (r : Ordering) → text_cmp x.snapshotter s.snapshotter ≡ r → put_shard y (put_shard x shards) ≡ put_shard y shards
          → put_shard y (match_ordering r (x ∷ s ∷ shards) (x ∷ shards) (s ∷ put_shard x shards)) ≡ match_ordering (text_cmp y.snapshotter s.snapshotter) (y ∷ s ∷ shards) (y ∷ shards) (s ∷ put_shard y shards)
      go Less is rest = let first : text_cmp y.snapshotter s.snapshotter ≡ Less = ap (λ t. text_cmp t s.snapshotter) same ∙ is in rw (tied y same, first) refl
      go Equal is rest = let first : text_cmp y.snapshotter s.snapshotter ≡ Equal = ap (λ t. text_cmp t s.snapshotter) same ∙ is in rw (tied y same, first) refl
      go Greater is rest = let first : text_cmp y.snapshotter s.snapshotter ≡ Greater = ap (λ t. text_cmp t s.snapshotter) same ∙ is in rw first (ap (λ l. s ∷ l) rest)

module _ {X : Type 0} (f : X → Shard) (name : Text) where
  -- the shard at the place is replaced
  pub set_at : (x : X) (y : Shard) (xs : List X) (i : ℕ) → f x ≡ y → name_in f x ≡ name → IsPlace (name_in f) name xs (Ok i) → map f (slice_set xs i x) ≡ put_shard y (map f xs)
  set_at x y xs i is same p =
      set_there f x xs i (subst (λ n. AreLesser (name_in f) n xs i) (sym same) p.2) p.0 (λ d. ap (λ n. text_cmp n (name_in f (get_or xs i d))) same ∙ p.1 d) ∙ ap (λ s. put_shard s (map f xs)) is

  -- a shard is put at the place
  pub put_at : (x : X) (xs : List X) (i : ℕ) → name_in f x ≡ name → IsPlace (name_in f) name xs (Err i) → map f (insert xs i x) ≡ put_shard (f x) (map f xs)
  put_at x xs i same p =
      put_there f x xs i (subst (λ n. AreLesser (name_in f) n xs i) (sym same) p.2) p.0 (λ d k. ap (λ n. text_cmp n (name_in f (get_or xs i d))) same ∙ p.1 d k)

  -- the shard at the place is found, and has the name
  pub found_at : (xs : List X) (i : ℕ) (d : X) → IsPlace (name_in f) name xs (Ok i) → (shard_at name (map f xs) ≡ Some (f (get_or xs i d))) × (name_in f (get_or xs i d) ≡ name)
  found_at xs i d p = (found_there f name xs i d p.2 p.0 p.1, sym (same_name name (name_in f (get_or xs i d)) (p.1 d)))

  -- no shard of the name is found
  pub none_at_all : (xs : List X) (i : ℕ) → IsPlace (name_in f) name xs (Err i) → AreApart (map f xs) → shard_at name (map f xs) ≡ None
  none_at_all xs i p apart = none_there f name xs i p.2 p.0 p.1 apart
