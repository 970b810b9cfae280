-- Depths by places are numbers of ancestors.
use Rattle.std.proofs.Common.{◌≡◌, ℕ, zero, suc, ◌+◌, ◌-◌, ◌<◌, min, List, [], ◌∷◌, ◌++◌, map, length, refl, sym, ap, ◌∙◌, arith, Option, Some, None, slice_get, option_map}
use Rattle.std.specs.Prelude.{option_and_then, find, position}
use Rattle.std.specs.Option.{option_map_or}
use Rattle.std.specs.List.{range_with_len}
use Rattle.std.proofs.lemmas.List.FromFn.{map-range_with_len_more}
use Rattle.std.proofs.lemmas.Option.{slice_get-map}
use Rattle.table_sweep.specs.Depths.{Listed, parent_in, depth_in}
use Rattle.table_sweep.specs.SnapshotPlaces.{parent_from, parent_place, deep, depths_to, has_name, name_of}
use Rattle.table_sweep.proofs.FirstPlace.{AreTied, tied}

-- ---- one step more

deeper : (parents : List (Option ℕ)) (at next rest : ℕ) → parent_from parents at ≡ Some next
    → deep (suc rest) parents at ≡ suc (deep rest parents next)
deeper parents at next rest e = ap (λ o. option_map_or (λ above. suc
    (deep rest parents above)) o zero) e

no_deeper : (parents : List (Option ℕ)) (at rest : ℕ) → parent_from parents at ≡ None
    → deep rest parents at ≡ zero
no_deeper parents at zero e = refl
no_deeper parents at (suc rest) e = ap (λ o. option_map_or (λ above. suc
    (deep rest parents above)) o zero) e

plus_next : (d x : ℕ) → d + 1 + x ≡ d + suc x
plus_next d x = omega arith

pub deeper_step : (parents : List (Option ℕ)) (at next depth rest all : ℕ) → parent_from parents at
    ≡ Some next → depth + deep (rest + 1) parents at ≡ all → depth + 1 + deep rest parents next
    ≡ all
deeper_step parents at next depth rest all e h =
    let one_more : rest + 1 ≡ suc rest = omega arith in
    plus_next depth (deep rest parents next) ∙ ap (λ n. depth + n) (sym (ap
    (λ n. deep n parents at) one_more ∙ deeper parents at next rest e)) ∙ h

pub no_deeper_step : (parents : List (Option ℕ)) (at depth rest all : ℕ) → parent_from parents at
    ≡ None → depth + deep rest parents at ≡ all → depth ≡ all
no_deeper_step parents at depth rest all e h =
    let nothing_more : depth ≡ depth + 0 = omega arith in
    nothing_more ∙ ap (λ n. depth + n) (sym (no_deeper parents at rest e)) ∙ h

-- ---- fewer steps

min_next : (a b : ℕ) → suc (min a b) ≡ min (suc a) (suc b)
min_next a b = omega arith

min_zero : (a : ℕ) → zero ≡ min a zero
min_zero a = omega arith

-- with fewer steps a depth is cut off
pub cut_off : (parents : List (Option ℕ)) (rest more at : ℕ) → deep rest parents at
    ≡ min rest (deep (rest + more) parents at)
cut_off parents zero more at = omega arith
cut_off parents (suc rest) more at = let n : suc rest + more
    ≡ suc (rest + more) = omega arith in go (parent_from parents at)
    (λ next. cut_off parents rest more next) ∙ ap (λ k. min (suc rest) (deep k parents at)) (sym n)
  where
    go : (o : Option ℕ) → ((next : ℕ) → deep rest parents next
        ≡ min rest (deep (rest + more) parents next))
        → option_map_or (λ above. suc (deep rest parents above)) o zero
        ≡ min (suc rest) (option_map_or (λ above. suc (deep (rest + more) parents above)) o zero)
    go None h = min_zero (suc rest)
    go (Some next) h = ap suc (h next) ∙ min_next rest (deep (rest + more) parents next)

range_is : (a n i x : ℕ) → slice_get (range_with_len a n) i ≡ Some x → x ≡ a + i
range_is a zero i x e = absurd cc
range_is a (suc n) zero x e = omega (arith, some_is e)
  where
    some_is : Some a ≡ Some x → a ≡ x
    some_is e = cc
range_is a (suc n) (suc i) x e = omega (arith, range_is (a + 1) n i x e)

known_is : (f : ℕ → ℕ) (o : Option ℕ) (at known : ℕ) → ((x : ℕ) → o ≡ Some x → x ≡ at) → option_map f o ≡ Some known → known ≡ f at
known_is f None at known h e = absurd cc
known_is f (Some x) at known h e = let is : f x ≡ known = cc in sym is ∙ ap f (h x refl)

-- a depth that is known is right
pub known : (parents : List (Option ℕ)) (count at depth : ℕ)
    → slice_get (depths_to parents count) at ≡ Some depth → depth ≡ deep (length parents) parents at
known parents count at depth e =
    let f = deep (length parents) parents in
    known_is f (slice_get (range_with_len 0 count) at) at depth (λ x h. omega (arith, range_is 0 count at x h)) (sym (slice_get-map f (range_with_len 0 count) at) ∙ e)

-- and ends the steps
pub known_step : (parents : List (Option ℕ)) (count at steps depth all : ℕ) → steps < length parents
    → slice_get (depths_to parents count) at ≡ Some depth
    → steps + deep (length parents - steps) parents at ≡ all
    → steps + min depth (length parents - steps) ≡ all
known_step parents count at steps depth all lt e h =
    let rest = length parents - steps in
    let whole : rest + steps ≡ length parents = omega (arith, lt) in
    let cut : deep rest parents at ≡ min rest depth = cut_off parents rest steps at
    ∙ ap (min rest) (ap (λ n. deep n parents at) whole
    ∙ sym (known parents count at depth e)) in
    omega (arith, cut, h)

-- one place more
pub depths_more : (parents : List (Option ℕ)) (place : ℕ) → depths_to parents (place + 1)
    ≡ depths_to parents place ++ deep (length parents) parents place ∷ []
depths_more parents place = map-range_with_len_more (deep (length parents) parents) 0 place place
    (omega arith)

-- ---- places and snapshots

module _ (snapshots : List Listed) where
  abbrev places : List (Option ℕ)
  places = map (parent_place snapshots) snapshots

  above_known : (place : ℕ) (snap : Listed) → slice_get snapshots place ≡ Some snap
      → parent_from places place ≡ parent_place snapshots snap
  above_known place snap e = ap (option_and_then (λ above. above)) (slice_get-map
      (parent_place snapshots) snapshots place ∙ ap (option_map (parent_place snapshots)) e)

  pub above_tied : (snap : Listed) → AreTied snapshots (parent_place snapshots snap)
      (parent_in snapshots snap)
  above_tied snap = go snap.2
    where
      go : (o : Option ℕ) → AreTied snapshots (option_and_then (λ number. position (has_name (name_of snap number)) snapshots) o) (option_and_then (λ number. find (has_name (name_of snap number)) snapshots) o)
      go None = tt
      go (Some number) = tied (has_name (name_of snap number)) snapshots

  pub deep_is : (most place : ℕ) (snap : Listed) → slice_get snapshots place ≡ Some snap → deep most places place ≡ depth_in most snapshots snap
  deep_is zero place snap e = refl
  deep_is (suc most) place snap e =
      ap (λ o. option_map_or (λ above. suc (deep most places above)) o zero) (above_known place snap e)
      ∙ go (parent_place snapshots snap) (parent_in snapshots snap) (above_tied snap)
      (λ next above is. deep_is most next above is)
    where
      go : (o : Option ℕ) (w : Option Listed) → AreTied snapshots o w
          → ((next : ℕ) (above : Listed) → slice_get snapshots next ≡ Some above → deep most places next ≡ depth_in most snapshots above)
          → option_map_or (λ next. suc (deep most places next)) o zero ≡ option_map_or (λ above. suc (depth_in most snapshots above)) w zero
      go None None t h = refl
      go (Some next) (Some above) t h = ap suc (h next above t)
      go None (Some above) t h = absurd t
      go (Some next) None t h = absurd t
