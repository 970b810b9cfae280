-- The things of numbers back, step by step.
use Rattle.std.proofs.Common.{◌≡◌, ℕ, zero, suc, ◌+◌, ◌-◌, ◌<◌, List, [], ◌∷◌, ◌++◌, map, length, get_or, refl, sym, ap, ◌∙◌, subst, arith, ℤ, Option, Some, None, is_some, append_assoc, append-nil}
use Rattle.std.specs.Prelude.{IfSome}
use Rattle.std.specs.Option.{option_map_or}
use Rattle.std.proofs.lemmas.Bool.{false≢true}
use Rattle.meta_types.specs.Rows.{Records}
use Rattle.meta_types.specs.Paths.{Thing}
use Rattle.meta_types.specs.Walks.{end_of}
use Rattle.mark_core.specs.declared.graph.Graph.{Graph}
use Rattle.explaining.specs.Searched.{IsSearched}
use Rattle.explaining.specs.ThingRows.{numbered, thing_at}
use Rattle.explaining.specs.Firsts.{chain, listed, first_leading, root_before}
use Rattle.explaining.specs.ShortestPaths.{IsFirstTo}
use Rattle.explaining.proofs.FirstPaths.{first_alone, first_to}

chain_ends : (before : List (Option ℕ)) (n m : ℕ) → get_or before n None ≡ None → chain before m n ≡ []
chain_ends before n zero e = refl
chain_ends before n (suc m) e = ap (λ (o : Option ℕ). option_map_or (λ b. b ∷ chain before m b) o []) e

chain_goes : (before : List (Option ℕ)) (n m next : ℕ) → get_or before n None ≡ Some next → chain before (suc m) n ≡ next ∷ chain before m next
chain_goes before n m next e = ap (λ (o : Option ℕ). option_map_or (λ b. b ∷ chain before m b) o []) e

module _ {X : Type 0} (f : ℕ → X) (before : List (Option ℕ)) (here steps step : ℕ) where
  -- where there is no number before, all is there
  pub all_there : (things goal : List X) → get_or before here None ≡ None → things ++ map f (chain before (steps - step) here) ≡ goal → things ≡ goal
  all_there things goal e h = sym (append-nil things) ∙ ap (λ l. things ++ map f l) (sym (chain_ends before here (steps - step) e)) ∙ h

  pub last_there : (last : ℕ) → get_or before here None ≡ None → end_of here (chain before (steps - step) here) ≡ last → here ≡ last
  last_there last e h = ap (end_of here) (sym (chain_ends before here (steps - step) e)) ∙ h

  left_is : (next : ℕ) → step < steps → get_or before here None ≡ Some next → chain before (steps - step) here ≡ next ∷ chain before (steps - (step + 1)) next
  left_is next lt e =
      let left : steps - step ≡ suc (steps - (step + 1)) = omega arith in
      ap (λ k. chain before k here) left ∙ chain_goes before here (steps - (step + 1)) next e

  -- a number more
  pub one_back : (next : ℕ) (things goal : List X) → step < steps → get_or before here None ≡ Some next → things ++ map f (chain before (steps - step) here) ≡ goal
      → (things ++ f next ∷ []) ++ map f (chain before (steps - (step + 1)) next) ≡ goal
  one_back next things goal lt e h =
      append_assoc things (f next ∷ []) (map f (chain before (steps - (step + 1)) next)) ∙ ap (λ l. things ++ map f l) (sym (left_is next lt e)) ∙ h

  pub last_back : (next last : ℕ) → step < steps → get_or before here None ≡ Some next → end_of here (chain before (steps - step) here) ≡ last
      → end_of next (chain before (steps - (step + 1)) next) ≡ last
  last_back next last lt e h = sym (ap (end_of here) (left_is next lt e)) ∙ h

-- a number with a depth is one of all
pub known_below : (depths : List (Option ℕ)) (n d : ℕ) → get_or depths n None ≡ Some d → n < length depths
known_below [] n d e = absurd (false≢true (ap is_some e))
known_below (x ∷ depths) zero d e = omega arith
known_below (x ∷ depths) (suc n) d e = (let lt = known_below depths n d e in omega (arith, lt))

-- what stands at a place of a list is there by any default
indexed : (xs : List (Option ℕ)) (n : ℕ) (x : Option ℕ) → n < length xs → x ≡ get_or xs n x → get_or xs n None ≡ x
indexed [] n x lt e = absurd (omega arith)
indexed (y ∷ xs) zero x lt e = sym e
indexed (y ∷ xs) (suc n) x lt e = indexed xs n x (omega (arith, lt)) e

-- the depth of a number that was found
pub depth_at : (depths seen : List (Option ℕ)) → seen ≡ depths → (found : Option ℕ) → IfSome found (λ b. b < length seen) → (n : ℕ) → found ≡ Some n → (x : Option ℕ) → x ≡ get_or depths n x → get_or depths n None ≡ x
depth_at depths seen same found range n is x e =
    indexed depths n x (subst (λ (o : Option ℕ). IfSome o (λ b. b < length depths)) is (subst (λ (l : List (Option ℕ)). IfSome found (λ b. b < length l)) same range)) e

module _ (records : Records) (at : ℤ) (graph : Graph) (depths : List (Option ℕ)) (searched : IsSearched records at graph depths) (before : List (Option ℕ))
    (first : (n : ℕ) → n < length depths → get_or before n None ≡ first_leading records graph depths n (length depths)) where
  firsts : (n : ℕ) → n < length (numbered records) → get_or before n None ≡ first_leading records graph depths n (length (numbered records))
  firsts n lt = (let same = searched.numbers in first n (omega (arith, lt, same))) ∙ ap (first_leading records graph depths n) searched.numbers

  module _ (n d : ℕ) (known : get_or depths n None ≡ Some d) where
    lt : n < length (numbered records)
    lt = (let below = known_below depths n d known in let same = searched.numbers in omega (arith, below, same))

    pub alone_back : (things : List Thing) → d ≡ 0 → things ≡ map (thing_at records) (n ∷ chain before (d - 1) n) → IsFirstTo records at (thing_at records n) things
    alone_back things none is =
        subst (IsFirstTo records at (thing_at records n)) (sym (is ∙ ap (λ k. map (thing_at records) (n ∷ chain before (k - 1) n)) none))
        (first_alone records at graph depths searched before firsts n lt (known ∙ ap Some none))

    pub whole_back : (last : ℕ) (things : List Thing) (root : Option Thing) → (d ≡ 0 → ⊥) → things ≡ map (thing_at records) (n ∷ chain before (d - 1) n)
        → last ≡ end_of n (chain before (d - 1) n) → root ≡ root_before records at before last → IsFirstTo records at (thing_at records n) (things ++ listed root)
    whole_back last things root some is end r =
        let deeper : d ≡ suc (d - 1) = omega (arith, nonzero d some) in
        subst (IsFirstTo records at (thing_at records n)) (sym (λ i. is i ++ listed ((r ∙ ap (root_before records at before) end) i)))
        (first_to records at graph depths searched before firsts n (d - 1) lt (known ∙ ap Some deeper))
      where
        nonzero : (k : ℕ) → (k ≡ 0 → ⊥) → 0 < k
        nonzero zero z = absurd (z refl)
        nonzero (suc k) z = omega arith

-- what isn't there is none
pub none_of : {X : Type 0} (o : Option X) → ((x : X) → o ≡ Some x → ⊥) → o ≡ None
none_of None h = refl
none_of (Some x) h = absurd (h x refl)
