-- Parents that are sought from those that go upward give these their depths.
use Rattle.std.proofs.Common.{◌≡◌, ℕ, zero, suc, ◌+◌, ◌-◌, ◌<◌, ◌≤◌, Bool, true, false, List, [], ◌∷◌, ◌++◌, map, take, length, get_or, set, refl, sym, ap, subst, ◌∙◌, arith, inl, inr, Option, Some, None, slice_get}
use Rattle.std.specs.Prelude.{◌||◌, IfSome, option_and_then, position}
use Rattle.std.specs.Option.{option_map_or}
use Rattle.std.specs.List.{list_any, range_with_len}
use Rattle.std.proofs.lemmas.Bool.{cases_lt}
use Rattle.std.proofs.lemmas.List.{get_or-set_same, get_or-set_other, length-map, map-append, take_more}
use Rattle.std.proofs.lemmas.List.FromFn.{get_or-map-range_with_len, length-range_with_len}
use Rattle.std.proofs.lemmas.List.Quantifiers.{position-Some}
use Rattle.std.proofs.lemmas.Option.{slice_get-get_or, slice_get_within}
use Rattle.table_sweep.specs.Depths.{Listed, parent_in, depth_in}
use Rattle.table_sweep.specs.SnapshotPlaces.{has_name, name_of, parent_from, parent_place, deep, depths_to, AreSought, AreDepths, LeadUp}
use Rattle.table_sweep.proofs.FirstPlace.{AreTied}
use Rattle.table_sweep.proofs.Steps.{above_tied, deep_is}

-- ---- marks

pub mark_grows : (needed : List Bool) (place k : ℕ) → place < length needed
    → get_or needed k false ≡ true
    → get_or (set needed place true) k false ≡ true
mark_grows needed place k lt e = elim (cases_lt k place) [
  | inl under ↦ get_or-set_other needed place k true false (λ (same : k ≡ place). omega (
    arith,
    under,
    same,
  )) ∙ e
  | inr over ↦ elim (cases_lt place k) [
    | inl above ↦ get_or-set_other needed place k true false (λ (same : k ≡ place). omega (
      arith,
      above,
      same,
    )) ∙ e
    | inr below ↦ (let same : k ≡ place = omega (arith, over, below) in
        ap (λ n. get_or (set needed place true) n false) same
        ∙ get_or-set_same needed place true false lt)
  ]
]

-- a mark before these is none of theirs
pub mark_before : (needed : List Bool) (place k : ℕ) → place < k
    → get_or (set needed place true) k false ≡ true
    → get_or needed k false ≡ true
mark_before needed place k lt e =
    sym (get_or-set_other needed place k true false (λ (same : k ≡ place). omega (
      arith,
      lt,
      same,
    ))) ∙ e

-- ---- one place more

-- a parent's place is one of the list's
pub above_within : (xs : List Listed) (s : Listed) → IfSome (parent_place xs s) (λ place. place <
    length xs)
above_within xs s = go s.2
  where
    inside : (number : ℕ) (o : Option ℕ) → position (has_name (name_of s number)) xs ≡ o
        → IfSome o (λ place. place < length xs)
    inside number None e = tt
    inside number (Some place) e = (position-Some (has_name (name_of s number)) xs place s e).0

    go : (o : Option ℕ) → IfSome (option_and_then (λ number. position (has_name (name_of s number))
        xs) o) (λ place. place < length xs)
    go None = tt
    go (Some number) = inside number (position (has_name (name_of s number)) xs) refl

-- what is known of the one that stands at a place
pub at_place : (xs : List Listed) (at : ℕ) (above : Option ℕ) → at < length xs
    → ((s : Listed) → slice_get xs at ≡ Some s → above ≡ parent_place xs s)
    → IfSome above (λ place. place < length xs)
at_place xs at above lt is =
    let d : Listed = ([], 0, None) in
    subst (λ (o : Option ℕ). IfSome o (λ place. place < length xs)) (sym (is (get_or xs at d)
    (slice_get-get_or xs at d lt)))
    (above_within xs (get_or xs at d))

module _ (xs : List Listed) (at : ℕ) (parents : List (Option ℕ)) (needed : List Bool) where
  pub sought_more : (new : List Bool) (above : Option ℕ) → at < length parents
      → ((s : Listed) → slice_get xs at ≡ Some s → above ≡ parent_place xs s)
      → ((k : ℕ) → get_or needed k false ≡ true → get_or new k false ≡ true)
      → IfSome above (λ place. get_or new place false ≡ true)
      → ((k : ℕ) → at ≤ k → get_or new k false ≡ true → get_or needed k false ≡ true)
      → AreSought xs (at + 1) parents needed → AreSought xs at (set parents at above) new
  sought_more new above lt is grows marked same sought place s low need e = elim (cases_lt at
      place) [
        | inl under ↦ (let before = sought place s (omega (arith, under)) (same place low need) e in (
          get_or-set_other parents at place above None (λ (alike : place ≡ at). omega (
            arith,
            under,
            alike,
          )) ∙ before.0,
          λ next h. grows next (before.1 next h),
        ))
        | inr over ↦ (let here : place ≡ at = omega (arith, low, over) in
            let own : above ≡ parent_place xs s = is s (ap (slice_get xs) (sym here) ∙ e) in (
              ap (λ n. get_or (set parents at above) n None) here
                  ∙ get_or-set_same parents at above None lt ∙ own,
              λ next h. subst (λ (o : Option ℕ). IfSome o (λ place. get_or new place false ≡ true)) (own
                  ∙ h) marked,
            ))
      ]

  pub none_more : get_or needed at false ≡ false → AreSought xs (at + 1) parents needed
      → AreSought xs at parents needed
  none_more not_needed sought place s low need e = elim (cases_lt at place) [
    | inl under ↦ sought place s (omega (arith, under)) need e
    | inr over ↦ (let here : place ≡ at = omega (arith, low, over) in
        absurd (both (get_or needed at false) not_needed (ap (λ n. get_or needed n false) (sym
        here) ∙ need)))
  ]
    where
      both : (b : Bool) → b ≡ false → b ≡ true → ⊥
      both b f t = (let no : false ≡ true = sym f ∙ t in absurd cc)

pub sought_none : (xs : List Listed) (parents : List (Option ℕ)) (needed : List Bool)
    → AreSought xs (length xs) parents needed
sought_none xs parents needed place s low need e = absurd (let lt = slice_get_within xs place s e in
    omega (arith, low, lt))

-- the places are gone over from the last one on
pub sought_on : (xs : List Listed) (done : ℕ) (parents aboves' : List (Option ℕ)) (needed needed' :
    List Bool) → done < length xs
    → (AreSought xs (length xs - 1 - done + 1) parents needed
    → AreSought xs (length xs - 1 - done) aboves' needed')
    → AreSought xs (length xs - done) parents needed → AreSought xs (length xs - (done + 1)) aboves'
    needed'
sought_on xs done parents aboves' needed needed' lt step sought =
    let before : length xs - done ≡ length xs - 1 - done + 1 = omega (arith, lt) in
    let after : length xs - 1 - done ≡ length xs - (done + 1) = omega (arith, lt) in
    subst (λ (n : ℕ). AreSought xs n aboves' needed') after (step (subst (λ (n : ℕ). AreSought xs n
    parents needed) before sought))

-- ---- depths

above_is : (parents : List (Option ℕ)) (place : ℕ) → parent_from parents place
    ≡ get_or parents place
    None
above_is [] place = refl
above_is (above ∷ parents) zero = refl
above_is (above ∷ parents) (suc place) = above_is parents place

module _ (xs : List Listed) (parents : List (Option ℕ)) (needed : List Bool) (sought : AreSought xs
    0 parents needed) where
  needed_lead : (most place : ℕ) (s : Listed) → get_or needed place false ≡ true
      → slice_get xs place ≡ Some s
      → deep most parents place ≡ depth_in most xs s
  needed_lead zero place s need e = refl
  needed_lead (suc most) place s need e =
      let here = sought place s (omega arith) need e in
      ap (λ o. option_map_or (λ above. suc (deep most parents above)) o zero)
      (above_is parents place
      ∙ here.0)
      ∙ go (parent_place xs s) (parent_in xs s) (above_tied xs s) here.1
      (λ next above marked is. needed_lead most next above marked is)
    where
      go : (o : Option ℕ) (w : Option Listed) → AreTied xs o w → ((next : ℕ) → o ≡ Some next
          → get_or needed next false ≡ true)
          → ((next : ℕ) (above : Listed) → get_or needed next false ≡ true
          → slice_get xs next ≡ Some above → deep most parents next ≡ depth_in most xs above)
          → option_map_or (λ next. suc (deep most parents next)) o zero ≡ option_map_or (λ above.
          suc (depth_in most xs above)) w zero
      go None None t marked h = refl
      go (Some next) (Some above) t marked h = ap suc (h next above (marked next refl) t)
      go None (Some above) t marked h = absurd t
      go (Some next) None t marked h = absurd t

  pub lead_up : (goes : List Bool) → ((k : ℕ) → get_or goes k false ≡ true
      → get_or needed k false ≡ true) → LeadUp xs goes parents
  lead_up goes all most place s go e = needed_lead most place s (all place go) e

-- once all have been gone over
pub all_sought : (xs : List Listed) (goes : List Bool) (done : ℕ) (parents : List (Option ℕ))
    (needed : List Bool) → length xs ≤ done
    → AreSought xs (length xs - done) parents needed → ((k : ℕ) → get_or goes k false ≡ true
    → get_or needed k false ≡ true)
    → LeadUp xs goes parents
all_sought xs goes done parents needed le sought all =
    let none : length xs - done ≡ 0 = omega (arith, le) in
    lead_up xs parents needed (subst (λ (n : ℕ). AreSought xs n parents needed) none sought) goes
    all

-- one parent more
pub above_more : (xs : List Listed) (at : ℕ) (above : Option ℕ) (now new : List (Option ℕ))
    → at < length xs
    → ((s : Listed) → slice_get xs at ≡ Some s → above ≡ parent_place xs s)
    → now ≡ map (parent_place xs) (take at xs)
    → new ≡ now ++ above ∷ [] → new ≡ map (parent_place xs) (take (at + 1) xs)
above_more xs at above now new lt is are step =
    let d : Listed = ([], 0, None) in
    step ∙ (λ i. are i ++ is (get_or xs at d) (slice_get-get_or xs at d lt) i ∷ [])
    ∙ sym (ap (map (parent_place xs)) (take_more xs at d lt)
    ∙ map-append (parent_place xs) (take at xs) (get_or xs at d ∷ []))

-- the parents of all lead up
pub all_lead : (xs : List Listed) (goes : List Bool) → LeadUp xs goes (map (parent_place xs) xs)
all_lead xs goes most place s go e = deep_is xs most place s e

-- what leads up gives depths
pub depths_are : (xs : List Listed) (goes : List Bool) (parents : List (Option ℕ))
    → length parents ≡ length xs
    → LeadUp xs goes parents → AreDepths xs goes (depths_to parents (length parents))
depths_are xs goes parents count lead place s go e =
    let n = length parents in
    let lt : place < n = (let within = slice_get_within xs place s e in omega (
      arith,
      count,
      within,
    )) in
    let long : length (depths_to parents n) ≡ n = length-map (range_with_len 0 n) (deep n parents)
    ∙ length-range_with_len 0 n in
    let first : 0 + place ≡ place = omega arith in
    slice_get-get_or (depths_to parents n) place 0 (omega (arith, long, lt))
    ∙ ap Some (get_or-map-range_with_len (deep n parents) 0 n place place 0 lt first
    ∙ lead n place s go e ∙ ap (λ k. depth_in k xs s) count)

pub depths_count : (parents : List (Option ℕ)) → length (depths_to parents (length parents))
    ≡ length
    parents
depths_count parents = length-map (range_with_len 0 (length parents)) (deep
    (length parents) parents)
    ∙ length-range_with_len 0 (length parents)

-- ---- whether any goes

-- by a test that a Bool itself passes
pub any_true : (p : Bool → Bool) → p true ≡ true → p false ≡ false → (goes : List Bool)
    → list_any p goes ≡ list_any (λ one. one) goes
any_true p at_true at_false [] = refl
any_true p at_true at_false (one ∷ goes) = λ i. same one i || any_true p at_true at_false goes i
  where
    same : (b : Bool) → p b ≡ b
    same true = at_true
    same false = at_false
