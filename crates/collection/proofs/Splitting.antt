-- Names that are split by what became of their objects.
use Rattle.std.proofs.Common.{◌≡◌, ◌∙◌, ℕ, ◌+◌, ◌<◌, ◌≤◌, List, [], ◌∷◌, ◌++◌, length, take, Bool, true, false, ap, arith, if◌then◌else◌, sym, slice_index_or, length-append, append_assoc}
use Rattle.std.proofs.lemmas.List.{length-take-le}
use Rattle.backend_sweep.specs.declared.outcomes.Outcome.{Outcome}
use Rattle.backend_sweep.specs.ObjectOutcomes.{names_with, was_removed, has_failed}
use Rattle.backend_sweep.proofs.ObjectOutcomes.{any_default, names_with_more, took_at}

-- the names so far are split, as their outcomes say
pub record AreSplit {X : Type 0} (names done left : List X) (outcomes : List Outcome) (i : ℕ)
    (gone lost : List X) : Type 0 where
  pub parts : done ++ left ≡ names
  pub place : i ≡ length done
  pub gone_are : gone ≡ names_with was_removed done (take i outcomes)
  pub lost_are : lost ≡ names_with has_failed done (take i outcomes)

-- names with some outcome aren't more than all
pub no_longer : {X : Type 0} (w : Outcome → Bool) (names : List X) (outcomes : List Outcome)
    → length (names_with w names outcomes) ≤ length names
no_longer w [] outcomes = omega arith
no_longer w (x ∷ names) [] = omega arith
no_longer w (x ∷ names) (f ∷ outcomes) =
    let rest = no_longer w names outcomes in
    let with_rest = names_with w names outcomes in
    elim (w f) as (λ (b : Bool). length (if b then x ∷ with_rest else with_rest) ≤ length
    (x ∷ names)) [
      | true ↦ omega (arith, rest)
      | false ↦ omega (arith, rest)
    ]

-- a step of the loop
module _ {X : Type 0} {names done left now : List X} {outcomes : List Outcome} {i : ℕ} {gone lost :
    List X} {n : X} (d : AreSplit names done left outcomes i gone lost) (next : left
    ≡ n ∷ now) where
  parts_are : done ++ n ∷ now ≡ names
  parts_are = ap (λ l. done ++ l) (sym next) ∙ d.parts

  lengths_are : length done + length (n ∷ now) ≡ length names
  lengths_are = sym (length-append done (n ∷ now)) ∙ ap (λ l. length l) parts_are

  -- what has gone into a list leaves room for the next name
  pub room_left : (w : Outcome → Bool) (told : List X) (most : ℕ)
      → told ≡ names_with w done (take i outcomes) → length names ≤ most → length told < most
  room_left w told most told_are fits =
      let all = lengths_are in
      let long : length told ≡ length (names_with w done (take i outcomes)) =
      ap (λ l. length l) told_are in
      let short = no_longer w done (take i outcomes) in
      omega (arith, all, long, short, fits)

  -- the next name, with the outcome that stands at its place
  pub with_one : (some f : Outcome) → slice_index_or outcomes i some ≡ f → length outcomes
      ≡ length names
      → (w : Outcome → Bool) → names_with w (done ++ n ∷ []) (take (i + 1) outcomes)
      ≡ names_with w done (take i outcomes) ++ (if w f then n ∷ [] else [])
  with_one some f at same w =
      let all = lengths_are in
      let place = d.place in
      let here : i < length outcomes = omega (arith, all, place, same) in
      let long = length-take-le i outcomes (omega (arith, here)) in
      let took = took_at outcomes i f (sym at ∙ any_default outcomes i some f here) here in
      ap (names_with w (done ++ n ∷ [])) took
      ∙ names_with_more w done (take i outcomes) n f (omega (arith, long, place))

  pub split_more : (some f : Outcome) → slice_index_or outcomes i some ≡ f → length outcomes
      ≡ length names
      → (more less : List X) → more ≡ gone ++ (if was_removed f then n ∷ [] else [])
      → less ≡ lost ++ (if has_failed f then n ∷ [] else [])
      → AreSplit names (done ++ n ∷ []) now outcomes (i + 1) more less
  split_more some f at same more less more_are less_are =
      let one : length (done ++ n ∷ []) ≡ length done + 1 = length-append done (n ∷ []) in
      let place = d.place in
      let with_next = with_one some f at same in
      record {
        parts = append_assoc done (n ∷ []) now ∙ parts_are;
        place = omega (arith, one, place);
        gone_are = more_are ∙ ap (λ l. l ++ (if was_removed f then n ∷ [] else [])) d.gone_are
            ∙ sym (with_next was_removed);
        lost_are = less_are ∙ ap (λ l. l ++ (if has_failed f then n ∷ [] else [])) d.lost_are
            ∙ sym (with_next has_failed);
      }
