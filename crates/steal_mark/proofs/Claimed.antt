-- Seats are made and joined, and the rule of the claim words stays.
use Rattle.std.proofs.Common.{◌≡◌, ℕ, ◌+◌, ◌-◌, ◌<◌, ◌≤◌, List, [], ◌++◌, get_or, set, refl, ⊎_elim, arith}
use Rattle.std.specs.Prelude.{All}
use Rattle.std.proofs.lemmas.List.Sums.{sum_by_push}
use Rattle.std.proofs.lemmas.List.Elements.{All-nil, All-append, All-contains, Contains-get_or}
use mathlib.Core.Option.{some}
use Rattle.atomic_table.proofs.Lists.{at_set}
use lib.ListN.{get_elem?}
use Rattle.atomic_table.specs.Table.{Splits, Joins}
use Rattle.mark_core.specs.declared.graph.Graph.{Graph}
use Rattle.mark_core.specs.Bits.{bit_of, times}
use Rattle.mark_core.specs.Reach.{Reached}
use Rattle.mark_core.proofs.Counts.{times-append, contained, counted}
use Rattle.steal_mark.specs.declared.shared.claims.Claims.{Claims}
use Rattle.steal_mark.specs.Claiming.{claims, Fits, IsClaimed}
use Rattle.steal_mark.proofs.Sums.{sum_set, each_set, each_push}

-- what holds of all claims holds of some of them
among : (P : ℕ → Type 0) (xs ys : List ℕ) → ((n : ℕ) → times n xs ≤ times n ys) → All P ys → All P xs
among P xs ys less all k d h =
    let n : ℕ = get_or xs k d in
    let a : 0 < times n xs = counted n xs (Contains-get_or xs k d h) in
    let b = less n in
    All-contains P ys n all (contained n ys (omega arith))

-- a seat for a worker, which takes over some claims
pub gives : (g : Graph) (id : ℕ) (v : Claims) (dealt kept : List ℕ) → 1 < v.parts → ((n : ℕ) → times n kept + times n dealt ≡ times n v.claimed) → Splits (IsClaimed g) id v (claims (v.parts - 1) kept v.seen) (claims 1 dealt v.seen)
gives g id v dealt kept some_parts both s h at =
    let l : Claims = claims (v.parts - 1) kept v.seen in
    let r : Claims = claims 1 dealt v.seen in
    let mine = h.each id v at in
    let vs : List Claims = set s.views id l in
    record {
      parts = let a = sum_set (λ u. u.parts) s.views id v l at in let b = sum_by_push (λ (u : Claims). u.parts) vs r in let p = h.parts in omega arith;
      wide = h.wide;
      counted = λ n.
          let a = sum_set (λ u. times n u.claimed) s.views id v l at in let b = sum_by_push (λ (u : Claims). times n u.claimed) vs r in let d = h.counted n in let e = both n in omega arith;
      each = each_push (Fits g s.words) vs r
          (each_set (Fits g s.words) s.views id l h.each (record { reached = among (Reached g) kept v.claimed (λ n. let e = both n in omega arith) mine.reached; seen = mine.seen; idle = λ z. absurd (omega arith) }))
          (record { reached = among (Reached g) dealt v.claimed (λ n. let e = both n in omega arith) mine.reached; seen = mine.seen; idle = λ z. absurd (omega arith) });
    }

-- the claims of two seats together
fits_both : (g : Graph) (words : List ℕ) (v w : Claims) → 0 < v.parts → Fits g words v → Fits g words w → Fits g words (claims (v.parts + w.parts) (v.claimed ++ w.claimed) (v.seen ++ w.seen))
fits_both g words v w some_part mine theirs = record {
  reached = All-append (Reached g) v.claimed w.claimed mine.reached theirs.reached;
  seen = All-append (λ n. bit_of words n ≡ 1) v.seen w.seen mine.seen theirs.seen;
  idle = λ z. absurd (omega arith);
}

-- the seats of two workers become one
pub joins : (g : Graph) (id : ℕ) (v : Claims) (other : ℕ) (w : Claims) → 0 < v.parts → Joins (IsClaimed g) id v other w (claims (v.parts + w.parts) (v.claimed ++ w.claimed) (v.seen ++ w.seen)) (claims 0 [] [])
joins g id v other w some_part s h at apart at' =
    let both : Claims = claims (v.parts + w.parts) (v.claimed ++ w.claimed) (v.seen ++ w.seen) in
    let spent : Claims = claims 0 [] [] in
    let mine = h.each id v at in
    let vs : List Claims = set s.views id both in
    let was : get_elem? s.views other ≡ some w = ⊎_elim (λ x. absurd (apart x.0)) (λ x. x.1) (at_set s.views id other both w at') in
    let theirs = h.each other w was in
    record {
      parts = let a = sum_set (λ u. u.parts) s.views id v both at in let b = sum_set (λ (u : Claims). u.parts) vs other w spent at' in let p = h.parts in omega arith;
      wide = h.wide;
      counted = λ n.
          let a = sum_set (λ u. times n u.claimed) s.views id v both at in let b = sum_set (λ (u : Claims). times n u.claimed) vs other w spent at' in
          let c = times-append n v.claimed w.claimed in let d = h.counted n in omega arith;
      each = each_set (Fits g s.words) vs other spent
          (each_set (Fits g s.words) s.views id both h.each (fits_both g s.words v w some_part mine theirs))
          (record { reached = All-nil (Reached g); seen = All-nil (λ n. bit_of s.words n ≡ 1); idle = λ z. refl });
    }
