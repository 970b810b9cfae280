-- A search that keeps the nodes that it saw, and their depths.
use Rattle.std.proofs.Common.{◌≡◌, ◌∙◌, ℕ, ◌+◌, ◌<◌, ◌≤◌, List, [], Some, None, Option, length, get_or, sym, ap, subst, arith}
use Rattle.std.specs.Prelude.{All}
use Rattle.std.proofs.lemmas.List.{length-map, get_or-map}
use Rattle.mark_core.specs.declared.graph.Graph.{Graph}
use Rattle.mark_core.specs.Reach.{targets, node_count, IsInRange}
use Rattle.mark_core.specs.Seeing.{Seen}
use Rattle.mark_core.specs.Depths.{depth_in, KeepsDepths}
use Rattle.mark_core.specs.Nearest.{IsDepth}
use Rattle.mark_core.specs.Seeing.{see_all}
use Rattle.mark_core.proofs.Seeings.{adds, get_or_any}
use Rattle.mark_core.proofs.Growing.{Grown, begun, grows, whole}
use Rattle.mark_core.proofs.Bounded.{bounded, seen_in_range}
use Rattle.mark_core.proofs.DepthsSeen.{Once, once_all, depth_in-at}
use Rattle.mark_core.proofs.FirstPlaces.{no_seen, depth_of_all}

-- the queue and the depths tell of a search that has done all before the place
pub record Searched (g : Graph) (own held queue : List ℕ) (depths : List (Option ℕ)) (next : ℕ)
    : Type 0 where
  pub seen : List Seen
  pub tells : KeepsDepths seen queue depths
  pub grown : Grown g own held seen next
  pub once : Once seen

-- the one at a place
abbrev pub seen_at : List Seen → ℕ → Seen
seen_at seen place = get_or seen place no_seen

-- the starts are seen, those that cost nothing first
pub started : (g : Graph) (own held queue : List ℕ) (depths : List (Option ℕ))
    → KeepsDepths (see_all None 1 (see_all None 0 [] own) held) queue depths
    → Searched g own held queue depths 0
started g own held queue depths tells =
    let first : List Seen = see_all None 0 [] own in
    let new : List Seen = see_all None 1 first held in
    record {
      seen = new;
      tells = tells;
      grown = begun g own held first new (adds None 0 [] own) (adds None 1 first held);
      once = once_all None 1 first held (once_all None 0 [] own (λ n. omega arith));
    }

module _ (g : Graph) (own held queue : List ℕ) (depths : List (Option ℕ)) (next : ℕ)
    (s : Searched g own held queue depths next) where
  as_long : length queue ≡ length s.seen
  as_long = ap length s.tells.0 ∙ length-map s.seen (λ x. x.node)

  -- no more nodes are seen than there are
  pub few_queued : IsInRange g → All (λ r. r < node_count g) own → All (λ r. r < node_count g) held
      → length queue ≤ node_count g
  few_queued range owns helds =
      let b = bounded g own held s.seen next range owns helds s.grown s.once in
      let l = as_long in
      omega arith

  -- all that was seen is done, so the depths are those of nearest walks
  pub depths_are : length queue ≤ next → (n : ℕ) → n < length depths
      → IsDepth g own held n (get_or depths n None)
  depths_are over n inside =
      let l = as_long in
      subst (IsDepth g own held n) (sym (s.tells.1 n inside))
      (depth_of_all g own held s.seen (whole g own held s.seen next s.grown (omega arith)) n)

  -- ---- the next one, and its number

  module _ (inside : next < length queue) (n : ℕ) (is : n ≡ get_or queue next n) where
    there : next < length s.seen
    there = let l = as_long in omega arith

    node_is : n ≡ (seen_at s.seen next).node
    node_is =
        is ∙ ap (λ (q : List ℕ). get_or q next n) s.tells.0
        ∙ get_or-map (λ x. x.node) s.seen next no_seen n there

    pub node_below : IsInRange g → All (λ r. r < node_count g) own → All (λ r. r < node_count g) held
        → n < node_count g
    node_below range owns helds =
        subst (λ k. k < node_count g) (sym node_is)
        (seen_in_range g own held s.seen range owns helds s.grown.comes next no_seen there)

    -- it has a depth, no more than one more than its place
    pub depth_is : n < length depths → get_or depths n None ≡ Some (seen_at s.seen next).depth
    depth_is h =
        s.tells.1 n h ∙ ap (depth_in s.seen) node_is ∙ depth_in-at s.seen s.once next no_seen there

    pub depth_low : (seen_at s.seen next).depth ≤ next + 1
    depth_low = s.grown.low next no_seen there

    -- its targets are seen
    pub goes_on : (depth : ℕ) → depth ≡ (seen_at s.seen next).depth
        → (queue' : List ℕ) (depths' : List (Option ℕ))
        → ((seen : List Seen) (before : Option ℕ) → KeepsDepths seen queue depths
        → KeepsDepths (see_all before (depth + 1) seen (targets g n)) queue' depths')
        → Searched g own held queue' depths' (next + 1)
    goes_on depth deep queue' depths' sees =
        let this : Seen = seen_at s.seen next in
        let ts : List ℕ = targets g this.node in
        record {
          seen = see_all (Some next) (this.depth + 1) s.seen ts;
          tells = subst
              (λ k. KeepsDepths (see_all (Some next) (this.depth + 1) s.seen (targets g k)) queue' depths')
              node_is
              (subst
              (λ d. KeepsDepths (see_all (Some next) (d + 1) s.seen (targets g n)) queue' depths')
              deep (sees s.seen (Some next) s.tells));
          grown = grows g own held s.seen (see_all (Some next) (this.depth + 1) s.seen ts) next
              this there
              (get_or_any s.seen next this no_seen there) s.grown
              (adds (Some next) (this.depth + 1) s.seen ts);
          once = once_all (Some next) (this.depth + 1) s.seen ts s.once;
        }
