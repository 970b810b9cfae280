-- Folds that have come to a place.
use Rattle.std.proofs.Common.{◌≡◌, ℕ, zero, suc, ◌+◌, ◌<◌, List, [], ◌∷◌, ◌++◌, map, length, get_or, take, sym, ap, ◌∙◌, arith, fold, Bor}
use Rattle.std.proofs.lemmas.List.Sums.{fold-append}
use Rattle.meta_types.specs.Rows.{LeaseRow}
use Rattle.meta_types.specs.Paths.{Thing, image, container, lease}
use Rattle.meta_types.specs.declared.rows.ImageRow.{ImageRow}
use Rattle.meta_types.specs.declared.rows.ContainerRow.{ContainerRow}
use Rattle.gc_graph.specs.declared.rows.StoreRows.{StoreRows}
use Rattle.gc_graph.specs.Stored.{records_of}
use Rattle.gc_graph.specs.Targets.{root_things}
use Rattle.gc_graph.proofs.Things.{map_of_map}

module _ {Row Y Z : Type 0} (f : Z → Y → Z) (g : Row → Y) where
  next : (b : Z) (xs : List Row) (i k : ℕ) (x : Row) → k ≡ i + 1 → i < length xs → x ≡ get_or xs i x → fold f b (map g (take k xs)) ≡ f (fold f b (map g (take i xs))) (g x)
  next b [] i k x up lt is = absurd (omega (arith, lt))
  next b (y ∷ xs) i zero x up lt is = absurd (omega (arith, up))
  next b (y ∷ xs) zero (suc k) x up lt is =
      let none_more : k ≡ 0 = omega (arith, up) in
      ap (λ j. fold f (f b (g y)) (map g (take j xs))) none_more ∙ ap (λ z. f b (g z)) (sym is)
  next b (y ∷ xs) (suc i) (suc k) x up lt is = next (f b (g y)) xs i k x (omega (arith, up)) (omega (arith, lt)) is

-- images, then containers, then leases
pub three_folded : {Z : Type 0} (f : Z → Thing → Z) (b : Z) (stored : StoreRows)
    → fold f (fold f (fold f b (map (λ (row : Bor ImageRow). image row.now) stored.images.now)) (map (λ (row : Bor ContainerRow). container row.now) stored.containers.now)) (map (λ (row : Bor LeaseRow). lease row.now) stored.leases.now)
    ≡ fold f b (root_things (records_of stored))
three_folded f b stored =
    let is = stored.images.now in
    let cs = stored.containers.now in
    let ls = stored.leases.now in
    let i = map image (map (λ (row : Bor ImageRow). row.now) is) in
    let c = map container (map (λ (row : Bor ContainerRow). row.now) cs) in
    let l = map lease (map (λ (row : Bor LeaseRow). row.now) ls) in
    (λ j. fold f (fold f (fold f b (sym (map_of_map image (λ (row : Bor ImageRow). row.now) is) j)) (sym (map_of_map container (λ (row : Bor ContainerRow). row.now) cs) j)) (sym (map_of_map lease (λ (row : Bor LeaseRow). row.now) ls) j))
    ∙ sym (fold-append f b (i ++ c) l ∙ ap (λ z. fold f z l) (fold-append f b i c))
