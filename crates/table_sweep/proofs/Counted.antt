-- What is counted by marks and masks is what a report counts.
use Rattle.std.proofs.Common.{◌≡◌, ◌≢◌, ℕ, ◌+◌, ◌≤◌, Bool, true, false, List, [], ◌∷◌, ◌++◌, map, length, filter, get_or, refl, sym, ap, ◌∙◌, arith, ℤ, suc, append-nil, if◌then◌else◌, length-append}
use Rattle.std.specs.Prelude.{◌&&◌, All, AllPairs, count_by}
use Rattle.std.proofs.lemmas.List.{length-map}
use Rattle.std.proofs.lemmas.List.Sums.{length-filter, sum_by-append}
use Rattle.std.proofs.lemmas.List.Elements.{filter-append}
use Rattle.meta_types.specs.Rows.{Records}
use Rattle.meta_types.specs.Paths.{Thing, image, container, lease, ingest, content, snapshot, things, in_both_modes}
use Rattle.meta_types.specs.declared.resource.Mode.{Mode}
use Rattle.meta_types.specs.declared.resource.Mode.TheVariants.{Full, Flat}
use Rattle.meta_types.specs.Reports.{is_scanned, scanned_of}
use Rattle.gc_graph.specs.declared.node.Node.{Node}
use Rattle.gc_graph.specs.Targets.{nodes_of, node_things, root_things}
use Rattle.gc_graph.specs.Marked.{is_marked, is_marked_node, reached_by}
use Rattle.gc_graph.proofs.References.{name_of}
use Rattle.gc_graph.proofs.Things.{nodes_are, things_split, with_nodes, without_nodes, HasNode, HasNone}
use Rattle.table_sweep.specs.Masks.{mask_of_one}
use Rattle.table_sweep.proofs.Numbered.{mask_of_one_next, mask_of_one_is, numbered}

-- ---- counts of true ones

true_ones : {X : Type 0} (p : X → Bool) (xs : List X) → length (filter (λ b. b) (map p xs)) ≡ length (filter p xs)
true_ones p [] = refl
true_ones p (x ∷ xs) = go (p x) (true_ones p xs)
  where
    go : (b : Bool) → length (filter (λ b. b) (map p xs)) ≡ length (filter p xs) → length (if b then b ∷ filter (λ b. b) (map p xs) else filter (λ b. b) (map p xs)) ≡ length (if b then x ∷ filter p xs else filter p xs)
    go true e = omega (arith, e)
    go false e = e

-- how many a mask keeps
pub count_of : {X : Type 0} (stays : X → Bool) (rows : List X) (mask : List Bool) → mask ≡ map stays rows → count_by (λ b. b) mask ≡ length (filter stays rows)
count_of stays rows mask is = ap (count_by (λ b. b)) is ∙ sym (length-filter (λ b. b) (map stays rows)) ∙ true_ones stays rows

-- one number more
pub count_step : (marks : List ℕ) (i scanned one : ℕ) → scanned ≤ i → scanned ≡ count_by (λ b. b) (mask_of_one marks 0 i) → one ≡ (if is_marked marks i then 1 else 0)
    → (scanned + one ≤ i + 1) × (scanned + one ≡ count_by (λ b. b) (mask_of_one marks 0 (i + 1)))
count_step marks i scanned one below so_far is =
    let place : 0 + i ≡ i = omega arith in
    let next : mask_of_one marks 0 (i + 1) ≡ mask_of_one marks 0 i ++ is_marked marks i ∷ [] = mask_of_one_next marks 0 i ∙ ap (λ n. mask_of_one marks 0 i ++ is_marked marks n ∷ []) place in
    let sum : count_by (λ b. b) (mask_of_one marks 0 (i + 1)) ≡ count_by (λ b. b) (mask_of_one marks 0 i) + count_by (λ b. b) (is_marked marks i ∷ [])
    = ap (count_by (λ b. b)) next ∙ sum_by-append (λ b. if b then 1 else 0) (mask_of_one marks 0 i) (is_marked marks i ∷ []) in
    go (is_marked marks i) is sum
  where
    go : (b : Bool) → one ≡ (if b then 1 else 0) → count_by (λ b. b) (mask_of_one marks 0 (i + 1)) ≡ count_by (λ b. b) (mask_of_one marks 0 i) + count_by (λ b. b) (b ∷ [])
        → (scanned + one ≤ i + 1) × (scanned + one ≡ count_by (λ b. b) (mask_of_one marks 0 (i + 1)))
    go true one_is sum = (omega (arith, below, one_is), omega (arith, so_far, one_is, sum))
    go false one_is sum = (omega (arith, below, one_is), omega (arith, so_far, one_is, sum))

-- ---- nodes that the marks reach

module _ {X : Type 0} (p q : X → Bool) where
  same_if_all : (xs : List X) → All (λ x. p x ≡ q x) xs → filter p xs ≡ filter q xs
  same_if_all [] h = refl
  same_if_all (x ∷ xs) h = rw (h 0 x (omega arith), same_if_all xs (λ i d lt. h (suc i) d (omega arith))) refl

none_pass : {X : Type 0} (xs : List X) → filter (λ x. false) xs ≡ []
none_pass [] = refl
none_pass (x ∷ xs) = none_pass xs

module _ (records : Records) (book : List Node) (is : book ≡ nodes_of records) (once : AllPairs (λ a b. a ≢ b) book) (marks : List ℕ) (at : ℤ) where
  abbrev of_node : Thing → Bool
  of_node t = is_marked_node book marks (name_of t)

  abbrev of_scanned : Thing → Bool
  of_scanned t = is_scanned t && reached_by records.profile book marks at t

  not_scanned : (t : Thing) → HasNone t → of_scanned t ≡ false
  not_scanned (image row) h = refl
  not_scanned (container row) h = refl
  not_scanned (lease row) h = refl
  not_scanned (ingest row) h = absurd cc
  not_scanned (content mode row) h = absurd cc
  not_scanned (snapshot mode row) h = absurd cc

  scanned_if_marked : (t : Thing) → HasNode t → of_scanned t ≡ of_node t
  scanned_if_marked (image row) h = absurd cc
  scanned_if_marked (container row) h = absurd cc
  scanned_if_marked (lease row) h = absurd cc
  scanned_if_marked (ingest row) h = refl
  scanned_if_marked (content mode row) h = refl
  scanned_if_marked (snapshot mode row) h = refl

  marked_things : mask_of_one marks 0 (length (node_things records)) ≡ map of_node (node_things records)
  marked_things =
      mask_of_one_is name_of book marks (node_things records) 0
      (numbered name_of book once [] [] (node_things records) (is ∙ nodes_are records ∙ sym (append-nil (map name_of (node_things records)))) 0 refl)

  scanned_things : filter of_scanned (things records) ≡ filter of_node (node_things records)
  scanned_things =
      ap (filter of_scanned) (things_split records) ∙ filter-append of_scanned (root_things records) (node_things records)
      ∙ (λ j. (same_if_all of_scanned (λ t. false) (root_things records) (λ i d lt. not_scanned (get_or (root_things records) i d) (without_nodes records i d lt)) ∙ none_pass (root_things records)) j
      ++ same_if_all of_scanned of_node (node_things records) (λ i d lt. scanned_if_marked (get_or (node_things records) i d) (with_nodes records i d lt)) j)

  pub scanned_is : (count : ℕ) → count ≡ length (node_things records) → count_by (λ b. b) (mask_of_one marks 0 count) ≡ scanned_of (reached_by records.profile book marks at) records
  scanned_is count e = ap (λ n. count_by (λ b. b) (mask_of_one marks 0 n)) e ∙ count_of of_node (node_things records) (mask_of_one marks 0 (length (node_things records))) marked_things ∙ ap length (sym scanned_things)

-- how many things have nodes
pub thing_count : (records : Records) → length (node_things records) ≡ length records.tables.ingests + ((length records.tables.content + length records.tables.content) + (length records.tables.snapshots + length records.tables.snapshots))
thing_count records =
    length-append (map ingest records.tables.ingests) (in_both_modes content records.tables.content ++ in_both_modes snapshot records.tables.snapshots)
    ∙ (λ j. length-map records.tables.ingests ingest j + (length-append (in_both_modes content records.tables.content) (in_both_modes snapshot records.tables.snapshots)
    ∙ (λ k. both content records.tables.content k + both snapshot records.tables.snapshots k)) j)
  where
    both : {Row : Type 0} (thing : Mode → Row → Thing) (rows : List Row) → length (in_both_modes thing rows) ≡ length rows + length rows
    both thing rows = length-append (map (thing Full) rows) (map (thing Flat) rows) ∙ (λ k. length-map rows (thing Full) k + length-map rows (thing Flat) k)
