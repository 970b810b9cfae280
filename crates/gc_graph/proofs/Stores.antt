-- Whole stores, from the lists that the code made.
use Rattle.std.proofs.Common.{◌≡◌, ℕ, ◌+◌, ◌*◌, false, List, ◌++◌, map, length, filter, refl, sym, ap, ◌∙◌, arith, ℤ, append_assoc, append-nil, Bor, length-append}
use Rattle.std.specs.List.{flat_map}
use Rattle.std.specs.List.Sorted.{IsPermutation}
use Rattle.std.proofs.lemmas.List.{map-append, length-map}
use Rattle.std.proofs.lemmas.List.Elements.{filter-append}
use Rattle.std.proofs.lemmas.Grind.{flat_map-append}
use Rattle.meta_types.specs.CollectorLabels.{is_marked_root}
use Rattle.meta_types.specs.Rows.{Records, LeaseRow}
use Rattle.meta_types.specs.Paths.{Thing, image, container, lease, ingest, content, snapshot, is_root, ingest_holds_itself}
use Rattle.meta_types.specs.declared.rows.ImageRow.{ImageRow}
use Rattle.meta_types.specs.declared.rows.ContainerRow.{ContainerRow}
use Rattle.meta_types.specs.declared.rows.ContentRow.{ContentRow}
use Rattle.meta_types.specs.declared.rows.IngestRow.{IngestRow}
use Rattle.meta_types.specs.declared.rows.SnapRow.{SnapRow}
use Rattle.meta_types.specs.declared.resource.Mode.TheVariants.{Full, Flat}
use Rattle.mark_core.specs.declared.graph.Graph.{Graph}
use Rattle.mark_core.specs.Reach.{rows}
use Rattle.gc_graph.specs.declared.node.Node.{Node}
use Rattle.gc_graph.specs.declared.rows.StoreRows.{StoreRows}
use Rattle.gc_graph.specs.Targets.{nodes_of, node_things, root_things}
use Rattle.gc_graph.specs.Built.{targets_in, root_targets, places, root_places, AreApart, IsBuilt}
use Rattle.gc_graph.specs.Stored.{records_of}
use Rattle.gc_graph.proofs.Things.{map_of_map}
use Rattle.gc_graph.proofs.Walks.{is_built}
use Rattle.gc_graph.proofs.RootPlaces.{no_places, root_places_of, root_places-append, root_targets_of}

assoc5 : {X : Type 0} (a b c d e : List X) → (((a ++ b) ++ c) ++ d) ++ e ≡ a ++ ((b ++ c) ++ (d ++ e))
assoc5 a b c d e = append_assoc ((a ++ b) ++ c) d e ∙ ap (λ l. l ++ (d ++ e)) (append_assoc a b c) ∙ append_assoc a (b ++ c) (d ++ e)

-- ---- the roots

module _ (profile : ℕ) (at : ℤ) where
  module _ (book : List Node) where
    -- what borrowed roots reference
    rooted : {Row X : Type 0} (thing : X → Thing) (now : Row → X) (rs : List Row) → flat_map (λ row. root_targets profile at book (thing (now row))) rs ≡ flat_map (targets_in book) (filter (is_root profile at) (map thing (map now rs)))
    rooted thing now rs = root_targets_of profile at book (λ row. thing (now row)) rs ∙ ap (λ ts. flat_map (targets_in book) (filter (is_root profile at) ts)) (sym (map_of_map thing now rs))

    rooted-append : (xs ys : List Thing) → flat_map (targets_in book) (filter (is_root profile at) (xs ++ ys)) ≡ flat_map (targets_in book) (filter (is_root profile at) xs) ++ flat_map (targets_in book) (filter (is_root profile at) ys)
    rooted-append xs ys = ap (flat_map (targets_in book)) (filter-append (is_root profile at) xs ys) ∙ flat_map-append (targets_in book) (filter (is_root profile at) xs) (filter (is_root profile at) ys)

  -- one kind in both modes has no roots in flat
  both_places : {Row : Type 0} (full flat : Row → Thing) → ((row : Row) → is_root profile at (flat row) ≡ false) → (n : ℕ) (rs : List Row) → root_places profile at n (map full rs ++ map flat rs) ≡ root_places profile at n (map full rs)
  both_places full flat none n rs =
      root_places-append profile at n (map full rs) (map flat rs)
      ∙ ap (λ l. root_places profile at n (map full rs) ++ l) (no_places profile at flat none (n + length (map full rs)) rs)
      ∙ append-nil (root_places profile at n (map full rs))

module _ (stored : StoreRows) (at : ℤ) (book : List Node) where
  abbrev records : Records
  records = records_of stored

  abbrev profile : ℕ
  profile = stored.profile

  abbrev ingests : List IngestRow
  ingests = stored.ingests.now

  abbrev contents : List ContentRow
  contents = stored.content.now

  abbrev snaps : List SnapRow
  snaps = stored.snapshots.now

  -- one kind of rows
  edged : {Row : Type 0} (thing : Row → Thing) (rs : List Row) → map (λ row. targets_in book (thing row)) rs ≡ map (targets_in book) (map thing rs)
  edged thing rs = sym (map_of_map (targets_in book) thing rs)

  -- images, containers and leases
  pub thing_roots : flat_map (λ row. root_targets profile at book (image row.now)) stored.images.now
      ++ flat_map (λ row. targets_in book (container row.now)) stored.containers.now
      ++ flat_map (λ row. root_targets profile at book (lease row.now)) stored.leases.now
      ≡ flat_map (targets_in book) (filter (is_root profile at) (root_things records))
  thing_roots =
      let xs = map image records.tables.images in
      let ys = map container records.tables.containers in
      let zs = map lease records.leases in
      (λ j. rooted profile at book image (λ (row : Bor ImageRow). row.now) stored.images.now j
      ++ rooted profile at book container (λ (row : Bor ContainerRow). row.now) stored.containers.now j
      ++ rooted profile at book lease (λ (row : Bor LeaseRow). row.now) stored.leases.now j)
      ∙ ap (λ l. l ++ flat_map (targets_in book) (filter (is_root profile at) zs)) (sym (rooted-append profile at book xs ys))
      ∙ sym (rooted-append profile at book (xs ++ ys) zs)

  -- the rows that are roots of their own
  pub row_roots : places (λ row. ingest_holds_itself at row) 0 ingests
      ++ (places (λ row. is_marked_root row.labels) (length ingests) contents
      ++ places (λ row. is_marked_root row.labels) (length ingests + 2 * length contents) snaps)
      ≡ root_places profile at 0 (node_things records)
  row_roots =
      let i = map ingest records.tables.ingests in
      let cf = map (content Full) records.tables.content in
      let cl = map (content Flat) records.tables.content in
      let sf = map (snapshot Full) records.tables.snapshots in
      let sl = map (snapshot Flat) records.tables.snapshots in
      let long_i : length i ≡ length ingests = length-map ingests ingest in
      let long_cf : length cf ≡ length contents = length-map contents (content Full) in
      let long_cl : length cl ≡ length contents = length-map contents (content Flat) in
      let at_c : length ingests ≡ 0 + length i = omega (arith, long_i) in
      let at_s : length ingests + 2 * length contents ≡ (0 + length i) + length (cf ++ cl) = omega (arith, long_i, long_cf, long_cl, length-append cf cl) in
      let c_part : places (λ (row : ContentRow). is_marked_root row.labels) (length ingests) contents ≡ root_places profile at (0 + length i) (cf ++ cl)
      = root_places_of profile at (content Full) (length ingests) contents
      ∙ sym (both_places profile at (content Full) (content Flat) (λ row. refl) (length ingests) records.tables.content)
      ∙ ap (λ n. root_places profile at n (cf ++ cl)) at_c in
      let s_part : places (λ (row : SnapRow). is_marked_root row.labels) (length ingests + 2 * length contents) snaps ≡ root_places profile at ((0 + length i) + length (cf ++ cl)) (sf ++ sl)
      = root_places_of profile at (snapshot Full) (length ingests + 2 * length contents) snaps
      ∙ sym (both_places profile at (snapshot Full) (snapshot Flat) (λ row. refl) (length ingests + 2 * length contents) records.tables.snapshots)
      ∙ ap (λ n. root_places profile at n (sf ++ sl)) at_s in
      (λ j. root_places_of profile at ingest 0 ingests j ++ (c_part j ++ s_part j))
      ∙ ap (λ l. root_places profile at 0 i ++ l) (sym (root_places-append profile at (0 + length i) (cf ++ cl) (sf ++ sl)))
      ∙ sym (root_places-append profile at 0 i ((cf ++ cl) ++ (sf ++ sl)))

  pub own_roots : places (λ row. ingest_holds_itself at row) 0 ingests
      ++ places (λ row. is_marked_root row.labels) (length ingests) contents
      ++ places (λ row. is_marked_root row.labels) (length ingests + 2 * length contents) snaps
      ≡ root_places profile at 0 (node_things records)
  own_roots =
      append_assoc (places (λ (row : IngestRow). ingest_holds_itself at row) 0 ingests)
      (places (λ (row : ContentRow). is_marked_root row.labels) (length ingests) contents)
      (places (λ (row : SnapRow). is_marked_root row.labels) (length ingests + 2 * length contents) snaps)
      ∙ row_roots

  module _ (graph : Graph) where
    abbrev Edged : Type 0
    Edged = rows graph ≡ map (λ row. targets_in book (ingest row)) ingests
        ++ map (λ row. targets_in book (content Full row)) contents ++ map (λ row. targets_in book (content Flat row)) contents
        ++ map (λ row. targets_in book (snapshot Full row)) snaps ++ map (λ row. targets_in book (snapshot Flat row)) snaps

    edges_of_things : Edged → rows graph ≡ map (targets_in book) (node_things records)
    edges_of_things made =
        let t = targets_in book in
        let i = map ingest records.tables.ingests in
        let cf = map (content Full) records.tables.content in
        let cl = map (content Flat) records.tables.content in
        let sf = map (snapshot Full) records.tables.snapshots in
        let sl = map (snapshot Flat) records.tables.snapshots in
        let whole : map t (i ++ ((cf ++ cl) ++ (sf ++ sl))) ≡ map t i ++ ((map t cf ++ map t cl) ++ (map t sf ++ map t sl))
        = map-append t i ((cf ++ cl) ++ (sf ++ sl)) ∙ ap (λ l. map t i ++ l) (map-append t (cf ++ cl) (sf ++ sl) ∙ (λ j. map-append t cf cl j ++ map-append t sf sl j)) in
        made
        ∙ (λ j. edged ingest ingests j ++ edged (content Full) contents j ++ edged (content Flat) contents j
        ++ edged (snapshot Full) snaps j ++ edged (snapshot Flat) snaps j)
        ∙ assoc5 (map t i) (map t cf) (map t cl) (map t sf) (map t sl) ∙ sym whole

    abbrev Rooted : Type 0
    Rooted = IsPermutation (flat_map (targets_in book) (filter (is_root profile at) (root_things records)) ++ root_places profile at 0 (node_things records)) graph.roots.items

    -- what the code made is the graph of the store
    pub built : AreApart records → book ≡ nodes_of records → Edged → Rooted → IsBuilt records at book graph
    built apart numbered made rooted_all =
        is_built records at book graph apart numbered (record {
          edges = edges_of_things made;
          roots = rooted_all;
        })
