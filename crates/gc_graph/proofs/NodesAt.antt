-- The node at a place is that of the row there; and the texts of all nodes are allowed.
use Rattle.std.proofs.Common.{◌≡◌, ℕ, ◌+◌, ◌<◌, zero, suc, List, [], ◌∷◌, ◌++◌, map, length, get_or, take, refl, sym, ap, ◌∙◌, arith, subst, Bor, Option, Some, None}
use Rattle.std.specs.Prelude.{All, IsTrue}
use Rattle.std.specs.List.{slice_get}
use Rattle.std.specs.Option.{option_map, option_copied}
use Rattle.std.proofs.lemmas.Option.{slice_get-map}
use Rattle.std.proofs.lemmas.Bool.{and_from}
use Rattle.meta_types.specs.Text.{is_digest, is_short_name, is_name}
use Rattle.meta_types.specs.declared.rows.SnapRow.{SnapRow}
use Rattle.meta_types.specs.declared.resource.Mode.TheVariants.{Full, Flat}
use Rattle.gc_graph.specs.declared.node.Node.{Node}
use Rattle.gc_graph.specs.declared.rows.StoreRows.{StoreRows}
use Rattle.gc_graph.specs.Nodes.{is_allowed, AreAllowed}
use Rattle.gc_graph.specs.Targets.{content_node, snapshot_node, ingest_node, nodes_in_both, nodes_of}
use Rattle.gc_graph.specs.Stored.{records_of}
use Rattle.gc_graph.proofs.BookNumbers.{take_next}
use Rattle.gc_graph.proofs.NodesApart.{All-map, All-append}

-- ---- places

-- the node that is made from a row that is lent
pub node_there : {X : Type 0} (f : X → Node) (rows : List X) (n : ℕ) (lent : Option (Bor X)) (row : Bor X) (node : Node) → lent ≡ Some row → option_copied lent ≡ slice_get rows n → node ≡ f row.now → Some node ≡ slice_get (map f rows) n
node_there f rows n lent row node here copied made =
    ap Some made ∙ ap (λ o. option_map f (option_copied o)) (sym here) ∙ ap (option_map f) copied ∙ sym (slice_get-map f rows n)

-- and no row is lent
pub none_there : {X : Type 0} (f : X → Node) (rows : List X) (n : ℕ) (lent : Option (Bor X)) → lent ≡ None → option_copied lent ≡ slice_get rows n → None ≡ slice_get (map f rows) n
none_there f rows n lent here copied =
    ap (λ o. option_map f (option_copied o)) (sym here) ∙ ap (option_map f) copied ∙ sym (slice_get-map f rows n)

-- ---- allowed texts

-- what holds of the rows so far holds of one more
pub told_next : {X : Type 0} (P : X → Type 0) (xs : List X) (i : ℕ) (x : X) → i < length xs → x ≡ get_or xs i x → P x → All P (take i xs) → All P (take (i + 1) xs)
told_next P xs i x lt is here told = subst (All P) (sym (take_next xs i x lt is)) (All-append P (take i xs) (x ∷ []) told only)
  where
    only : All P (x ∷ [])
    only zero d lt = here
    only (suc i) d lt = absurd (omega arith)

module _ (rows : StoreRows) (ingest_names : All (λ row. IsTrue (is_name row.name)) rows.ingests.now) (digests : All (λ row. IsTrue (is_digest row.digest)) rows.content.now)
    (snapshotters : All (λ row. IsTrue (is_short_name row.key.snapshotter)) rows.snapshots.now) (names : All (λ row. IsTrue (is_name row.key.name)) rows.snapshots.now) where
  abbrev Allowed : Node → Type 0
  Allowed n = IsTrue (is_allowed n.resource)

  both : {X : Type 0} (full flat : X → Node) (xs : List X) → All (λ x. Allowed (full x)) xs → All (λ x. Allowed (flat x)) xs → AreAllowed (map full xs ++ map flat xs)
  both full flat xs a b = All-append Allowed (map full xs) (map flat xs) (All-map Allowed full xs a) (All-map Allowed flat xs b)

  pub are_allowed : AreAllowed (nodes_of (records_of rows))
  are_allowed =
      let records = records_of rows in
      let snaps_there : All (λ (row : SnapRow). IsTrue (is_allowed (snapshot_node Full row).resource)) records.tables.snapshots
      = λ i d lt. and_from (is_short_name (get_or rows.snapshots.now i d).key.snapshotter) (is_name (get_or rows.snapshots.now i d).key.name) (snapshotters i d lt) (names i d lt) in
      All-append Allowed (map ingest_node records.tables.ingests) (nodes_in_both content_node records.tables.content ++ nodes_in_both snapshot_node records.tables.snapshots)
      (All-map Allowed ingest_node records.tables.ingests ingest_names)
      (All-append Allowed (nodes_in_both content_node records.tables.content) (nodes_in_both snapshot_node records.tables.snapshots)
      (both (content_node Full) (content_node Flat) records.tables.content digests digests)
      (both (snapshot_node Full) (snapshot_node Flat) records.tables.snapshots snaps_there snaps_there))
