-- A node's number is the first of its kind and mode, plus the place of its row.
use Rattle.std.proofs.Common.{◌≡◌, ℕ, ◌+◌, ◌*◌, suc, Bool, true, false, cond, List, [], ◌∷◌, ◌++◌, map, length, get_or, refl, sym, ap, ◌∙◌, arith, append_assoc, Option, Some, None}
use Rattle.std.specs.Prelude.{All, ◌&&◌, bytes_eq}
use Rattle.std.specs.List.{position}
use Rattle.std.specs.Option.{option_map}
use Rattle.std.proofs.lemmas.List.{length-map}
use Rattle.row_tables.proofs.FirstPosition.{position_next, skipped, within_first}
use Rattle.meta_types.specs.Text.{Text}
use Rattle.meta_types.specs.Keys.{is_key}
use Rattle.meta_types.specs.Rows.{Records, content_key, ingest_key, snap_key}
use Rattle.meta_types.specs.declared.rows.ContentRow.{ContentRow}
use Rattle.meta_types.specs.declared.rows.IngestRow.{IngestRow}
use Rattle.meta_types.specs.declared.rows.SnapRow.{SnapRow}
use Rattle.meta_types.specs.declared.resource.Mode.{Mode}
use Rattle.meta_types.specs.declared.resource.Mode.TheVariants.{Full, Flat}
use Rattle.meta_types.specs.declared.resource.Resource.TheVariants.{Content, Snapshot, Ingest}
use Rattle.gc_graph.specs.declared.node.Node.{Node}
use Rattle.gc_graph.specs.declared.rows.StoreRows.{StoreRows}
use Rattle.gc_graph.specs.Nodes.{is_node}
use Rattle.gc_graph.specs.Targets.{node, content_node, snapshot_node, ingest_node, nodes_of}
use Rattle.gc_graph.specs.Built.{number_of}
use Rattle.gc_graph.specs.Numbers.{first_content, first_snapshot}
use Rattle.gc_graph.specs.Stored.{records_of, AreLent}
use Rattle.gc_graph.proofs.NodesApart.{All-map, All-append}

-- ---- places in lists that stand one behind the other

position-map : {X Y : Type 0} (p : Y → Bool) (f : X → Y) (xs : List X) → position p (map f xs) ≡ position (λ x. p (f x)) xs
position-map p f [] = refl
position-map p f (x ∷ xs) =
    position_next p (f x) (map f xs) ∙ ap (λ r. cond (p (f x)) (Some 0) (option_map suc r)) (position-map p f xs) ∙ sym (position_next (λ y. p (f y)) x xs)

-- tests that agree find one place
position_alike : {X : Type 0} (p q : X → Bool) → ((x : X) → p x ≡ q x) → (xs : List X) → position p xs ≡ position q xs
position_alike p q alike [] = refl
position_alike p q alike (x ∷ xs) =
    position_next p x xs ∙ (λ i. cond (alike x i) (Some 0) (option_map suc (position_alike p q alike xs i))) ∙ sym (position_next q x xs)

abbrev shift : ℕ → Option ℕ → Option ℕ
shift k r = option_map (λ n. k + n) r

shift_once : (a b : ℕ) (r : Option ℕ) → shift a (shift b r) ≡ shift (a + b) r
shift_once a b None = refl
shift_once a b (Some n) = ap Some (omega arith)

module _ (p : Node → Bool) where
  none_of : {X : Type 0} (f : X → Node) → ((x : X) → p (f x) ≡ false) → (xs : List X) → All (λ n. p n ≡ false) (map f xs)
  none_of f none xs = All-map (λ n. p n ≡ false) f xs (λ i d lt. none (get_or xs i d))

  none_in : (xs ys : List Node) → All (λ n. p n ≡ false) xs → All (λ n. p n ≡ false) ys → All (λ n. p n ≡ false) (xs ++ ys)
  none_in xs ys none more = All-append (λ n. p n ≡ false) xs ys none more

  -- rows of which none passes
  behind : {X : Type 0} (f : X → Node) → ((x : X) → p (f x) ≡ false) → (xs : List X) (ys : List Node) → position p (map f xs ++ ys) ≡ shift (length xs) (position p ys)
  behind f none xs ys = skipped p (map f xs) ys (none_of f none xs) ∙ ap (λ k. shift k (position p ys)) (length-map xs f)

  -- rows behind which none passes
  among : {X : Type 0} (f : X → Node) (q : X → Bool) → ((x : X) → p (f x) ≡ q x) → (xs : List X) (ys : List Node) → All (λ n. p n ≡ false) ys → position p (map f xs ++ ys) ≡ position q xs
  among f q alike xs ys none = within_first p p (map f xs) ys (λ i d lt. refl) none ∙ position-map p f xs ∙ position_alike (λ x. p (f x)) q alike xs

  last : {X : Type 0} (f : X → Node) (q : X → Bool) → ((x : X) → p (f x) ≡ q x) → (xs : List X) → position p (map f xs) ≡ position q xs
  last f q alike xs = position-map p f xs ∙ position_alike (λ x. p (f x)) q alike xs

turned : (name ns : Bool) → (name && ns) ≡ (ns && (name && true))
turned true true = refl
turned true false = refl
turned false true = refl
turned false false = refl

turned_both : (s name ns : Bool) → ((s && name) && ns) ≡ (ns && (s && (name && true)))
turned_both true true true = refl
turned_both true true false = refl
turned_both true false true = refl
turned_both true false false = refl
turned_both false true true = refl
turned_both false true false = refl
turned_both false false true = refl
turned_both false false false = refl

-- ---- the numbers of a store's nodes

module _ (records : Records) (ns : Text) where
  abbrev ingests : List IngestRow
  ingests = records.tables.ingests

  abbrev contents : List ContentRow
  contents = records.tables.content

  abbrev snaps : List SnapRow
  snaps = records.tables.snapshots

  abbrev full_content : List Node
  full_content = map (content_node Full) contents

  abbrev flat_content : List Node
  flat_content = map (content_node Flat) contents

  abbrev full_snaps : List Node
  full_snaps = map (snapshot_node Full) snaps

  abbrev flat_snaps : List Node
  flat_snaps = map (snapshot_node Flat) snaps

  abbrev content_of : Text → ContentRow → Bool
  content_of digest row = is_key (ns ∷ digest ∷ []) (content_key row)

  abbrev snapshot_of : Text → Text → SnapRow → Bool
  snapshot_of snapshotter name row = is_key (ns ∷ snapshotter ∷ name ∷ []) (snap_key row)

  ingest_place : (name : Text) → number_of (nodes_of records) (node ns (Ingest name) Full) ≡ position (λ row. is_key (ns ∷ name ∷ []) (ingest_key row)) ingests
  ingest_place name =
      let p = is_node (node ns (Ingest name) Full) in
      among p ingest_node (λ row. is_key (ns ∷ name ∷ []) (ingest_key row)) (λ row. turned (bytes_eq name row.name) (bytes_eq ns row.ns)) ingests
      ((full_content ++ flat_content) ++ (full_snaps ++ flat_snaps))
      (none_in p (full_content ++ flat_content) (full_snaps ++ flat_snaps)
      (none_in p full_content flat_content (none_of p (content_node Full) (λ row. refl) contents) (none_of p (content_node Flat) (λ row. refl) contents))
      (none_in p full_snaps flat_snaps (none_of p (snapshot_node Full) (λ row. refl) snaps) (none_of p (snapshot_node Flat) (λ row. refl) snaps)))

  -- an ingest has no number in flat
  pub no_flat_ingest : (name : Text) → number_of (nodes_of records) (node ns (Ingest name) Flat) ≡ None
  no_flat_ingest name =
      let p = is_node (node ns (Ingest name) Flat) in
      behind p ingest_node (λ row. refl) ingests ((full_content ++ flat_content) ++ (full_snaps ++ flat_snaps))
      ∙ ap (shift (length ingests)) (ap (position p) (append_assoc full_content flat_content (full_snaps ++ flat_snaps))
      ∙ behind p (content_node Full) (λ row. refl) contents (flat_content ++ (full_snaps ++ flat_snaps))
      ∙ ap (shift (length contents)) (behind p (content_node Flat) (λ row. refl) contents (full_snaps ++ flat_snaps)
      ∙ ap (shift (length contents)) (behind p (snapshot_node Full) (λ row. refl) snaps flat_snaps
      ∙ ap (shift (length snaps)) (last p (snapshot_node Flat) (λ row. false) (λ row. refl) snaps ∙ none_at_all snaps))))
    where
      none_at_all : {X : Type 0} (xs : List X) → position (λ x. false) xs ≡ None
      none_at_all [] = refl
      none_at_all (x ∷ xs) = position_next (λ y. false) x xs ∙ ap (option_map suc) (none_at_all xs)

  content_place : (mode : Mode) (digest : Text) → number_of (nodes_of records) (node ns (Content digest) mode) ≡ shift (first_content mode records) (position (content_of digest) contents)
  content_place Full digest =
      let p = is_node (node ns (Content digest) Full) in
      behind p ingest_node (λ row. refl) ingests ((full_content ++ flat_content) ++ (full_snaps ++ flat_snaps))
      ∙ ap (shift (length ingests)) (ap (position p) (append_assoc full_content flat_content (full_snaps ++ flat_snaps))
      ∙ among p (content_node Full) (content_of digest) (λ row. turned (bytes_eq digest row.digest) (bytes_eq ns row.ns)) contents (flat_content ++ (full_snaps ++ flat_snaps))
      (none_in p flat_content (full_snaps ++ flat_snaps) (none_of p (content_node Flat) (λ row. refl) contents)
      (none_in p full_snaps flat_snaps (none_of p (snapshot_node Full) (λ row. refl) snaps) (none_of p (snapshot_node Flat) (λ row. refl) snaps))))
  content_place Flat digest =
      let p = is_node (node ns (Content digest) Flat) in
      behind p ingest_node (λ row. refl) ingests ((full_content ++ flat_content) ++ (full_snaps ++ flat_snaps))
      ∙ ap (shift (length ingests)) (ap (position p) (append_assoc full_content flat_content (full_snaps ++ flat_snaps))
      ∙ behind p (content_node Full) (λ row. refl) contents (flat_content ++ (full_snaps ++ flat_snaps))
      ∙ ap (shift (length contents)) (among p (content_node Flat) (content_of digest) (λ row. turned (bytes_eq digest row.digest) (bytes_eq ns row.ns)) contents (full_snaps ++ flat_snaps)
      (none_in p full_snaps flat_snaps (none_of p (snapshot_node Full) (λ row. refl) snaps) (none_of p (snapshot_node Flat) (λ row. refl) snaps))))
      ∙ shift_once (length ingests) (length contents) (position (content_of digest) contents)

  -- snapshots stand behind content in both modes
  past_content : (p : Node → Bool) → ((row : IngestRow) → p (ingest_node row) ≡ false) → ((row : ContentRow) → p (content_node Full row) ≡ false) → ((row : ContentRow) → p (content_node Flat row) ≡ false)
      → position p (nodes_of records) ≡ shift (length ingests + 2 * length contents) (position p (full_snaps ++ flat_snaps))
  past_content p no_ingest no_full no_flat =
      let rest = position p (full_snaps ++ flat_snaps) in
      behind p ingest_node no_ingest ingests ((full_content ++ flat_content) ++ (full_snaps ++ flat_snaps))
      ∙ ap (shift (length ingests)) (ap (position p) (append_assoc full_content flat_content (full_snaps ++ flat_snaps))
      ∙ behind p (content_node Full) no_full contents (flat_content ++ (full_snaps ++ flat_snaps))
      ∙ ap (shift (length contents)) (behind p (content_node Flat) no_flat contents (full_snaps ++ flat_snaps))
      ∙ shift_once (length contents) (length contents) rest)
      ∙ shift_once (length ingests) (length contents + length contents) rest
      ∙ ap (λ k. shift k rest) (omega arith)

  snapshot_place : (mode : Mode) (snapshotter name : Text) → number_of (nodes_of records) (node ns (Snapshot snapshotter name) mode) ≡ shift (first_snapshot mode records) (position (snapshot_of snapshotter name) snaps)
  snapshot_place Full snapshotter name =
      let p = is_node (node ns (Snapshot snapshotter name) Full) in
      past_content p (λ row. refl) (λ row. refl) (λ row. refl)
      ∙ ap (shift (length ingests + 2 * length contents)) (among p (snapshot_node Full) (snapshot_of snapshotter name)
      (λ row. turned_both (bytes_eq snapshotter row.key.snapshotter) (bytes_eq name row.key.name) (bytes_eq ns row.key.ns)) snaps flat_snaps (none_of p (snapshot_node Flat) (λ row. refl) snaps))
  snapshot_place Flat snapshotter name =
      let p = is_node (node ns (Snapshot snapshotter name) Flat) in
      past_content p (λ row. refl) (λ row. refl) (λ row. refl)
      ∙ ap (shift (length ingests + 2 * length contents)) (behind p (snapshot_node Full) (λ row. refl) snaps flat_snaps
      ∙ ap (shift (length snaps)) (last p (snapshot_node Flat) (snapshot_of snapshotter name)
      (λ row. turned_both (bytes_eq snapshotter row.key.snapshotter) (bytes_eq name row.key.name) (bytes_eq ns row.key.ns)) snaps))
      ∙ shift_once (length ingests + 2 * length contents) (length snaps) (position (snapshot_of snapshotter name) snaps)

-- ---- what the tables that are lent find

module _ (rows : StoreRows) (lent : AreLent rows) (ns : Text) where
  pub ingest_found : (name : Text) (r : Option ℕ) → r ≡ position (λ row. is_key (ns ∷ name ∷ []) (ingest_key row)) rows.places.ingests.now
      → r ≡ number_of (nodes_of (records_of rows)) (node ns (Ingest name) Full)
  ingest_found name r is = is ∙ ap (position (λ row. is_key (ns ∷ name ∷ []) (ingest_key row))) lent.ingests ∙ sym (ingest_place (records_of rows) ns name)

  pub content_found : (mode : Mode) (digest : Text) (first : ℕ) (r : Option ℕ) → first ≡ first_content mode (records_of rows)
      → r ≡ position (λ row. is_key (ns ∷ digest ∷ []) (content_key row)) rows.places.content.now
      → option_map (λ n. first + n) r ≡ number_of (nodes_of (records_of rows)) (node ns (Content digest) mode)
  content_found mode digest first r at is =
      (λ i. shift (at i) (is i))
      ∙ ap (λ rs. shift (first_content mode (records_of rows)) (position (λ row. is_key (ns ∷ digest ∷ []) (content_key row)) rs)) lent.content
      ∙ sym (content_place (records_of rows) ns mode digest)

  pub snapshot_found : (mode : Mode) (snapshotter name : Text) (first : ℕ) (r : Option ℕ) → first ≡ first_snapshot mode (records_of rows)
      → r ≡ position (λ row. is_key (ns ∷ snapshotter ∷ name ∷ []) (snap_key row)) rows.places.snapshots.now
      → option_map (λ n. first + n) r ≡ number_of (nodes_of (records_of rows)) (node ns (Snapshot snapshotter name) mode)
  snapshot_found mode snapshotter name first r at is =
      (λ i. shift (at i) (is i))
      ∙ ap (λ rs. shift (first_snapshot mode (records_of rows)) (position (λ row. is_key (ns ∷ snapshotter ∷ name ∷ []) (snap_key row)) rs)) lent.snapshots
      ∙ sym (snapshot_place (records_of rows) ns mode snapshotter name)
