-- Rows in the order of their keys have nodes of their own.
use Rattle.std.proofs.Common.{◌≡◌, ◌≢◌, ℕ, zero, suc, List, [], ◌∷◌, ◌++◌, map, get_or, refl, sym, ap, ◌∙◌, arith}
use Rattle.std.specs.Prelude.{All, AllPairs}
use Rattle.std.proofs.lemmas.List.Kept.{AllPairs-cons}
use Rattle.meta_types.specs.Keys.{Key}
use Rattle.meta_types.specs.Rows.{content_key, ingest_key, snap_key}
use Rattle.meta_types.specs.Rows.{Records}
use Rattle.meta_types.specs.declared.rows.ContentRow.{ContentRow}
use Rattle.meta_types.specs.declared.rows.IngestRow.{IngestRow}
use Rattle.meta_types.specs.declared.rows.SnapRow.{SnapRow}
use Rattle.meta_types.specs.declared.resource.Mode.{Mode}
use Rattle.meta_types.specs.declared.resource.Mode.TheVariants.{Full, Flat}
use Rattle.meta_types.specs.declared.resource.Resource.{Resource}
use Rattle.meta_types.specs.declared.resource.Resource.TheVariants.{Content, Snapshot, Ingest}
use Rattle.gc_graph.specs.declared.node.Node.{Node}
use Rattle.gc_graph.specs.Targets.{content_node, snapshot_node, ingest_node, nodes_in_both, nodes_of}
use Rattle.gc_graph.specs.Built.{AreApart}

-- ---- lists of pairs

-- if P holds of what f makes of each item, P holds of each item of the mapped list
pub All-map : {X Y : Type 0} (P : Y → Type 0) (f : X → Y) (xs : List X) → All (λ x. P (f x)) xs → All P (map f xs)
All-map P f [] h i d lt = absurd (omega arith)
All-map P f (x ∷ xs) h zero d lt = h zero x (omega arith)
All-map P f (x ∷ xs) h (suc i) d lt = All-map P f xs (λ j e below. h (suc j) e (omega arith)) i d (omega arith)

-- what holds of each item of two lists holds of each item of the joined list
pub All-append : {X : Type 0} (P : X → Type 0) (xs ys : List X) → All P xs → All P ys → All P (xs ++ ys)
All-append P [] ys h k i d lt = k i d lt
All-append P (x ∷ xs) ys h k zero d lt = h zero d (omega arith)
All-append P (x ∷ xs) ys h k (suc i) d lt = All-append P xs ys (λ j e below. h (suc j) e (omega arith)) k i d (omega arith)

module _ {X Y : Type 0} (R : X → X → Type 0) (S : Y → Y → Type 0) (f : X → Y) (step : (a b : X) → R a b → S (f a) (f b)) where
  AllPairs-map : (xs : List X) → AllPairs R xs → AllPairs S (map f xs)
  AllPairs-map [] h i j d lt within = absurd (omega arith)
  AllPairs-map (x ∷ xs) h i j d lt within =
      AllPairs-cons S (f x) (map f xs) (All-map (S (f x)) f xs (λ j e below. step x (get_or xs j e) (h 0 (suc j) e (omega arith) (omega arith))))
      (AllPairs-map xs (λ i j e lt within. h (suc i) (suc j) e (omega arith) (omega arith))) i j d lt within

AllPairs-append : {X : Type 0} (R : X → X → Type 0) (xs ys : List X) → AllPairs R xs → AllPairs R ys → All (λ x. All (R x) ys) xs → AllPairs R (xs ++ ys)
AllPairs-append R [] ys h k cross = k
AllPairs-append R (x ∷ xs) ys h k cross =
    AllPairs-cons R x (xs ++ ys) (All-append (R x) xs ys (λ j e below. h 0 (suc j) e (omega arith) (omega arith)) (cross 0 x (omega arith)))
    (AllPairs-append R xs ys (λ i j e lt within. h (suc i) (suc j) e (omega arith) (omega arith)) k (λ j e below. cross (suc j) e (omega arith)))

-- ---- nodes

abbrev Differ : List Node → List Node → Type 0
Differ xs ys = All (λ x. All (λ y. x ≢ y) ys) xs

differ-map : {X Y : Type 0} (f : X → Node) (g : Y → Node) → ((a : X) (b : Y) → f a ≢ g b) → (xs : List X) (ys : List Y) → Differ (map f xs) (map g ys)
differ-map f g h xs ys = All-map (λ x. All (λ y. x ≢ y) (map g ys)) f xs (λ i d lt. All-map (λ y. f (get_or xs i d) ≢ y) g ys (λ j e below. h (get_or xs i d) (get_or ys j e)))

differ-right : (xs ys zs : List Node) → Differ xs ys → Differ xs zs → Differ xs (ys ++ zs)
differ-right xs ys zs h k i d lt = All-append (λ y. get_or xs i d ≢ y) ys zs (h i d lt) (k i d lt)

differ-left : (xs ys zs : List Node) → Differ xs zs → Differ ys zs → Differ (xs ++ ys) zs
differ-left xs ys zs h k = All-append (λ x. All (λ y. x ≢ y) zs) xs ys h k

abbrev resource_key : Resource → Key
resource_key (Content digest) = digest ∷ []
resource_key (Snapshot s name) = s ∷ name ∷ []
resource_key (Ingest name) = name ∷ []

abbrev node_key : Node → Key
node_key n = n.ns ∷ resource_key n.resource

apart_by_key : (a b : Node) → node_key a ≢ node_key b → a ≢ b
apart_by_key a b h e = h (ap node_key e)

module _ {Row : Type 0} (key_of : Row → Key) (node : Row → Node) (same : (row : Row) → node_key (node row) ≡ key_of row) where
  apart_in_mode : (rows : List Row) → AllPairs (λ a b. key_of a ≢ key_of b) rows → AllPairs (λ a b. a ≢ b) (map node rows)
  apart_in_mode rows o =
      AllPairs-map (λ a b. key_of a ≢ key_of b) (λ a b. a ≢ b) node
      (λ a b h. apart_by_key (node a) (node b) (λ e. h (sym (same a) ∙ e ∙ same b))) rows o

modes_differ : (a b : Node) → a.mode ≡ Full → b.mode ≡ Flat → a ≢ b
modes_differ a b f t e = let m : Full ≡ Flat = sym f ∙ ap (λ (n : Node). n.mode) e ∙ t in absurd cc

-- which kind of resource it is
abbrev kind_of : Resource → ℕ
kind_of (Content digest) = 0
kind_of (Snapshot s name) = 1
kind_of (Ingest name) = 2

kinds_differ : (a b : Node) → kind_of a.resource ≢ kind_of b.resource → a ≢ b
kinds_differ a b h e = h (ap (λ (n : Node). kind_of n.resource) e)

-- no node of a store stands twice
module _ (records : Records) (apart : AreApart records) where
  abbrev content_rows : List ContentRow
  content_rows = records.tables.content

  abbrev snapshot_rows : List SnapRow
  snapshot_rows = records.tables.snapshots

  abbrev ingest_rows : List IngestRow
  ingest_rows = records.tables.ingests

  content_apart : AllPairs (λ a b. a ≢ b) (nodes_in_both content_node content_rows)
  content_apart = AllPairs-append (λ a b. a ≢ b) (map (content_node Full) content_rows) (map (content_node Flat) content_rows)
      (apart_in_mode content_key (content_node Full) (λ row. refl) content_rows apart.content) (apart_in_mode content_key (content_node Flat) (λ row. refl) content_rows apart.content)
      (differ-map (content_node Full) (content_node Flat) (λ a b. modes_differ (content_node Full a) (content_node Flat b) refl refl) content_rows content_rows)

  snapshots_apart : AllPairs (λ a b. a ≢ b) (nodes_in_both snapshot_node snapshot_rows)
  snapshots_apart = AllPairs-append (λ a b. a ≢ b) (map (snapshot_node Full) snapshot_rows) (map (snapshot_node Flat) snapshot_rows)
      (apart_in_mode snap_key (snapshot_node Full) (λ row. refl) snapshot_rows apart.snapshots) (apart_in_mode snap_key (snapshot_node Flat) (λ row. refl) snapshot_rows apart.snapshots)
      (differ-map (snapshot_node Full) (snapshot_node Flat) (λ a b. modes_differ (snapshot_node Full a) (snapshot_node Flat b) refl refl) snapshot_rows snapshot_rows)

  -- rows of two kinds
  kinds_apart : {X Y : Type 0} (f : X → Node) (g : Mode → Y → Node) → ((a : X) (m : Mode) (b : Y) → kind_of (f a).resource ≢ kind_of (g m b).resource) → (xs : List X) (ys : List Y) → Differ (map f xs) (nodes_in_both g ys)
  kinds_apart f g h xs ys = differ-right (map f xs) (map (g Full) ys) (map (g Flat) ys)
      (differ-map f (g Full) (λ a b. kinds_differ (f a) (g Full b) (h a Full b)) xs ys) (differ-map f (g Flat) (λ a b. kinds_differ (f a) (g Flat b) (h a Flat b)) xs ys)

  content_and_snapshots : Differ (nodes_in_both content_node content_rows) (nodes_in_both snapshot_node snapshot_rows)
  content_and_snapshots = differ-left (map (content_node Full) content_rows) (map (content_node Flat) content_rows) (nodes_in_both snapshot_node snapshot_rows)
      (kinds_apart (content_node Full) snapshot_node (λ a m b. λ e. absurd (omega (arith, e))) content_rows snapshot_rows) (kinds_apart (content_node Flat) snapshot_node (λ a m b. λ e. absurd (omega (arith, e))) content_rows snapshot_rows)

  pub nodes_apart : AllPairs (λ a b. a ≢ b) (nodes_of records)
  nodes_apart =
      AllPairs-append (λ a b. a ≢ b) (map ingest_node ingest_rows) (nodes_in_both content_node content_rows ++ nodes_in_both snapshot_node snapshot_rows)
      (apart_in_mode ingest_key ingest_node (λ row. refl) ingest_rows apart.ingests)
      (AllPairs-append (λ a b. a ≢ b) (nodes_in_both content_node content_rows) (nodes_in_both snapshot_node snapshot_rows) content_apart snapshots_apart content_and_snapshots)
      (differ-right (map ingest_node ingest_rows) (nodes_in_both content_node content_rows) (nodes_in_both snapshot_node snapshot_rows)
      (kinds_apart ingest_node content_node (λ a m b. λ e. absurd (omega (arith, e))) ingest_rows content_rows)
      (kinds_apart ingest_node snapshot_node (λ a m b. λ e. absurd (omega (arith, e))) ingest_rows snapshot_rows))
