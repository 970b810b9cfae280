-- What a row's targets say is what its edges say.
use Rattle.std.proofs.Common.{◌≡◌, Bool, true, false, List, [], ◌∷◌, ◌++◌, refl, sym, ap, ◌∙◌}
use Rattle.std.specs.Prelude.{◌||◌, ◌&&◌, Option, Some, None, is_some, bytes_eq}
use Rattle.std.specs.List.{list_any}
use Rattle.std.specs.Option.{option_map_or}
use Rattle.std.proofs.lemmas.List.Folds.{list_any-append}
use Rattle.meta_types.specs.Text.{Text}
use Rattle.meta_types.specs.Labels.{LabelList}
use Rattle.meta_types.specs.CollectorLabels.{is_content_key, snapshotter_in, references_content, references_snapshot}
use Rattle.meta_types.specs.Paths.{Thing, image, container, lease, ingest, content, snapshot, has_edge, references, namespace_of, is_label_ref, is_content, is_snapshot, is_ingest, is_resource, is_parent, lease_mode, is_same_mode}
use Rattle.meta_types.specs.declared.rows.ContentRow.{ContentRow}
use Rattle.meta_types.specs.declared.rows.SnapRow.{SnapRow}
use Rattle.meta_types.specs.declared.resource.Mode.{Mode}
use Rattle.meta_types.specs.declared.resource.Mode.TheVariants.{Full, Flat}
use Rattle.meta_types.specs.declared.resource.Resource.{Resource}
use Rattle.meta_types.specs.declared.resource.Resource.TheVariants.{Content, Snapshot, Ingest}
use Rattle.gc_graph.specs.declared.node.Node.{Node}
use Rattle.gc_graph.specs.Nodes.{is_node}
use Rattle.gc_graph.specs.Targets.{node, content_node, snapshot_node, ingest_node, node_of, content_target, snapshot_target, label_targets, parent_target, resource_mode, resource_targets, targets_of}
use Rattle.gc_graph.proofs.Truths.{bytes_flip, and_none, or_none, and_flip, and_group, spread, more_content, more_snapshot, one_any, option_any, none_of_option, named_option}

-- the node of a thing, where it has one
abbrev pub name_of : Thing → Node
name_of (image row) = node row.ns (Ingest []) Full
name_of (container row) = node row.ns (Ingest []) Full
name_of (lease row) = node row.ns (Ingest []) Full
name_of (ingest row) = ingest_node row
name_of (content mode row) = content_node mode row
name_of (snapshot mode row) = snapshot_node mode row

-- ---- labels

one_label : (p : Node → Bool) (ns : Text) (label : Text × Text) (labels : LabelList)
    → list_any p (label_targets ns (label ∷ labels)) ≡ (((is_content_key label.0 && p (node ns (Content label.1) Full)) || option_map_or (λ s. p (node ns (Snapshot s label.1) Full)) (snapshotter_in label.0) false) || list_any p (label_targets ns labels))
one_label p ns label labels =
    list_any-append p (content_target ns label ++ snapshot_target ns label) (label_targets ns labels)
    ∙ ap (λ b. b || list_any p (label_targets ns labels)) (list_any-append p (content_target ns label) (snapshot_target ns label)
    ∙ (λ i. one_any p (is_content_key label.0) (node ns (Content label.1) Full) i || option_any p (λ s. node ns (Snapshot s label.1) Full) (snapshotter_in label.0) i))

module _ (ns : Text) where
  labels_content : (row : ContentRow) (labels : LabelList) → list_any (λ t. is_node t (content_node Full row)) (label_targets ns labels) ≡ (bytes_eq ns row.ns && references_content labels row.digest)
  labels_content row [] = sym (and_none (bytes_eq ns row.ns))
  labels_content row (label ∷ labels) =
      one_label (λ t. is_node t (content_node Full row)) ns label labels
      ∙ (λ i. ((is_content_key label.0 && (bytes_eq label.1 row.digest && bytes_eq ns row.ns)) || none_of_option (snapshotter_in label.0) i) || labels_content row labels i)
      ∙ more_content (is_content_key label.0) (bytes_eq label.1 row.digest) (bytes_eq ns row.ns) (references_content labels row.digest)

  labels_snapshot : (row : SnapRow) (labels : LabelList) → list_any (λ t. is_node t (snapshot_node Full row)) (label_targets ns labels) ≡ (bytes_eq ns row.key.ns && references_snapshot labels row.key.snapshotter row.key.name)
  labels_snapshot row [] = sym (and_none (bytes_eq ns row.key.ns))
  labels_snapshot row (label ∷ labels) =
      one_label (λ t. is_node t (snapshot_node Full row)) ns label labels
      ∙ (λ i. ((is_content_key label.0 && false) || named_option (snapshotter_in label.0) row.key.snapshotter (bytes_eq label.1 row.key.name) (bytes_eq ns row.key.ns) i) || labels_snapshot row labels i)
      ∙ more_snapshot (is_content_key label.0) (option_map_or (λ s. bytes_eq s row.key.snapshotter) (snapshotter_in label.0) false && bytes_eq label.1 row.key.name) (bytes_eq ns row.key.ns) (references_snapshot labels row.key.snapshotter row.key.name)

  -- no label references an ingest, or anything in flat
  labels_none : (n : Node) → ((t : Text) → is_node (node ns (Content t) Full) n ≡ false) → ((s t : Text) → is_node (node ns (Snapshot s t) Full) n ≡ false) → (labels : LabelList) → list_any (λ t. is_node t n) (label_targets ns labels) ≡ false
  labels_none n no_content no_snapshot [] = refl
  labels_none n no_content no_snapshot (label ∷ labels) =
      one_label (λ t. is_node t n) ns label labels
      ∙ (λ i. ((is_content_key label.0 && no_content label.1 i) || option_map_or (λ s. no_snapshot s label.1 i) (snapshotter_in label.0) false) || labels_none n no_content no_snapshot labels i)
      ∙ (λ i. (and_none (is_content_key label.0) i || none_of_option (snapshotter_in label.0) i) || false)

  -- what labels reference
  labels_say : (labels : LabelList) (b : Thing) → is_some (node_of b) ≡ true → list_any (λ t. is_node t (name_of b)) (label_targets ns labels) ≡ (bytes_eq ns (namespace_of b) && is_label_ref labels b)
  labels_say labels (image row) e = absurd cc
  labels_say labels (container row) e = absurd cc
  labels_say labels (lease row) e = absurd cc
  labels_say labels (ingest row) e = labels_none (ingest_node row) (λ t. refl) (λ s t. refl) labels ∙ sym (and_none (bytes_eq ns row.ns))
  labels_say labels (content Full row) e = labels_content row labels
  labels_say labels (content Flat row) e = labels_none (content_node Flat row) (λ t. refl) (λ s t. refl) labels ∙ sym (and_none (bytes_eq ns row.ns))
  labels_say labels (snapshot Full row) e = labels_snapshot row labels
  labels_say labels (snapshot Flat row) e = labels_none (snapshot_node Flat row) (λ t. refl) (λ s t. refl) labels ∙ sym (and_none (bytes_eq ns row.key.ns))

  -- ---- one target

  module _ (b : Thing) (e : is_some (node_of b) ≡ true) where
    content_says : (digest : Text) (mode : Mode) → is_node (node ns (Content digest) mode) (name_of b) ≡ (is_content digest mode b && bytes_eq ns (namespace_of b))
    content_says digest mode = go b e
      where
        go : (b : Thing) → is_some (node_of b) ≡ true → is_node (node ns (Content digest) mode) (name_of b) ≡ (is_content digest mode b && bytes_eq ns (namespace_of b))
        go (image row) e = absurd cc
        go (container row) e = absurd cc
        go (lease row) e = absurd cc
        go (ingest row) e = ap (λ x. x && bytes_eq ns row.ns) (and_none (is_same_mode mode Full))
        go (content m row) e = ap (λ x. is_same_mode mode m && x && bytes_eq ns row.ns) (bytes_flip digest row.digest)
        go (snapshot m row) e = ap (λ x. x && bytes_eq ns row.key.ns) (and_none (is_same_mode mode m))

    snapshot_says : (s name : Text) (mode : Mode) → is_node (node ns (Snapshot s name) mode) (name_of b) ≡ (is_snapshot s name mode b && bytes_eq ns (namespace_of b))
    snapshot_says s name mode = go b e
      where
        go : (b : Thing) → is_some (node_of b) ≡ true → is_node (node ns (Snapshot s name) mode) (name_of b) ≡ (is_snapshot s name mode b && bytes_eq ns (namespace_of b))
        go (image row) e = absurd cc
        go (container row) e = absurd cc
        go (lease row) e = absurd cc
        go (ingest row) e = ap (λ x. x && bytes_eq ns row.ns) (and_none (is_same_mode mode Full))
        go (content m row) e = ap (λ x. x && bytes_eq ns row.ns) (and_none (is_same_mode mode m))
        go (snapshot m row) e = (λ i. is_same_mode mode m && (bytes_flip s row.key.snapshotter i && bytes_flip name row.key.name i) && bytes_eq ns row.key.ns)
            ∙ ap (λ x. x && bytes_eq ns row.key.ns) (and_group (is_same_mode mode m) (bytes_eq row.key.snapshotter s) (bytes_eq row.key.name name))

    ingest_says : (name : Text) → is_node (node ns (Ingest name) Full) (name_of b) ≡ (is_ingest name b && bytes_eq ns (namespace_of b))
    ingest_says name = go b e
      where
        go : (b : Thing) → is_some (node_of b) ≡ true → is_node (node ns (Ingest name) Full) (name_of b) ≡ (is_ingest name b && bytes_eq ns (namespace_of b))
        go (image row) e = absurd cc
        go (container row) e = absurd cc
        go (lease row) e = absurd cc
        go (ingest row) e = ap (λ x. x && bytes_eq ns row.ns) (bytes_flip name row.name)
        go (content m row) e = ap (λ x. x && bytes_eq ns row.ns) (and_none (is_same_mode Full m))
        go (snapshot m row) e = ap (λ x. x && bytes_eq ns row.key.ns) (and_none (is_same_mode Full m))

    resource_says : (mode : Mode) (r : Resource) → is_node (node ns r (resource_mode mode r)) (name_of b) ≡ (is_resource r mode b && bytes_eq ns (namespace_of b))
    resource_says mode (Content digest) = content_says digest mode
    resource_says mode (Snapshot s name) = snapshot_says s name mode
    resource_says mode (Ingest name) = ingest_says name

    resources_say : (mode : Mode) (rs : List Resource) → list_any (λ t. is_node t (name_of b)) (resource_targets ns mode rs) ≡ (bytes_eq ns (namespace_of b) && list_any (λ r. is_resource r mode b) rs)
    resources_say mode [] = sym (and_none (bytes_eq ns (namespace_of b)))
    resources_say mode (r ∷ rs) = (λ i. resource_says mode r i || resources_say mode rs i) ∙ sym (spread (bytes_eq ns (namespace_of b)) (is_resource r mode b) (list_any (λ r. is_resource r mode b) rs))

    option_says : {X : Type 0} (f : X → Node) (p : X → Bool) → ((x : X) → is_node (f x) (name_of b) ≡ (p x && bytes_eq ns (namespace_of b))) → (o : Option X)
        → list_any (λ t. is_node t (name_of b)) (option_map_or (λ x. f x ∷ []) o []) ≡ (option_map_or p o false && bytes_eq ns (namespace_of b))
    option_says f p h None = refl
    option_says f p h (Some x) = or_none (is_node (f x) (name_of b)) ∙ h x

parent_says : (row : SnapRow) (b : Thing) → is_some (node_of b) ≡ true → (mode : Mode) → list_any (λ t. is_node t (name_of b)) (parent_target mode row) ≡ (is_parent row mode b && bytes_eq row.key.ns (namespace_of b))
parent_says row b e mode = option_says row.key.ns b e (λ name. node row.key.ns (Snapshot row.key.snapshotter name) mode) (λ name. is_snapshot row.key.snapshotter name mode b) (λ name. snapshot_says row.key.ns b e row.key.snapshotter name mode) row.parent

-- a row's targets name just the things that it has an edge to
pub edge_says : (a b : Thing) → is_some (node_of b) ≡ true → has_edge a b ≡ list_any (λ t. is_node t (name_of b)) (targets_of a)
edge_says (image row) b e =
    spread (bytes_eq row.ns (namespace_of b)) (is_content row.target Full b) (is_label_ref row.labels b)
    ∙ (λ i. sym (content_says row.ns b e row.target Full) i || sym (labels_say row.ns row.labels b e) i)
edge_says (container row) b e =
    spread (bytes_eq row.ns (namespace_of b)) (option_map_or (λ key. is_snapshot key.0 key.1 Full b) row.snapshot false) (is_label_ref row.labels b)
    ∙ (λ i. sym (option_says row.ns b e (λ key. node row.ns (Snapshot key.0 key.1) Full) (λ key. is_snapshot key.0 key.1 Full b) (λ key. snapshot_says row.ns b e key.0 key.1 Full) row.snapshot) i || sym (labels_say row.ns row.labels b e) i)
    ∙ sym (list_any-append (λ t. is_node t (name_of b)) (option_map_or (λ key. node row.ns (Snapshot key.0 key.1) Full ∷ []) row.snapshot []) (label_targets row.ns row.labels))
edge_says (lease row) b e = sym (resources_say row.ns b e (lease_mode row) row.resources)
edge_says (ingest row) b e =
    and_flip (bytes_eq row.ns (namespace_of b)) (option_map_or (λ digest. is_content digest Full b) row.expected false)
    ∙ sym (option_says row.ns b e (λ digest. node row.ns (Content digest) Full) (λ digest. is_content digest Full b) (λ digest. content_says row.ns b e digest Full) row.expected)
edge_says (content Full row) b e = sym (labels_say row.ns row.labels b e)
edge_says (content Flat row) b e = and_none (bytes_eq row.ns (namespace_of b))
edge_says (snapshot Full row) b e =
    spread (bytes_eq row.key.ns (namespace_of b)) (is_parent row Full b) (is_label_ref row.labels b)
    ∙ (λ i. sym (parent_says row b e Full) i || sym (labels_say row.key.ns row.labels b e) i)
    ∙ sym (list_any-append (λ t. is_node t (name_of b)) (parent_target Full row) (label_targets row.key.ns row.labels))
edge_says (snapshot Flat row) b e = and_flip (bytes_eq row.key.ns (namespace_of b)) (is_parent row Flat b) ∙ sym (parent_says row b e Flat)

-- nothing references what has no node
module _ (b : Thing) (no_content : (digest : Text) (mode : Mode) → is_content digest mode b ≡ false) (no_snapshot : (s name : Text) (mode : Mode) → is_snapshot s name mode b ≡ false)
    (no_ingest : (name : Text) → is_ingest name b ≡ false) (no_label : (labels : LabelList) → is_label_ref labels b ≡ false) where
  no_resource : (mode : Mode) (r : Resource) → is_resource r mode b ≡ false
  no_resource mode (Content digest) = no_content digest mode
  no_resource mode (Snapshot s name) = no_snapshot s name mode
  no_resource mode (Ingest name) = no_ingest name

  no_resources : (mode : Mode) (rs : List Resource) → list_any (λ r. is_resource r mode b) rs ≡ false
  no_resources mode [] = refl
  no_resources mode (r ∷ rs) = λ i. no_resource mode r i || no_resources mode rs i

  no_option : {X : Type 0} (p : X → Bool) → ((x : X) → p x ≡ false) → (o : Option X) → option_map_or p o false ≡ false
  no_option p h None = refl
  no_option p h (Some x) = h x

  no_reference : (a : Thing) → references a b ≡ false
  no_reference (image row) = λ i. no_content row.target Full i || no_label row.labels i
  no_reference (container row) = λ i. no_option (λ key. is_snapshot key.0 key.1 Full b) (λ key. no_snapshot key.0 key.1 Full) row.snapshot i || no_label row.labels i
  no_reference (lease row) = no_resources (lease_mode row) row.resources
  no_reference (ingest row) = no_option (λ digest. is_content digest Full b) (λ digest. no_content digest Full) row.expected
  no_reference (content Full row) = no_label row.labels
  no_reference (content Flat row) = refl
  no_reference (snapshot Full row) = λ i. no_option (λ name. is_snapshot row.key.snapshotter name Full b) (λ name. no_snapshot row.key.snapshotter name Full) row.parent i || no_label row.labels i
  no_reference (snapshot Flat row) = no_option (λ name. is_snapshot row.key.snapshotter name Flat b) (λ name. no_snapshot row.key.snapshotter name Flat) row.parent

-- nothing references a thing that has no node
pub no_edge : (a b : Thing) → is_some (node_of b) ≡ false → has_edge a b ≡ false
no_edge a (image row) e = (λ i. bytes_eq (namespace_of a) row.ns && no_reference (image row) (λ d m. refl) (λ s n m. refl) (λ n. refl) (λ l. refl) a i) ∙ and_none (bytes_eq (namespace_of a) row.ns)
no_edge a (container row) e = (λ i. bytes_eq (namespace_of a) row.ns && no_reference (container row) (λ d m. refl) (λ s n m. refl) (λ n. refl) (λ l. refl) a i) ∙ and_none (bytes_eq (namespace_of a) row.ns)
no_edge a (lease row) e = (λ i. bytes_eq (namespace_of a) row.ns && no_reference (lease row) (λ d m. refl) (λ s n m. refl) (λ n. refl) (λ l. refl) a i) ∙ and_none (bytes_eq (namespace_of a) row.ns)
no_edge a (ingest row) e = absurd cc
no_edge a (content mode row) e = absurd cc
no_edge a (snapshot mode row) e = absurd cc
