-- An asked row is there where a table has a row of its key.
use Rattle.std.proofs.Common.{◌≡◌, Bool, true, false, List, [], ◌∷◌, ◌++◌, map, refl, sym, ap, ◌∙◌, Some, is_some}
use Rattle.std.specs.Prelude.{◌&&◌, ◌||◌, bytes_eq, if◌then◌else◌}
use Rattle.std.specs.List.{list_any}
use Rattle.std.proofs.lemmas.List.Folds.{list_any-append}
use Rattle.meta_types.specs.Text.{Text}
use Rattle.meta_types.specs.Keys.{Key, is_key, row_at, has_row}
use Rattle.meta_types.specs.Rows.{Records, image_key, container_key, content_key, ingest_key, snap_key, lease_key}
use Rattle.meta_types.specs.Paths.{Thing, image, container, lease, ingest, content, snapshot, things, in_both_modes}
use Rattle.meta_types.specs.Explanations.{is_asked}
use Rattle.meta_types.specs.declared.resource.Mode.{Mode}
use Rattle.meta_types.specs.declared.resource.Mode.TheVariants.{Full, Flat}
use Rattle.meta_types.specs.declared.resource.Resource.TheVariants.{Content, Snapshot, Ingest}
use Rattle.meta_types.specs.declared.object.Object.TheVariants.{Image, Container, Lease, Held}
use Rattle.gc_graph.proofs.Truths.{bytes_flip, and_none, or_none}

-- ---- tests

and_true : (a : Bool) → (a && true) ≡ a
and_true true = refl
and_true false = refl

or_itself : (a : Bool) → (a || a) ≡ a
or_itself true = refl
or_itself false = refl

-- two texts of a row are those of a key
two_texts : (ns name x y : Text) → (bytes_eq x ns && bytes_eq y name) ≡ is_key (ns ∷ name ∷ []) (x ∷ y ∷ [])
two_texts ns name x y = λ i. bytes_flip x ns i && sym (and_true (bytes_flip y name i)) i

three_texts : (ns group name x y z : Text) → (bytes_eq x ns && (bytes_eq y group && bytes_eq z name)) ≡ is_key (ns ∷ group ∷ name ∷ []) (x ∷ y ∷ z ∷ [])
three_texts ns group name x y z = λ i. bytes_flip x ns i && (bytes_flip y group i && sym (and_true (bytes_flip z name i)) i)

-- ---- lists

module _ (p : Thing → Bool) where
  no_row : {Row : Type 0} (thing : Row → Thing) → ((row : Row) → p (thing row) ≡ false) → (rows : List Row) → list_any p (map thing rows) ≡ false
  no_row thing none [] = refl
  no_row thing none (row ∷ rows) = λ i. none row i || no_row thing none rows i

  by_key : {Row : Type 0} (key_of : Row → Key) (key : Key) (thing : Row → Thing) → ((row : Row) → p (thing row) ≡ is_key key (key_of row)) → (rows : List Row) → list_any p (map thing rows) ≡ has_row key_of key rows
  by_key key_of key thing is [] = refl
  by_key key_of key thing is (row ∷ rows) = (λ i. is row i || by_key key_of key thing is rows i) ∙ go (is_key key (key_of row))
    where
      go : (b : Bool) → (b || is_some (row_at key_of key rows)) ≡ is_some (if b then Some row else row_at key_of key rows)
      go true = refl
      go false = refl

  both_modes : {Row : Type 0} (thing : Mode → Row → Thing) (rows : List Row) (b : Bool) → list_any p (map (thing Full) rows) ≡ b → list_any p (map (thing Flat) rows) ≡ b → list_any p (in_both_modes thing rows) ≡ b
  both_modes thing rows b h k = list_any-append p (map (thing Full) rows) (map (thing Flat) rows) ∙ (λ i. h i || k i) ∙ or_itself b

  six : (r : Records) (a b c d e f : Bool) → list_any p (map image r.tables.images) ≡ a → list_any p (map container r.tables.containers) ≡ b → list_any p (map lease r.leases) ≡ c
      → list_any p (map ingest r.tables.ingests) ≡ d → list_any p (in_both_modes content r.tables.content) ≡ e → list_any p (in_both_modes snapshot r.tables.snapshots) ≡ f
      → list_any p (things r) ≡ (((((a || b) || c) || d) || e) || f)
  six r a b c d e f ha hb hc hd he hf =
      let i = map image r.tables.images in
      let k = map container r.tables.containers in
      let l = map lease r.leases in
      let g = map ingest r.tables.ingests in
      let o = in_both_modes content r.tables.content in
      let s = in_both_modes snapshot r.tables.snapshots in
      list_any-append p ((((i ++ k) ++ l) ++ g) ++ o) s ∙ (λ j. (list_any-append p (((i ++ k) ++ l) ++ g) o
      ∙ (λ n. (list_any-append p ((i ++ k) ++ l) g ∙ (λ m. (list_any-append p (i ++ k) l ∙ (λ q. (list_any-append p i k ∙ (λ z. ha z || hb z)) q || hc q)) m || hd m)) n || he n)) j || hf j)

-- ---- each kind of object

module _ (r : Records) (ns : Text) where
  pub image_there : (name : Text) → list_any (is_asked ns (Image name)) (things r) ≡ has_row image_key (ns ∷ name ∷ []) r.tables.images
  image_there name =
      let p = is_asked ns (Image name) in
      let h = has_row image_key (ns ∷ name ∷ []) r.tables.images in
      six p r h false false false false false
      (by_key p image_key (ns ∷ name ∷ []) image (λ row. two_texts ns name row.ns row.name) r.tables.images)
      (no_row p container (λ row. and_none (bytes_eq row.ns ns)) r.tables.containers) (no_row p lease (λ row. and_none (bytes_eq row.ns ns)) r.leases) (no_row p ingest (λ row. and_none (bytes_eq row.ns ns)) r.tables.ingests)
      (both_modes p content r.tables.content false (no_row p (content Full) (λ row. and_none (bytes_eq row.ns ns)) r.tables.content) (no_row p (content Flat) (λ row. and_none (bytes_eq row.ns ns)) r.tables.content))
      (both_modes p snapshot r.tables.snapshots false (no_row p (snapshot Full) (λ row. and_none (bytes_eq row.key.ns ns)) r.tables.snapshots) (no_row p (snapshot Flat) (λ row. and_none (bytes_eq row.key.ns ns)) r.tables.snapshots))
      ∙ first_of h
    where
      first_of : (b : Bool) → (((((b || false) || false) || false) || false) || false) ≡ b
      first_of true = refl
      first_of false = refl

  pub container_there : (name : Text) → list_any (is_asked ns (Container name)) (things r) ≡ has_row container_key (ns ∷ name ∷ []) r.tables.containers
  container_there name =
      let p = is_asked ns (Container name) in
      let h = has_row container_key (ns ∷ name ∷ []) r.tables.containers in
      six p r false h false false false false
      (no_row p image (λ row. and_none (bytes_eq row.ns ns)) r.tables.images)
      (by_key p container_key (ns ∷ name ∷ []) container (λ row. two_texts ns name row.ns row.name) r.tables.containers)
      (no_row p lease (λ row. and_none (bytes_eq row.ns ns)) r.leases) (no_row p ingest (λ row. and_none (bytes_eq row.ns ns)) r.tables.ingests)
      (both_modes p content r.tables.content false (no_row p (content Full) (λ row. and_none (bytes_eq row.ns ns)) r.tables.content) (no_row p (content Flat) (λ row. and_none (bytes_eq row.ns ns)) r.tables.content))
      (both_modes p snapshot r.tables.snapshots false (no_row p (snapshot Full) (λ row. and_none (bytes_eq row.key.ns ns)) r.tables.snapshots) (no_row p (snapshot Flat) (λ row. and_none (bytes_eq row.key.ns ns)) r.tables.snapshots))
      ∙ second_of h
    where
      second_of : (b : Bool) → (((((false || b) || false) || false) || false) || false) ≡ b
      second_of true = refl
      second_of false = refl

  pub lease_there : (id : Text) → list_any (is_asked ns (Lease id)) (things r) ≡ has_row lease_key (ns ∷ id ∷ []) r.leases
  lease_there id =
      let p = is_asked ns (Lease id) in
      let h = has_row lease_key (ns ∷ id ∷ []) r.leases in
      six p r false false h false false false
      (no_row p image (λ row. and_none (bytes_eq row.ns ns)) r.tables.images) (no_row p container (λ row. and_none (bytes_eq row.ns ns)) r.tables.containers)
      (by_key p lease_key (ns ∷ id ∷ []) lease (λ row. two_texts ns id row.ns row.id) r.leases)
      (no_row p ingest (λ row. and_none (bytes_eq row.ns ns)) r.tables.ingests)
      (both_modes p content r.tables.content false (no_row p (content Full) (λ row. and_none (bytes_eq row.ns ns)) r.tables.content) (no_row p (content Flat) (λ row. and_none (bytes_eq row.ns ns)) r.tables.content))
      (both_modes p snapshot r.tables.snapshots false (no_row p (snapshot Full) (λ row. and_none (bytes_eq row.key.ns ns)) r.tables.snapshots) (no_row p (snapshot Flat) (λ row. and_none (bytes_eq row.key.ns ns)) r.tables.snapshots))
      ∙ third_of h
    where
      third_of : (b : Bool) → (((((false || false) || b) || false) || false) || false) ≡ b
      third_of true = refl
      third_of false = refl

  pub ingest_there : (name : Text) → list_any (is_asked ns (Held (Ingest name))) (things r) ≡ has_row ingest_key (ns ∷ name ∷ []) r.tables.ingests
  ingest_there name =
      let p = is_asked ns (Held (Ingest name)) in
      let h = has_row ingest_key (ns ∷ name ∷ []) r.tables.ingests in
      six p r false false false h false false
      (no_row p image (λ row. and_none (bytes_eq row.ns ns)) r.tables.images) (no_row p container (λ row. and_none (bytes_eq row.ns ns)) r.tables.containers) (no_row p lease (λ row. and_none (bytes_eq row.ns ns)) r.leases)
      (by_key p ingest_key (ns ∷ name ∷ []) ingest (λ row. ap (λ b. bytes_eq row.ns ns && b) (or_itself (bytes_eq row.name name)) ∙ two_texts ns name row.ns row.name) r.tables.ingests)
      (both_modes p content r.tables.content false (no_row p (content Full) (λ row. and_none (bytes_eq row.ns ns)) r.tables.content) (no_row p (content Flat) (λ row. and_none (bytes_eq row.ns ns)) r.tables.content))
      (both_modes p snapshot r.tables.snapshots false (no_row p (snapshot Full) (λ row. and_none (bytes_eq row.key.ns ns)) r.tables.snapshots) (no_row p (snapshot Flat) (λ row. and_none (bytes_eq row.key.ns ns)) r.tables.snapshots))
      ∙ fourth_of h
    where
      fourth_of : (b : Bool) → (((((false || false) || false) || b) || false) || false) ≡ b
      fourth_of true = refl
      fourth_of false = refl

  pub content_there : (digest : Text) → list_any (is_asked ns (Held (Content digest))) (things r) ≡ has_row content_key (ns ∷ digest ∷ []) r.tables.content
  content_there digest =
      let p = is_asked ns (Held (Content digest)) in
      let h = has_row content_key (ns ∷ digest ∷ []) r.tables.content in
      six p r false false false false h false
      (no_row p image (λ row. and_none (bytes_eq row.ns ns)) r.tables.images) (no_row p container (λ row. and_none (bytes_eq row.ns ns)) r.tables.containers) (no_row p lease (λ row. and_none (bytes_eq row.ns ns)) r.leases)
      (no_row p ingest (λ row. and_none (bytes_eq row.ns ns)) r.tables.ingests)
      (both_modes p content r.tables.content h
      (by_key p content_key (ns ∷ digest ∷ []) (content Full) (λ row. ap (λ b. bytes_eq row.ns ns && b) (or_none (bytes_eq row.digest digest)) ∙ two_texts ns digest row.ns row.digest) r.tables.content)
      (by_key p content_key (ns ∷ digest ∷ []) (content Flat) (λ row. two_texts ns digest row.ns row.digest) r.tables.content))
      (both_modes p snapshot r.tables.snapshots false (no_row p (snapshot Full) (λ row. and_none (bytes_eq row.key.ns ns)) r.tables.snapshots) (no_row p (snapshot Flat) (λ row. and_none (bytes_eq row.key.ns ns)) r.tables.snapshots))
      ∙ fifth_of h
    where
      fifth_of : (b : Bool) → (((((false || false) || false) || false) || b) || false) ≡ b
      fifth_of true = refl
      fifth_of false = refl

  pub snapshot_there : (snapshotter name : Text) → list_any (is_asked ns (Held (Snapshot snapshotter name))) (things r) ≡ has_row snap_key (ns ∷ snapshotter ∷ name ∷ []) r.tables.snapshots
  snapshot_there snapshotter name =
      let p = is_asked ns (Held (Snapshot snapshotter name)) in
      let h = has_row snap_key (ns ∷ snapshotter ∷ name ∷ []) r.tables.snapshots in
      six p r false false false false false h
      (no_row p image (λ row. and_none (bytes_eq row.ns ns)) r.tables.images) (no_row p container (λ row. and_none (bytes_eq row.ns ns)) r.tables.containers) (no_row p lease (λ row. and_none (bytes_eq row.ns ns)) r.leases)
      (no_row p ingest (λ row. and_none (bytes_eq row.ns ns)) r.tables.ingests)
      (both_modes p content r.tables.content false (no_row p (content Full) (λ row. and_none (bytes_eq row.ns ns)) r.tables.content) (no_row p (content Flat) (λ row. and_none (bytes_eq row.ns ns)) r.tables.content))
      (both_modes p snapshot r.tables.snapshots h
      (by_key p snap_key (ns ∷ snapshotter ∷ name ∷ []) (snapshot Full) (λ row. ap (λ b. bytes_eq row.key.ns ns && b) (or_none (bytes_eq row.key.snapshotter snapshotter && bytes_eq row.key.name name)) ∙ three_texts ns snapshotter name row.key.ns row.key.snapshotter row.key.name) r.tables.snapshots)
      (by_key p snap_key (ns ∷ snapshotter ∷ name ∷ []) (snapshot Flat) (λ row. three_texts ns snapshotter name row.key.ns row.key.snapshotter row.key.name) r.tables.snapshots))
