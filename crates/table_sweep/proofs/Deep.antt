-- Depths are numbers of ancestors, and keys in order are snapshots in order.
use Rattle.std.proofs.Common.{◌≡◌, ℕ, zero, suc, Bool, true, false, List, [], ◌∷◌, map, length, refl, sym, ap, ◌∙◌, Option, Some, None, if◌then◌else◌, cond, filter}
use Rattle.std.specs.Prelude.{find, option_and_then, bytes_eq, ◌&&◌, ◌==◌}
use Rattle.std.specs.Option.{option_map_or}
use Rattle.std.proofs.lemmas.List.{length-map}
use Rattle.std.proofs.lemmas.Simd.{map-map}
use Rattle.meta_types.specs.Text.{Text}
use Rattle.meta_types.specs.Rows.{BackSnap}
use Rattle.meta_types.specs.Keys.{put_in_order, in_order}
use Rattle.meta_types.specs.Backends.{is_named, ancestors, depth_of, goes_before, object_name}
use Rattle.meta_types.proofs.Filtered.{filter_mapped}
use Rattle.table_sweep.specs.Depths.{Listed, snap_of, parent_in, depth_in, key_of, is_first, key_name}

-- ---- depths

abbrev with_record : Option Listed → Option BackSnap
with_record None = None
with_record (Some s) = Some (snap_of s)

find_listed : (snapshotter : Text) (number : ℕ) (snapshots : List Listed) → find (is_named (snapshotter, number)) (map snap_of snapshots) ≡ with_record (find (λ s. bytes_eq s.0 snapshotter && s.1 == number) snapshots)
find_listed snapshotter number [] = refl
find_listed snapshotter number (s ∷ snapshots) = go (bytes_eq s.0 snapshotter && s.1 == number) (find_listed snapshotter number snapshots)
  where
    go : (b : Bool) → find (is_named (snapshotter, number)) (map snap_of snapshots) ≡ with_record (find (λ s. bytes_eq s.0 snapshotter && s.1 == number) snapshots)
        → cond b (Some (snap_of s)) (find (is_named (snapshotter, number)) (map snap_of snapshots)) ≡ with_record (cond b (Some s) (find (λ s. bytes_eq s.0 snapshotter && s.1 == number) snapshots))
    go true e = refl
    go false e = e

above_listed : (snapshots : List Listed) (s : Text) (n : ℕ) (parent : Option ℕ)
    → option_and_then (λ number. find (is_named (s, number)) (map snap_of snapshots)) parent
    ≡ with_record (parent_in snapshots (s, n, parent))
above_listed snapshots s n None = refl
above_listed snapshots s n (Some number) = find_listed s number snapshots

depth_steps : (most : ℕ) (snapshots : List Listed) (snap : Listed) → length (ancestors most (map snap_of snapshots) (snap_of snap)) ≡ depth_in most snapshots snap
depth_steps zero snapshots snap = refl
depth_steps (suc most) snapshots snap =
    ap (λ o. length (option_map_or (λ above. above ∷ ancestors most (map snap_of snapshots) above) o [])) (above_listed snapshots snap.0 snap.1 snap.2)
    ∙ go (parent_in snapshots snap) (λ above. depth_steps most snapshots above)
  where
    go : (o : Option Listed) → ((above : Listed) → length (ancestors most (map snap_of snapshots) (snap_of above)) ≡ depth_in most snapshots above)
        → length (option_map_or (λ above. above ∷ ancestors most (map snap_of snapshots) above) (with_record o) []) ≡ option_map_or (λ above. suc (depth_in most snapshots above)) o zero
    go None h = refl
    go (Some above) h = ap suc (h above)

depth_is : (snapshots : List Listed) (snap : Listed) → depth_of (map snap_of snapshots) (snap_of snap) ≡ depth_in (length snapshots) snapshots snap
depth_is snapshots snap = ap (λ n. length (ancestors n (map snap_of snapshots) (snap_of snap))) (length-map snapshots snap_of) ∙ depth_steps (length snapshots) snapshots snap

-- ---- keys in order

-- what compares alike stands in one order
module _ {X Y : Type 0} (f : X → Y) (p : X → X → Bool) (q : Y → Y → Bool) (same : (a b : X) → q (f a) (f b) ≡ p a b) where
  put_alike : (x : X) (ys : List X) → put_in_order q (f x) (map f ys) ≡ map f (put_in_order p x ys)
  put_alike x [] = refl
  put_alike x (y ∷ ys) = (λ i. if same x y i then f x ∷ f y ∷ map f ys else f y ∷ put_alike x ys i) ∙ go (p x y)
    where
      go : (b : Bool) → (if b then f x ∷ f y ∷ map f ys else f y ∷ map f (put_in_order p x ys)) ≡ map f (if b then x ∷ y ∷ ys else y ∷ put_in_order p x ys)
      go true = refl
      go false = refl

  order_alike : (xs : List X) → in_order q (map f xs) ≡ map f (in_order p xs)
  order_alike [] = refl
  order_alike (x ∷ xs) = ap (put_in_order q (f x)) (order_alike xs) ∙ put_alike x (in_order p xs)

module _ (snapshots : List Listed) where
  -- snapshots and their keys compare alike
  same_order : (a b : Listed) → goes_before (map snap_of snapshots) (snap_of a) (snap_of b) ≡ is_first (key_of snapshots a) (key_of snapshots b)
  same_order a b = λ i. is_first (record { snapshotter = a.0; depth = depth_is snapshots a i; number = a.1 }) (record { snapshotter = b.0; depth = depth_is snapshots b i; number = b.1 })

  -- the names of those that go, in order
  pub names_in_order : (goes : BackSnap → Bool) → map key_name (in_order is_first (map (key_of snapshots) (filter (λ s. goes (snap_of s)) snapshots))) ≡ map object_name (in_order (goes_before (map snap_of snapshots)) (filter goes (map snap_of snapshots)))
  names_in_order goes =
      let p : Listed → Listed → Bool = λ a b. is_first (key_of snapshots a) (key_of snapshots b) in
      let those = filter (λ s. goes (snap_of s)) snapshots in
      ap (map key_name) (order_alike (key_of snapshots) p is_first (λ a b. refl) those) ∙ map-map key_name (key_of snapshots) (in_order p those)
      ∙ sym (map-map object_name snap_of (in_order p those)) ∙ sym (ap (map object_name) (order_alike snap_of p (goes_before (map snap_of snapshots)) same_order those))
      ∙ sym (ap (λ l. map object_name (in_order (goes_before (map snap_of snapshots)) l)) (filter_mapped goes snap_of snapshots))
