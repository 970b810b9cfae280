-- What the sweeps of all backends come to.
use Rattle.std.proofs.Common.{◌≡◌, ℕ, suc, ◌<◌, List, [], ◌∷◌, Bool, true, false, not, refl, sym, ◌∙◌, ap, subst, arith}
use Rattle.std.specs.Prelude.{AllPairs, bytes_eq, filter, Contains, ◌==◌, ◌&&◌, ◌||◌}
use Rattle.std.specs.List.{list_any}
use Rattle.std.proofs.lemmas.Bool.{both_ways, and_parts, false_from_ne_true}
use Rattle.std.proofs.lemmas.Bool.Decides.{Decides-eqb}
use Rattle.std.proofs.lemmas.Slice.Eq.{bytes_eq-Decides}
use Rattle.std.proofs.lemmas.List.Elements.{All-contains}
use Rattle.meta_types.specs.Text.{Text}
use Rattle.meta_types.specs.Rows.{Tables, BackSnap, BackLists, namespace_key}
use Rattle.meta_types.specs.Keys.{is_before, is_first, are_in_order}
use Rattle.meta_types.specs.Backends.{BackNames, is_named, ancestors_of, no_objects, object_name, removed_objects, owns_blob, owns_ingest, owns_snapshot, snapshot_object_stays, is_ancestor_of_one}
use Rattle.meta_types.proofs.Members.{in_filter, from_filter}
use Rattle.meta_types.proofs.OneRowPerKey.{before_all, not_before_itself}
use Rattle.back_model.specs.Shown.{Shard, AreApart, snaps_at, all_snaps}
use Rattle.backend_sweep.specs.Shards.{is_number, numbers_of}
use Rattle.backend_sweep.specs.Sweep.{Childfirst}
use Rattle.backend_sweep.specs.Singles.{is_in, AreHeldOnce, SweepsEach}
use Rattle.backend_sweep.specs.ShardPlans.{is_removed, is_failed}
use Rattle.backend_sweep.specs.Backed.{MaySweep}
use Rattle.backend_sweep.specs.Swept.{IsSwept}
use Rattle.backend_sweep.proofs.Pairing.{same_kept, Pairs, each_from, pairs_filter, pairs_front}
use Rattle.backend_sweep.proofs.SweptLists.{in_of, of_in}
use Rattle.backend_sweep.proofs.Naming.{Named, names_may_be_swept}
use Rattle.backend_sweep.proofs.Zipped.{Triple, olds_of, shard_plans_of, news_of, One, All3, filter_twice, snapshots_left, snapshots_removed, failed_fit, failed_apart}
use Rattle.meta_types.proofs.GoingOrder.{one_way, chain}

-- what shards, blobs and ingests hold, as the definitions have it
abbrev pub lists_of : List Shard → List Text → List ℕ → BackLists
lists_of shards blobs ingests = record { blobs = blobs; snapshots = all_snaps shards; ingests = ingests }

-- ---- objects without parents

module _ {X : Type 0} (same : X → X → Bool) (is_same : (x y : X) → same x y ≡ true → x ≡ y) (same_is : (x y : X) → x ≡ y → same x y ≡ true) where
  -- what is left without an owner is held, each once
  pub held_once : (p : X → Bool) (list old : List X) → list ≡ filter p old
      → Pairs (λ (a b : X). a ≡ b → ⊥) old → AreHeldOnce same list old
  held_once p list old is apart = record {
    each = λ x h. in_of same is_same same_is old x (from_filter p old x (subst (λ (l : List X). Contains l x) is (of_in same is_same same_is list x h))).0;
    once = λ xs ys x e. false_from_ne_true (is_in same xs x) (λ h.
        pairs_front (λ (a b : X). a ≡ b → ⊥) xs ys x (subst (Pairs (λ (a b : X). a ≡ b → ⊥)) (sym is ∙ e) (pairs_filter (λ (a b : X). a ≡ b → ⊥) p old apart)) x (of_in same is_same same_is xs x h) refl);
  }

  module _ (owns : X → Bool) (list old now removed failed : List X) (before after : ℕ) (s : SweepsEach same list old now removed failed before after) (is : list ≡ filter (λ x. not (owns x || false)) old) where
    pub single_removed : removed ≡ filter (λ x. not (owns x || is_in same failed x)) old
    single_removed = s.removed_is ∙ ap (filter (λ x. not (is_in same failed x))) is ∙ filter_twice (λ x. not (owns x || false)) (λ x. not (is_in same failed x)) old
        ∙ same_kept (λ x. not (owns x || false) && not (is_in same failed x)) (λ x. not (owns x || is_in same failed x)) old (λ x c. go (owns x) (is_in same failed x))
      where
        go : (o f : Bool) → (not (o || false) && not f) ≡ not (o || f)
        go true f = refl
        go false f = refl

    pub single_left : now ≡ filter (λ x. owns x || is_in same failed x) old
    single_left = s.left_is ∙ same_kept (λ x. not (is_in same list x) || is_in same failed x) (λ x. owns x || is_in same failed x) old (λ x c. go (owns x) (is_in same failed x) (is_in same list x)
        (λ h. false_from_ne_true (is_in same list x) (λ l. both_ways (owns x) (none (owns x) (from_filter (λ y. not (owns y || false)) old x (subst (λ (k : List X). Contains k x) is (of_in same is_same same_is list x l))).1) h))
        (λ h. in_of same is_same same_is list x (subst (λ (k : List X). Contains k x) (sym is) (in_filter (λ y. not (owns y || false)) old x c (some (owns x) h)))))
      where
        go : (o f l : Bool) → (o ≡ true → l ≡ false) → (o ≡ false → l ≡ true)
            → (not l || f) ≡ (o || f)
        go true f l a b = rw (a refl) refl
        go false f l a b = rw (b refl) refl

        none : (o : Bool) → not (o || false) ≡ true → o ≡ false
        none true h = absurd cc
        none false h = refl

        some : (o : Bool) → o ≡ false → not (o || false) ≡ true
        some true h = absurd cc
        some false h = refl

-- texts in order are apart
pub texts_apart : (xs : List Text) → are_in_order namespace_key xs ≡ true
    → Pairs (λ (a b : Text). a ≡ b → ⊥) xs
texts_apart [] h = tt
texts_apart (x ∷ xs) h =
    let parts = and_parts (is_first namespace_key x xs) (are_in_order namespace_key xs) h in (
      each_from (λ (a b : Text). a ≡ b → ⊥) x xs (λ z c e.
          not_before_itself (namespace_key z) (subst (λ (t : Text). is_before (namespace_key t) (namespace_key z) ≡ true) e
          (All-contains (λ (other : Text). is_before (namespace_key x) (namespace_key other) ≡ true) xs z (before_all namespace_key x xs parts.0 parts.1) c))),
      texts_apart xs parts.1,
    )

-- numbers in order are apart
pub numbers_apart : (xs : List ℕ) → AllPairs (λ a b. a < b) xs → Pairs (λ (a b : ℕ). a ≡ b → ⊥) xs
numbers_apart [] h = tt
numbers_apart (x ∷ xs) h = (
  each_from (λ (a b : ℕ). a ≡ b → ⊥) x xs (λ z c e. (let less = All-contains (λ (y : ℕ). x < y) xs z (λ k d lt. h 0 (suc k) d (omega arith) (omega (arith, lt))) c in absurd (omega (arith, less, e)))),
  numbers_apart xs (λ i j d lt lt2. h (suc i) (suc j) d (omega (arith, lt)) (omega (arith, lt2))),
)

-- ---- names

none_below : (all : List BackSnap) (snap : BackSnap) (shards : List BackSnap)
    → list_any (λ one. list_any (λ (name : Text × ℕ). is_named name one) [] && list_any (is_named (object_name snap)) (ancestors_of all one)) shards ≡ false
none_below all snap [] = refl
none_below all snap (x ∷ xs) = none_below all snap xs

abbrev pub goes_by : Tables → List BackSnap → BackSnap → Bool
goes_by tables all snap = not (snapshot_object_stays tables all no_objects snap)

pub goes_by_is : (tables : Tables) (all : List BackSnap) (snap : BackSnap)
    → goes_by tables all snap ≡ not (owns_snapshot tables snap)
goes_by_is tables all snap = ap not (three (owns_snapshot tables snap) (list_any (λ (name : Text × ℕ). is_named name snap) no_objects.snapshots) (is_ancestor_of_one all no_objects.snapshots snap) refl (none_below all snap all))
  where
    three : (a b c : Bool) → b ≡ false → c ≡ false → (a || b || c) ≡ a
    three true b c p q = refl
    three false b c p q = rw (p, q) refl

module _ (olds : List Shard) (blobs : List Text) (ingests : List ℕ) (names : BackNames) (may : MaySweep (lists_of olds blobs ingests) names) (apart : AreApart olds) where
  pub named_by : (tables : Tables)
      → names ≡ removed_objects tables no_objects (lists_of olds blobs ingests)
      → Named olds (goes_by tables (all_snaps olds)) names.snapshots
  named_by tables are = record {
    apart = apart;
    ordered = may.ordered;
    falls = may.falls;
    names_are = ap (λ (n : BackNames). n.snapshots) are;
    one_way = one_way (all_snaps olds);
    chain = chain (all_snaps olds);
  }

  -- the numbers of each shard may be swept
  pub first_by : (s : Text) → Childfirst (numbers_of s names.snapshots) (snaps_at s olds)
  first_by s = names_may_be_swept olds (goes_by may.tables (all_snaps olds)) names.snapshots (named_by may.tables may.are) s (λ snap above cs ca up g.
      goes_by_is may.tables (all_snaps olds) snap ∙ go (owns_snapshot may.tables snap) (owns_snapshot may.tables above) (may.closed snap above cs ca up) (sym (goes_by_is may.tables (all_snaps olds) above) ∙ g))
    where
      go : (a b : Bool) → (a ≡ true → b ≡ true) → not b ≡ true → not a ≡ true
      go a true h k = absurd cc
      go true false h k = absurd (both_ways false refl (h refl))
      go false false h k = refl

  module _ (zs : List Triple) (olds_are : olds_of zs ≡ olds) (each : (z : Triple) → Contains zs z → One names.snapshots z) (tables : Tables) (are : names ≡ removed_objects tables no_objects (lists_of olds blobs ingests)) where
    abbrev goes : BackSnap → Bool
    goes = goes_by tables (all_snaps olds)

    pub whole : All3 zs tables goes names.snapshots
    whole = record {
      named = subst (λ (l : List Shard). Named l goes names.snapshots) (sym olds_are) (named_by tables are);
      goes_is = goes_by_is tables (all_snaps olds);
      first = subst (λ (l : List Shard). (s : Text) → Childfirst (numbers_of s names.snapshots) (snaps_at s l)) (sym olds_are) first_by;
      each = each;
    }

    module _ (blobs' : List Text) (ingests' : List ℕ) (removed failed : BackNames) (b0 b1 i0 i1 : ℕ)
        (sb : SweepsEach bytes_eq names.blobs blobs blobs' removed.blobs failed.blobs b0 b1) (si : SweepsEach is_number names.ingests ingests ingests' removed.ingests failed.ingests i0 i1)
        (removed_are : removed.snapshots ≡ filter (is_removed (shard_plans_of zs)) names.snapshots) (failed_are : failed.snapshots ≡ filter (is_failed (shard_plans_of zs)) names.snapshots) where
      blob_same : (x y : Text) → bytes_eq x y ≡ true → x ≡ y
      blob_same x y = (bytes_eq-Decides x y).0

      same_blob : (x y : Text) → x ≡ y → bytes_eq x y ≡ true
      same_blob x y = (bytes_eq-Decides x y).1

      number_same : (x y : ℕ) → is_number x y ≡ true → x ≡ y
      number_same x y h = sym ((Decides-eqb y x).0 h)

      same_number : (x y : ℕ) → x ≡ y → is_number x y ≡ true
      same_number x y e = (Decides-eqb y x).1 (sym e)

      blobs_are : names.blobs ≡ filter (λ x. not (owns_blob tables x || false)) blobs
      blobs_are = ap (λ (n : BackNames). n.blobs) are

      ingests_are : names.ingests ≡ filter (λ x. not (owns_ingest tables x || false)) ingests
      ingests_are = ap (λ (n : BackNames). n.ingests) are

      abbrev old : BackLists
      old = lists_of (olds_of zs) blobs ingests

      swept_zs : names ≡ removed_objects tables no_objects old
          → IsSwept tables old (lists_of (news_of zs) blobs' ingests') removed failed
      swept_zs are = record {
        may_fail = record {
          blobs = sb.failed_is ∙ ap (filter (λ digest. list_any (bytes_eq digest) failed.blobs)) (ap (λ (n : BackNames). n.blobs) are);
          ingests = si.failed_is ∙ ap (filter (λ number. list_any (λ other. other == number) failed.ingests)) (ap (λ (n : BackNames). n.ingests) are);
          snapshots = failed_fit zs tables goes names.snapshots whole failed failed_are ∙ ap (filter (λ name. list_any (λ other. bytes_eq other.0 name.0 && other.1 == name.1) failed.snapshots)) (ap (λ (n : BackNames). n.snapshots) are);
          apart = failed_apart zs tables goes names.snapshots whole failed failed_are;
        };
        removed_is = λ i. record {
          blobs = single_removed bytes_eq blob_same same_blob (owns_blob tables) names.blobs blobs blobs' removed.blobs failed.blobs b0 b1 sb blobs_are i;
          ingests = single_removed is_number number_same same_number (owns_ingest tables) names.ingests ingests ingests' removed.ingests failed.ingests i0 i1 si ingests_are i;
          snapshots = (removed_are ∙ snapshots_removed zs tables goes names.snapshots whole failed failed_are) i;
        };
        left_is = λ i. record {
          blobs = single_left bytes_eq blob_same same_blob (owns_blob tables) names.blobs blobs blobs' removed.blobs failed.blobs b0 b1 sb blobs_are i;
          snapshots = snapshots_left zs tables goes names.snapshots whole failed failed_are i;
          ingests = single_left is_number number_same same_number (owns_ingest tables) names.ingests ingests ingests' removed.ingests failed.ingests i0 i1 si ingests_are i;
        };
      }

      -- all backends are swept
      pub swept : (news : List Shard) → news_of zs ≡ news
          → IsSwept tables (lists_of olds blobs ingests) (lists_of news blobs' ingests') removed failed
      swept news news_are =
          subst (λ (l : List Shard). IsSwept tables (lists_of olds blobs ingests) (lists_of l blobs' ingests') removed failed) news_are
          (subst (λ (l : List Shard). IsSwept tables (lists_of l blobs ingests) (lists_of (news_of zs) blobs' ingests') removed failed) olds_are
          (swept_zs (are ∙ ap (λ (l : List Shard). removed_objects tables no_objects (lists_of l blobs ingests)) (sym olds_are))))
