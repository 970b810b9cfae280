-- The snapshots of all shards as one list.
use Rattle.std.proofs.Common.{◌≡◌, ℕ, ◌+◌, List, [], ◌∷◌, ◌++◌, map, length, Bool, true, false, refl, sym, ◌∙◌, ap, subst, arith}
use Rattle.std.specs.Prelude.{Option, Some, None, is_some, bytes_eq, nat_lt, ◌==◌}
use Rattle.std.specs.List.{AllByRecursion}
use Rattle.std.specs.declared.cmp.Ordering.{Ordering}
use Rattle.std.specs.declared.cmp.Ordering.TheVariants.{Less, Equal, Greater}
use Rattle.std.specs.Ordering.{is_eq, nat_cmp}
use Rattle.std.specs.Cmp.{nat_cmp_total}
use Rattle.std.specs.Cmp.Lexicographic.{nat_list_cmp_total}
use Rattle.std.specs.FinMap as finmap
use Rattle.std.specs.FinMap.Entries.{put}
use Rattle.std.proofs.lemmas.Cmp.{tied_itself}
use Rattle.std.proofs.lemmas.Map.Text.{is_eq-slice_cmp}
use Rattle.meta_types.specs.Text.{Text, text_cmp}
use Rattle.meta_types.specs.Keys.{put_in_order}
use Rattle.meta_types.specs.Changes.{stands_before}
use Rattle.meta_types.specs.Rows.{BackSnap}
use Rattle.back_model.specs.Snaps.{Snaps, is_held}
use Rattle.back_model.specs.Shown.{Shard, AreApart, snaps_at, failures_at, put_shard, back_snap, snaps_in, all_snaps, all_failures}
use Rattle.back_model.proofs.Entries.{Parents}
use Rattle.back_model.proofs.ShardPlaces.{none_at, apart_rest, apart_head, behind, same_name}

-- the snapshots' snapshotters compare so to the name
abbrev pub AreAll : Ordering → Text → List BackSnap → Type 0
AreAll r name snaps = AllByRecursion (λ snap. text_cmp name snap.snapshotter ≡ r) snaps

all_append : (r : Ordering) (name : Text) (xs ys : List BackSnap) → AreAll r name xs → AreAll r name ys → AreAll r name (xs ++ ys)
all_append r name [] ys h k = k
all_append r name (x ∷ xs) ys h k = (h.0, all_append r name xs ys h.1 k)

-- a name that compares so to a snapshotter compares so to that of each snapshot listed under it
pub all_of : (r : Ordering) (name snapshotter : Text) → text_cmp name snapshotter ≡ r → (es : Parents) → AreAll r name (map (back_snap snapshotter) es)
all_of r name snapshotter is [] = tt
all_of r name snapshotter is (e ∷ es) = (is, all_of r name snapshotter is es)

-- a name before the snapshotter of each shard is before that of each listed snapshot
pub all_behind : (name : Text) (shards : List Shard) → AllByRecursion (λ y. text_cmp name y ≡ Less) (map (λ s. s.snapshotter) shards) → AreAll Less name (all_snaps shards)
all_behind name [] h = tt
all_behind name (s ∷ shards) h = all_append Less name (snaps_in s) (all_snaps shards) (all_of Less name s.snapshotter h.0 (finmap.entries s.snaps)) (all_behind name shards h.1)

-- an empty map has no entries
pub no_entries : finmap.entries (finmap.empty {X = Option ℕ} {R = nat_cmp}) ≡ []
no_entries = nothing _ (sym (finmap.len-entries finmap.empty) ∙ finmap.len-empty nat_cmp (Option ℕ))
  where
    nothing : (es : Parents) → length es ≡ 0 → es ≡ []
    nothing [] e = refl
    nothing (x ∷ es) e = absurd (omega (arith, e))

module _ (z : BackSnap) where
  put_first : (ws : List BackSnap) → AreAll Less z.snapshotter ws → put_in_order stands_before z ws ≡ z ∷ ws
  put_first [] h = refl
  put_first (w ∷ ws) h = rw h.0 refl

  put_behind : (xs ws : List BackSnap) → AreAll Greater z.snapshotter xs → put_in_order stands_before z (xs ++ ws) ≡ xs ++ put_in_order stands_before z ws
  put_behind [] ws h = refl
  put_behind (x ∷ xs) ws h =
      let apart : bytes_eq z.snapshotter x.snapshotter ≡ false = sym (is_eq-slice_cmp z.snapshotter x.snapshotter) ∙ ap is_eq h.0 in
      rw (h.0, apart) (ap (λ l. x ∷ l) (put_behind xs ws h.1))

module _ (name : Text) (n : ℕ) (p : Option ℕ) where
  within : (es : Parents) (ws : List BackSnap) → finmap.find nat_cmp n es ≡ None → AreAll Less name ws
      → map (back_snap name) (put nat_cmp n p es) ++ ws ≡ put_in_order stands_before (back_snap name (n, p)) (map (back_snap name) es ++ ws)
  within [] ws none later = sym (put_first (back_snap name (n, p)) ws later)
  within (e ∷ es) ws none later = go (nat_lt n e.0) (n == e.0) refl refl (λ free. within es ws free later)
    where
      go : (a b : Bool) → nat_lt n e.0 ≡ a → (n == e.0) ≡ b
          → (finmap.find nat_cmp n es ≡ None → map (back_snap name) (put nat_cmp n p es) ++ ws ≡ put_in_order stands_before (back_snap name (n, p)) (map (back_snap name) es ++ ws))
          → map (back_snap name) (put nat_cmp n p (e ∷ es)) ++ ws ≡ put_in_order stands_before (back_snap name (n, p)) (map (back_snap name) (e ∷ es) ++ ws)
      go true b below equal rest = rw (tied_itself nat_list_cmp_total name, sym (is_eq-slice_cmp name name) ∙ ap is_eq (tied_itself nat_list_cmp_total name), below) refl
      go false true below equal rest = absurd (cc (rw (below, equal) at none))
      go false false below equal rest =
          rw (tied_itself nat_list_cmp_total name, sym (is_eq-slice_cmp name name) ∙ ap is_eq (tied_itself nat_list_cmp_total name), below, equal)
          (ap (λ l. back_snap name e ∷ l) (rest (rw (below, equal) at none)))

  free : (o : Option (Option ℕ)) → is_some o ≡ false → o ≡ None
  free None e = refl
  free (Some x) e = absurd cc

  here : (m : Snaps) (ws : List BackSnap) → is_held m n ≡ false → AreAll Less name ws
      → map (back_snap name) (finmap.entries (finmap.insert m n p)) ++ ws ≡ put_in_order stands_before (back_snap name (n, p)) (map (back_snap name) (finmap.entries m) ++ ws)
  here m ws none later =
      ap (λ (es : Parents). map (back_snap name) es ++ ws) (finmap.entries-insert nat_cmp_total m n p)
      ∙ within (finmap.entries m) ws (sym (finmap.get-entries m n) ∙ free (finmap.get m n) none) later

  -- one snapshot more stands in its place in the list of all
  listed_more : (f : ℕ) (m : Snaps) → is_held m n ≡ false → (shards : List Shard) → AreApart shards → m ≡ snaps_at name shards
      → all_snaps (put_shard (record { snapshotter = name; snaps = finmap.insert m n p; failures = f }) shards) ≡ put_in_order stands_before (back_snap name (n, p)) (all_snaps shards)
  listed_more f m none [] apart is =
      here m [] none tt ∙ ap (λ (x : Snaps). put_in_order stands_before (back_snap name (n, p)) (map (back_snap name) (finmap.entries x) ++ [])) is
      ∙ ap (λ (es : Parents). put_in_order stands_before (back_snap name (n, p)) (map (back_snap name) es ++ [])) no_entries
  listed_more f m none (s ∷ shards) apart at = go (text_cmp name s.snapshotter) refl (listed_more f m none shards (apart_rest s shards apart))
    where
      go : (r : Ordering) → text_cmp name s.snapshotter ≡ r
          → (m ≡ snaps_at name shards → all_snaps (put_shard (record { snapshotter = name; snaps = finmap.insert m n p; failures = f }) shards) ≡ put_in_order stands_before (back_snap name (n, p)) (all_snaps shards))
          → all_snaps (put_shard (record { snapshotter = name; snaps = finmap.insert m n p; failures = f }) (s ∷ shards)) ≡ put_in_order stands_before (back_snap name (n, p)) (all_snaps (s ∷ shards))
      go Less is rest =
          let gone = none_at name s shards is apart in
          let empty : m ≡ finmap.empty = rw gone at at in
          rw is
          (here m (all_snaps (s ∷ shards)) none (all_behind name (s ∷ shards) (behind name s shards is apart))
          ∙ ap (λ (x : Snaps). put_in_order stands_before (back_snap name (n, p)) (map (back_snap name) (finmap.entries x) ++ all_snaps (s ∷ shards))) empty
          ∙ ap (λ (es : Parents). put_in_order stands_before (back_snap name (n, p)) (map (back_snap name) es ++ all_snaps (s ∷ shards))) no_entries)
      go Equal is rest =
          let same = same_name name s.snapshotter is in
          let held : m ≡ s.snaps = rw is at at in
          let later = subst (λ t. AllByRecursion (λ y. text_cmp t y ≡ Less) (map (λ x. x.snapshotter) shards)) (sym same) (apart_head s shards apart) in
          rw is
          (here m (all_snaps shards) none (all_behind name shards later)
          ∙ ap (λ (x : Snaps). put_in_order stands_before (back_snap name (n, p)) (map (back_snap name) (finmap.entries x) ++ all_snaps shards)) held
          ∙ ap (λ t. put_in_order stands_before (back_snap name (n, p)) (map (back_snap t) (finmap.entries s.snaps) ++ all_snaps shards)) same)
      go Greater is rest =
          rw is
          (ap (λ l. snaps_in s ++ l) (rest (rw is at at))
          ∙ sym (put_behind (back_snap name (n, p)) (snaps_in s) (all_snaps shards) (all_of Greater name s.snapshotter is (finmap.entries s.snaps))))

  pub listed : (f : ℕ) (shards : List Shard) → AreApart shards → is_held (snaps_at name shards) n ≡ false
      → all_snaps (put_shard (record { snapshotter = name; snaps = finmap.insert (snaps_at name shards) n p; failures = f }) shards) ≡ put_in_order stands_before (back_snap name (n, p)) (all_snaps shards)
  listed f shards apart none = listed_more f (snaps_at name shards) none shards apart refl

module _ (name : Text) where
  -- a shard of the same snapshots changes nothing in the list of all
  pub listed_same : (f : ℕ) (m : Snaps) (shards : List Shard) → AreApart shards → m ≡ snaps_at name shards
      → all_snaps (put_shard (record { snapshotter = name; snaps = m; failures = f }) shards) ≡ all_snaps shards
  listed_same f m [] apart is = ap (λ (x : Snaps). map (back_snap name) (finmap.entries x) ++ []) is ∙ ap (λ (es : Parents). map (back_snap name) es ++ []) no_entries
  listed_same f m (s ∷ shards) apart at = go (text_cmp name s.snapshotter) refl (listed_same f m shards (apart_rest s shards apart))
    where
      go : (r : Ordering) → text_cmp name s.snapshotter ≡ r
          → (m ≡ snaps_at name shards → all_snaps (put_shard (record { snapshotter = name; snaps = m; failures = f }) shards) ≡ all_snaps shards)
          → all_snaps (put_shard (record { snapshotter = name; snaps = m; failures = f }) (s ∷ shards)) ≡ all_snaps (s ∷ shards)
      go Less is rest =
          let gone = none_at name s shards is apart in
          let empty : m ≡ finmap.empty = rw gone at at in
          rw is (ap (λ (x : Snaps). map (back_snap name) (finmap.entries x) ++ all_snaps (s ∷ shards)) empty ∙ ap (λ (es : Parents). map (back_snap name) es ++ all_snaps (s ∷ shards)) no_entries)
      go Equal is rest =
          let held : m ≡ s.snaps = rw is at at in
          rw is (ap (λ (x : Snaps). map (back_snap name) (finmap.entries x) ++ all_snaps shards) held ∙ ap (λ t. map (back_snap t) (finmap.entries s.snaps) ++ all_snaps shards) (same_name name s.snapshotter is))
      go Greater is rest = rw is (ap (λ l. snaps_in s ++ l) (rest (rw is at at)))

  -- the failures of all shards grow with those of one
  pub counted : (k j : ℕ) (m : Snaps) (shards : List Shard) → AreApart shards → j ≡ failures_at name shards + k
      → all_failures (put_shard (record { snapshotter = name; snaps = m; failures = j }) shards) ≡ all_failures shards + k
  counted k j m [] apart is = omega (arith, is)
  counted k j m (s ∷ shards) apart at = go (text_cmp name s.snapshotter) refl (counted k j m shards (apart_rest s shards apart))
    where
      go : (r : Ordering) → text_cmp name s.snapshotter ≡ r
          → (j ≡ failures_at name shards + k → all_failures (put_shard (record { snapshotter = name; snaps = m; failures = j }) shards) ≡ all_failures shards + k)
          → all_failures (put_shard (record { snapshotter = name; snaps = m; failures = j }) (s ∷ shards)) ≡ all_failures (s ∷ shards) + k
      go Less is rest =
          let gone = none_at name s shards is apart in
          let new : j ≡ 0 + k = rw gone at at in
          rw is (omega (arith, new))
      go Equal is rest =
          let more : j ≡ s.failures + k = rw is at at in
          rw is (omega (arith, more))
      go Greater is rest =
          let more = rest (rw is at at) in
          rw is (omega (arith, more))
