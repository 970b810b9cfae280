-- Whether a snapshot is held, by the list of all snapshots.
use Rattle.std.proofs.Common.{◌≡◌, ℕ, List, [], ◌∷◌, map, Bool, true, false, refl, sym, ◌∙◌, ap, subst}
use Rattle.std.specs.Prelude.{Option, Some, None, Result, bytes_eq, ◌==◌, ◌||◌}
use Rattle.std.specs.List.{list_any, AllByRecursion}
use Rattle.std.specs.Option.{option_map_or}
use Rattle.std.specs.declared.cmp.Ordering.{Ordering}
use Rattle.std.specs.declared.cmp.Ordering.TheVariants.{Less, Equal, Greater}
use Rattle.std.specs.Ordering.{is_eq, nat_cmp, eq_by_cmp, ordering_reverse}
use Rattle.std.specs.Cmp.Lexicographic.{nat_list_cmp_total}
use Rattle.std.specs.FinMap as finmap
use Rattle.std.proofs.lemmas.Cmp.{tied_itself}
use Rattle.std.proofs.lemmas.List.Folds.{list_any-append}
use Rattle.std.proofs.lemmas.Map.Text.{is_eq-slice_cmp}
use Rattle.meta_types.specs.Text.{Text, text_cmp}
use Rattle.meta_types.specs.Rows.{BackSnap}
use Rattle.meta_types.specs.Backends.{is_named}
use Rattle.back_model.specs.Answers.{Makes}
use Rattle.back_model.specs.Snaps.{Snaps, is_held, is_parent_held}
use Rattle.back_model.specs.Shown.{Shard, AreApart, snaps_at, back_snap, snaps_in, all_snaps}
use Rattle.back_model.specs.declared.faults.MakeFault.{MakeFault}
use Rattle.back_model.proofs.Entries.{Parents}
use Rattle.back_model.proofs.Listed.{no_entries, AreAll, all_of, all_behind}
use Rattle.back_model.proofs.ShardPlaces.{none_at, apart_rest, apart_head, behind, same_name}
use Rattle.back_model.proofs.Sets.{equal_number}

or_none : (a b : Bool) → b ≡ false → (a || b) ≡ a
or_none true b h = refl
or_none false b h = h

flipped : (r : Ordering) → is_eq (ordering_reverse r) ≡ is_eq r
flipped Less = refl
flipped Equal = refl
flipped Greater = refl

same_bytes : (a b : Text) (r : Ordering) → text_cmp a b ≡ r → bytes_eq b a ≡ is_eq r
same_bytes a b r is = sym (is_eq-slice_cmp b a) ∙ ap is_eq (nat_list_cmp_total.antisymm b a ∙ ap ordering_reverse is) ∙ flipped r

none_named : (r : Ordering) → is_eq r ≡ false → (name : Text) (n : ℕ) (snaps : List BackSnap) → AreAll r name snaps → list_any (is_named (name, n)) snaps ≡ false
none_named r apart name n [] h = refl
none_named r apart name n (snap ∷ snaps) h = rw (same_bytes name snap.snapshotter r h.0 ∙ apart) (none_named r apart name n snaps h.1)

module _ (name : Text) (n : ℕ) where
  in_entries : (es : Parents) → list_any (eq_by_cmp nat_cmp n) (map (λ e. e.0) es) ≡ list_any (is_named (name, n)) (map (back_snap name) es)
  in_entries [] = refl
  in_entries (e ∷ es) = rw (equal_number n e.0, same_bytes name name Equal (tied_itself nat_list_cmp_total name)) (ap (λ b. e.0 == n || b) (in_entries es))

  in_shard : (m : Snaps) → is_held m n ≡ list_any (is_named (name, n)) (map (back_snap name) (finmap.entries m))
  in_shard m = finmap.contains_key-keys m n ∙ in_entries (finmap.entries m)

  -- a snapshotter's snapshot is held where the list of all has it
  pub held_is : (shards : List Shard) → AreApart shards → is_held (snaps_at name shards) n ≡ list_any (is_named (name, n)) (all_snaps shards)
  held_is [] apart = in_shard finmap.empty ∙ ap (λ (es : Parents). list_any (is_named (name, n)) (map (back_snap name) es)) no_entries
  held_is (s ∷ shards) apart = go (text_cmp name s.snapshotter) refl (held_is shards (apart_rest s shards apart))
    where
      go : (r : Ordering) → text_cmp name s.snapshotter ≡ r → is_held (snaps_at name shards) n ≡ list_any (is_named (name, n)) (all_snaps shards)
          → is_held (snaps_at name (s ∷ shards)) n ≡ list_any (is_named (name, n)) (all_snaps (s ∷ shards))
      go Less is rest =
          let gone : snaps_at name (s ∷ shards) ≡ finmap.empty = rw (none_at name s shards is apart) refl in
          ap (λ (m : Snaps). is_held m n) gone ∙ (in_shard finmap.empty ∙ ap (λ (es : Parents). list_any (is_named (name, n)) (map (back_snap name) es)) no_entries
          ∙ sym (none_named Less refl name n (all_snaps (s ∷ shards)) (all_behind name (s ∷ shards) (behind name s shards is apart))))
      go Equal is rest =
          let same = same_name name s.snapshotter is in
          let later = subst (λ t. AllByRecursion (λ y. text_cmp t y ≡ Less) (map (λ x. x.snapshotter) shards)) (sym same) (apart_head s shards apart) in
          rw is (in_shard s.snaps
          ∙ ap (λ t. list_any (is_named (name, n)) (map (back_snap t) (finmap.entries s.snaps))) same
          ∙ sym (or_none (list_any (is_named (name, n)) (snaps_in s)) (list_any (is_named (name, n)) (all_snaps shards)) (none_named Less refl name n (all_snaps shards) (all_behind name shards later)))
          ∙ sym (list_any-append (is_named (name, n)) (snaps_in s) (all_snaps shards)))
      go Greater is rest =
          let none = none_named Greater refl name n (snaps_in s) (all_of Greater name s.snapshotter is (finmap.entries s.snaps)) in
          rw is (rest ∙ sym (list_any-append (is_named (name, n)) (snaps_in s) (all_snaps shards) ∙ ap (λ b. b || list_any (is_named (name, n)) (all_snaps shards)) none))

-- and so is the parent that is named
pub parent_held_is : (name : Text) (parent : Option ℕ) (shards : List Shard) → AreApart shards
    → is_parent_held (snaps_at name shards) parent ≡ option_map_or (λ n. list_any (is_named (name, n)) (all_snaps shards)) parent true
parent_held_is name None shards apart = refl
parent_held_is name (Some n) shards apart = held_is name n shards apart

-- what a making answers, by the list of all snapshots
pub makes_named : (result : Result (Unit {0}) MakeFault) (name : Text) (n : ℕ) (parent : Option ℕ) (shards : List Shard) → AreApart shards
    → Makes result (is_held (snaps_at name shards) n) (is_parent_held (snaps_at name shards) parent)
    → Makes result (list_any (is_named (name, n)) (all_snaps shards)) (option_map_or (λ above. list_any (is_named (name, above)) (all_snaps shards)) parent true)
makes_named result name n parent shards apart made =
    subst (λ b. Makes result b (option_map_or (λ above. list_any (is_named (name, above)) (all_snaps shards)) parent true)) (held_is name n shards apart)
    (subst (λ b. Makes result (is_held (snaps_at name shards) n) b) (parent_held_is name parent shards apart) made)
