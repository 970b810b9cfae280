-- A snapshot that is looked for in the list of all is what its shard has at the number.
use Rattle.std.proofs.Common.{◌≡◌, ℕ, List, [], ◌∷◌, map, Bool, true, false, refl, sym, ◌∙◌, ap, subst}
use Rattle.std.specs.Prelude.{Option, Some, None, bytes_eq, find, option_map, cond, ◌==◌}
use Rattle.std.specs.List.{AllByRecursion}
use Rattle.std.specs.Option.{option_or}
use Rattle.std.specs.declared.cmp.Ordering.{Ordering}
use Rattle.std.specs.declared.cmp.Ordering.TheVariants.{Less, Equal, Greater}
use Rattle.std.specs.Ordering.{is_eq, nat_cmp, ordering_reverse}
use Rattle.std.specs.Cmp.Lexicographic.{nat_list_cmp_total}
use Rattle.std.specs.FinMap as finmap
use Rattle.std.proofs.lemmas.Bool.{eqb-true}
use Rattle.std.proofs.lemmas.Cmp.{tied_itself}
use Rattle.std.proofs.lemmas.List.Folds.{find-append}
use Rattle.std.proofs.lemmas.Map.Text.{is_eq-slice_cmp}
use Rattle.meta_types.specs.Text.{Text, text_cmp}
use Rattle.meta_types.specs.Rows.{BackSnap}
use Rattle.meta_types.specs.Backends.{is_named}
use Rattle.back_model.specs.Snaps.{Snaps}
use Rattle.back_model.specs.Shown.{Shard, AreApart, snaps_at, back_snap, snaps_in, all_snaps}
use Rattle.back_model.proofs.Entries.{Parents}
use Rattle.back_model.proofs.Listed.{no_entries, AreAll, all_of, all_behind}
use Rattle.back_model.proofs.ShardPlaces.{none_at, apart_rest, apart_head, behind, same_name}
use Rattle.back_model.proofs.Sets.{equal_number}

flipped : (r : Ordering) → is_eq (ordering_reverse r) ≡ is_eq r
flipped Less = refl
flipped Equal = refl
flipped Greater = refl

same_bytes : (a b : Text) (r : Ordering) → text_cmp a b ≡ r → bytes_eq b a ≡ is_eq r
same_bytes a b r is = sym (is_eq-slice_cmp b a) ∙ ap is_eq (nat_list_cmp_total.antisymm b a ∙ ap ordering_reverse is) ∙ flipped r

-- none of another snapshotter has the name
pub none_found : (r : Ordering) → is_eq r ≡ false → (name : Text) (n : ℕ) (snaps : List BackSnap) → AreAll r name snaps → find (is_named (name, n)) snaps ≡ None
none_found r apart name n [] h = refl
none_found r apart name n (snap ∷ snaps) h = rw (same_bytes name snap.snapshotter r h.0 ∙ apart) (none_found r apart name n snaps h.1)

module _ (name : Text) (n : ℕ) where
  abbrev snap_with : Option ℕ → BackSnap
  snap_with p = back_snap name (n, p)

  first_here : (e : ℕ × Option ℕ) (es : Parents) (b : Bool) → (e.0 == n) ≡ b → find (is_named (name, n)) (map (back_snap name) es) ≡ option_map snap_with (finmap.find nat_cmp n es)
      → cond b (Some (back_snap name e)) (find (is_named (name, n)) (map (back_snap name) es)) ≡ option_map snap_with (cond b (Some e.1) (finmap.find nat_cmp n es))
  first_here e es true is rest = ap (λ (k : ℕ). Some (back_snap name (k, e.1))) (eqb-true e.0 n is)
  first_here e es false is rest = rest

  pub in_entries : (es : Parents) → find (is_named (name, n)) (map (back_snap name) es) ≡ option_map snap_with (finmap.find nat_cmp n es)
  in_entries [] = refl
  in_entries (e ∷ es) = rw (equal_number n e.0, same_bytes name name Equal (tied_itself nat_list_cmp_total name)) (first_here e es (e.0 == n) refl (in_entries es))

  pub in_shard : (m : Snaps) → find (is_named (name, n)) (map (back_snap name) (finmap.entries m)) ≡ option_map snap_with (finmap.get m n)
  in_shard m = in_entries (finmap.entries m) ∙ ap (option_map snap_with) (sym (finmap.get-entries m n))

  or_none : (o : Option BackSnap) → option_or o None ≡ o
  or_none None = refl
  or_none (Some x) = refl

  -- what is found in the list of all
  pub found_is : (shards : List Shard) → AreApart shards → find (is_named (name, n)) (all_snaps shards) ≡ option_map snap_with (finmap.get (snaps_at name shards) n)
  found_is [] apart = ap (λ (es : Parents). find (is_named (name, n)) (map (back_snap name) es)) (sym no_entries) ∙ in_shard finmap.empty
  found_is (s ∷ shards) apart = go (text_cmp name s.snapshotter) refl (found_is shards (apart_rest s shards apart))
    where
      go : (r : Ordering) → text_cmp name s.snapshotter ≡ r → find (is_named (name, n)) (all_snaps shards) ≡ option_map snap_with (finmap.get (snaps_at name shards) n)
          → find (is_named (name, n)) (all_snaps (s ∷ shards)) ≡ option_map snap_with (finmap.get (snaps_at name (s ∷ shards)) n)
      go Less is rest =
          let gone : snaps_at name (s ∷ shards) ≡ finmap.empty = rw (none_at name s shards is apart) refl in
          none_found Less refl name n (all_snaps (s ∷ shards)) (all_behind name (s ∷ shards) (behind name s shards is apart))
          ∙ ap (λ (es : Parents). find (is_named (name, n)) (map (back_snap name) es)) (sym no_entries) ∙ in_shard finmap.empty
          ∙ ap (λ (m : Snaps). option_map snap_with (finmap.get m n)) (sym gone)
      go Equal is rest =
          let same = same_name name s.snapshotter is in
          let later = subst (λ (t : Text). AllByRecursion (λ y. text_cmp t y ≡ Less) (map (λ x. x.snapshotter) shards)) (sym same) (apart_head s shards apart) in
          let none = none_found Less refl name n (all_snaps shards) (all_behind name shards later) in
          let here : find (is_named (name, n)) (snaps_in s) ≡ option_map snap_with (finmap.get s.snaps n)
          = ap (λ (t : Text). find (is_named (name, n)) (map (back_snap t) (finmap.entries s.snaps))) (sym same) ∙ in_shard s.snaps in
          rw is (find-append (is_named (name, n)) (snaps_in s) (all_snaps shards) ∙ ap (option_or (find (is_named (name, n)) (snaps_in s))) none ∙ or_none (find (is_named (name, n)) (snaps_in s)) ∙ here)
      go Greater is rest =
          let none = none_found Greater refl name n (snaps_in s) (all_of Greater name s.snapshotter is (finmap.entries s.snaps)) in
          rw is (find-append (is_named (name, n)) (snaps_in s) (all_snaps shards) ∙ ap (λ (o : Option BackSnap). option_or o (find (is_named (name, n)) (all_snaps shards))) none ∙ rest)
