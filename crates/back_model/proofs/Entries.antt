-- Entries of an ordered map, seen as a finite map.
use Rattle.std.proofs.Common.{◌≡◌, ◌≢◌, ℕ, List, [], ◌∷◌, Bool, true, false, refl, sym, ◌∙◌, ap, subst}
use Rattle.std.specs.Prelude.{cond, Option, Some, None, ◌&&◌, ◌||◌}
use Rattle.std.proofs.lemmas.Bool.{eq-eqb}
use Rattle.std.proofs.Math.Dec.{T}
use Rattle.std.specs.List.{AllByRecursion, list_any}
use Rattle.std.specs.declared.cmp.Ordering.TheVariants.{Less}
use Rattle.std.specs.Ordering.{nat_cmp, eq_by_cmp, is_lt}
use Rattle.std.specs.Cmp.{nat_cmp_total, eq_by_cmp_equiv}
use Rattle.std.specs.FinMap as finmap
use Rattle.std.specs.FinMap.Entries.{is_sorted, below_all}
use Rattle.std.specs.Map.{lookup, keys_of, values_of}
use Rattle.std.specs.BTreeMap.{is_at}
use Rattle.std.specs.List.Sorted.{IsStrictlySortedBy}
use Rattle.std.proofs.lemmas.Map.Keys.{sorted_head, sorted_tail}
use Rattle.back_model.specs.Snaps.{Snaps, is_number, has_child}

-- entries of snapshots
abbrev pub Parents : Type 0
Parents = List (ℕ × Option ℕ)

-- the snapshots of entries
abbrev pub from_parents : Parents → Snaps
from_parents es = finmap.from_entries {R = nat_cmp} es

-- a look-up finds what the finite map has
pub looked_up : (es : Parents) (q : ℕ) → finmap.get (from_parents es) q ≡ lookup (is_at (nat_cmp q)) es
looked_up es q = finmap.get-from_entries nat_cmp_total es q ∙ found es
  where
    found : (fs : Parents) → finmap.find nat_cmp q fs ≡ lookup (is_at (nat_cmp q)) fs
    found [] = refl
    found (e ∷ fs) = ap (cond (eq_by_cmp nat_cmp q e.0) (Some e.1)) (found fs)

-- what the model's map has at a number
pub found_in : (es : Parents) (m : Snaps) (q : ℕ) → from_parents es ≡ m → lookup (is_at (nat_cmp q)) es ≡ finmap.get m q
found_in es m q view = sym (looked_up es q) ∙ ap (λ (x : Snaps). finmap.get x q) view

-- a map that has the value at the key, and elsewhere what it had, is the map with that entry put in
pub put_in : (new old : Parents) (m : Snaps) (n : ℕ) (p : Option ℕ) → from_parents old ≡ m
    → ((q : ℕ) → lookup (is_at (nat_cmp q)) new ≡ cond (is_at (nat_cmp n) q) (Some p) (lookup (is_at (nat_cmp q)) old))
    → from_parents new ≡ finmap.insert m n p
put_in new old m n p view is =
    finmap.same_map nat_cmp_total finmap.nat_cmp-IsAntisymmetric _ _ (λ q.
    looked_up new q
    ∙ is q
    ∙ ap (λ (o : Option (Option ℕ)). cond (eq_by_cmp nat_cmp n q) (Some p) o) (found_in old m q view)
    ∙ ap (λ (b : Bool). cond b (Some p) (finmap.get m q)) ((eq_by_cmp_equiv nat_cmp_total).symm n q)
    ∙ sym (finmap.get-insert nat_cmp_total m n p q))

-- a map that has no value at the key, and elsewhere what it had, is the map with that entry taken
-- out
pub taken_out : (new old : Parents) (m : Snaps) (n : ℕ) → from_parents old ≡ m
    → ((q : ℕ) → lookup (is_at (nat_cmp q)) new ≡ cond (is_at (nat_cmp n) q) None (lookup (is_at (nat_cmp q)) old))
    → from_parents new ≡ finmap.remove m n
taken_out new old m n view is =
    finmap.same_map nat_cmp_total finmap.nat_cmp-IsAntisymmetric _ _ (λ q.
    looked_up new q
    ∙ is q
    ∙ ap (λ (o : Option (Option ℕ)). cond (eq_by_cmp nat_cmp n q) None o) (found_in old m q view)
    ∙ ap (λ (b : Bool). cond b None (finmap.get m q)) ((eq_by_cmp_equiv nat_cmp_total).symm n q)
    ∙ sym (finmap.get-remove nat_cmp_total m n q))

both : (a b : Bool) → T a → T b → T (a && b)
both true b p q = q
both false b p q = absurd p

below : (k : ℕ) (es : Parents) → AllByRecursion (λ y. nat_cmp k y ≡ Less) (keys_of es) → T (below_all nat_cmp k es)
below k [] h = tt
below k (e ∷ es) h = both (is_lt (nat_cmp k e.0)) (below_all nat_cmp k es) (subst (λ r. T (is_lt r)) (sym h.0) tt) (below k es h.1)

sorted : (es : Parents) → IsStrictlySortedBy nat_cmp (keys_of es) → T (is_sorted nat_cmp es)
sorted [] h = tt
sorted (e ∷ es) h =
    both (below_all nat_cmp e.0 es) (is_sorted nat_cmp es) (below e.0 es (sorted_head nat_cmp e.0 (keys_of es) h)) (sorted es (sorted_tail nat_cmp e.0 (keys_of es) h))

-- entries in order are those of their finite map
pub entries_of : (es : Parents) (m : Snaps) → from_parents es ≡ m → IsStrictlySortedBy nat_cmp (keys_of es) → finmap.entries m ≡ es
entries_of es m view ordered =
    let in_order = sorted es ordered in
    let same : finmap.from_sorted {R = nat_cmp} es ≡ from_parents es = finmap.same_map nat_cmp_total finmap.nat_cmp-IsAntisymmetric _ _ (λ q. finmap.get-from_sorted nat_cmp es q in_order ∙ sym (finmap.get-from_entries nat_cmp_total es q)) in
    ap finmap.entries (sym view) ∙ ap finmap.entries (sym same) ∙ finmap.entries-from_sorted nat_cmp es in_order

-- the entries' values are passed over
pub any_parent : (es : Parents) (m : Snaps) (n : ℕ) → from_parents es ≡ m → IsStrictlySortedBy nat_cmp (keys_of es) → list_any (is_number n) (values_of es) ≡ has_child m n
any_parent es m n view ordered = any_value es ∙ ap (λ (fs : Parents). list_any (λ e. is_number n e.1) fs) (sym (entries_of es m view ordered))
  where
    any_value : (fs : Parents) → list_any (is_number n) (values_of fs) ≡ list_any (λ (e : ℕ × Option ℕ). is_number n e.1) fs
    any_value [] = refl
    any_value (e ∷ fs) = ap (λ b. is_number n e.1 || b) (any_value fs)

module _ (n c : ℕ) where
  is_child : (p : Option ℕ) → Some p ≡ Some (Some n) → is_number n p ≡ true
  is_child p e = let q : p ≡ Some n = cc in ap (is_number n) q ∙ eq-eqb n n refl

  neither : (a b : Bool) → (a || b) ≡ false → (a ≡ false) × (b ≡ false)
  neither true b e = absurd cc
  neither false b e = (refl, e)

  none_found : (es : Parents) → list_any (λ (e : ℕ × Option ℕ). is_number n e.1) es ≡ false → finmap.find nat_cmp c es ≢ Some (Some n)
  none_found [] none e = absurd cc
  none_found (e ∷ es) none found = pick (eq_by_cmp nat_cmp c e.0) found (none_found es (neither (is_number n e.1) _ none).1)
    where
      pick : (b : Bool) → cond b (Some e.1) (finmap.find nat_cmp c es) ≡ Some (Some n) → finmap.find nat_cmp c es ≢ Some (Some n) → ⊥
      pick true found later = let yes = is_child e.1 found in let no = (neither (is_number n e.1) _ none).0 in absurd cc
      pick false found later = later found

-- a snapshot that has no child is no snapshot's parent
pub no_child : (m : Snaps) (n c : ℕ) → has_child m n ≡ false → finmap.get m c ≢ Some (Some n)
no_child m n c none is = none_found n c (finmap.entries m) none (sym (finmap.get-entries m c) ∙ is)
