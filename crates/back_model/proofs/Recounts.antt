-- A child more or less of a parent is counted.
use Rattle.std.proofs.Common.{◌≡◌, ◌+◌, ◌⊎◌, ℕ, Bool, true, false, refl, sym, ◌∙◌, ap, subst, inl, inr, arith}
use Rattle.std.proofs.Common.{List, [], ◌∷◌}
use Rattle.std.specs.Prelude.{cond, Option, Some, None, is_some, option_map, IfSome, IsSome, OnOk, OnErr, Result, Ok, Err}
use Rattle.std.proofs.lemmas.Bool.{cases_eq, eq-eqb, ne_eqb}
use Rattle.std.specs.Option.{option_map_or, unwrap_or}
use Rattle.std.specs.Ordering.{nat_cmp, eq_by_cmp, is_eq, match_ordering}
use Rattle.std.specs.declared.cmp.Ordering.{Ordering}
use Rattle.std.specs.declared.cmp.Ordering.TheVariants.{Less, Equal, Greater}
use Rattle.std.specs.Cmp.{nat_cmp_total}
use Rattle.std.specs.FinMap as finmap
use Rattle.std.specs.BTreeMap.{BTreeMap, is_at, get, IsOrdered, insert_entry, Updates, WritesThrough}
use Rattle.std.specs.List.Sorted.{IsStrictlySortedBy}
use Rattle.std.specs.Map.{lookup, keys_of, set_value}
use Rattle.std.proofs.lemmas.Map.{lookup-none}
use Rattle.std.proofs.lemmas.Map.Entries.{none_below_head}
use Rattle.std.proofs.lemmas.Map.Keys.{sorted_tail}
use Rattle.back_model.specs.Snaps.{Snaps, is_held, is_parent_held}
use Rattle.back_model.specs.Nodes.{parents_of, snaps_of, one_if, children_of, counted, AreCounted}
use Rattle.back_model.specs.declared.mem_backend.Node.{Node}
use Rattle.back_model.proofs.Entries.{found_in}
use Rattle.back_model.proofs.Counts.{looked_up, Puts, snap_put, children_put, counted_here, counted_apart}

-- an insertion at a key that is there isn't refused
pub was_put : {X E : Type 0} (result : Result X E) (old new : BTreeMap ℕ Node) (number : ℕ) (was node : Node) → get nat_cmp old number ≡ Some was
    → OnErr result (get nat_cmp old number ≡ None) → OnOk result (Updates nat_cmp old new number (Some node)) → OnOk result (new.entries ≡ insert_entry nat_cmp old.entries number node)
    → IsOrdered nat_cmp old → IsOrdered nat_cmp new → Puts old new number node
was_put (Ok x) old new number was node found absent updates entries was_ordered ordered = record { at = updates.0; entries = entries; was_ordered = was_ordered; ordered = ordered }
was_put (Err e) old new number was node found absent updates entries was_ordered ordered = absurd (let both : Some was ≡ None = sym found ∙ absent in cc)

-- a node that is set where its number is found is put in
set_is_put : (k : ℕ) (es : List (ℕ × Node)) (was node : Node)
    → IsStrictlySortedBy nat_cmp (keys_of es) → lookup (is_at (nat_cmp k)) es ≡ Some was
    → set_value (is_at (nat_cmp k)) es node ≡ insert_entry nat_cmp es k node
set_is_put k [] was node order found = absurd cc
set_is_put k (e ∷ es) was node order found =
    go (nat_cmp k e.0) refl
    (set_is_put k es was node (sorted_tail nat_cmp e.0 (keys_of es) order))
  where
    set : Ordering → List (ℕ × Node)
    set r = cond (is_eq r) ((e.0, node) ∷ es) (e ∷ set_value (is_at (nat_cmp k)) es node)

    put : Ordering → List (ℕ × Node)
    put r = match_ordering r ((k, node) ∷ e ∷ es) ((e.0, node) ∷ es)
        (e ∷ insert_entry nat_cmp es k node)

    go : (r : Ordering) → nat_cmp k e.0 ≡ r
        → (lookup (is_at (nat_cmp k)) es ≡ Some was
        → set_value (is_at (nat_cmp k)) es node ≡ insert_entry nat_cmp es k node)
        → set_value (is_at (nat_cmp k)) (e ∷ es) node ≡ insert_entry nat_cmp (e ∷ es) k node
    go Less is rest = absurd (
        let none = lookup-none (is_at (nat_cmp k)) (e ∷ es)
        (none_below_head nat_cmp_total k e es order is) in
        let both : Some was ≡ None = sym found ∙ none in cc)
    go Equal is rest = ap set is ∙ sym (ap put is)
    go Greater is rest =
        let later = sym (ap (λ r. cond (is_eq r) (Some e.1) (lookup (is_at (nat_cmp k)) es)) is)
        ∙ found in
        ap set is ∙ ap (λ left. e ∷ left) (rest later) ∙ sym (ap put is)

-- a node that is written where its number is found is put in
pub was_set : (old new : BTreeMap ℕ Node) (number : ℕ) (was node : Node)
    → get nat_cmp old number ≡ Some was → IsOrdered nat_cmp old
    → WritesThrough nat_cmp (nat_cmp number) old node new → Puts old new number node
was_set old new number was node found order writes = record {
  at = (writes.3 (ap is_some found)).0;
  entries = writes.0 ∙ set_is_put number old.entries was node order found;
  was_ordered = order;
  ordered = writes.4;
}

-- the value that is there, put in again, changes nothing
put_back : (m : Snaps) (k : ℕ) (v : Option ℕ) → finmap.get m k ≡ Some v → finmap.insert m k v ≡ m
put_back m k v h = finmap.same_map nat_cmp_total finmap.nat_cmp-IsAntisymmetric _ _ (λ q. finmap.get-insert nat_cmp_total m k v q ∙ go q (nat_cmp q k) refl)
  where
    go : (q : ℕ) (r : Ordering) → nat_cmp q k ≡ r → cond (eq_by_cmp nat_cmp q k) (Some v) (finmap.get m q) ≡ finmap.get m q
    go q Less e = ap (λ (s : Ordering). cond (is_eq s) (Some v) (finmap.get m q)) e
    go q Equal e = ap (λ (s : Ordering). cond (is_eq s) (Some v) (finmap.get m q)) e ∙ sym h ∙ finmap.get_tied nat_cmp_total m q k e
    go q Greater e = ap (λ (s : Ordering). cond (is_eq s) (Some v) (finmap.get m q)) e

pub one_here : (n : ℕ) → one_if n (Some n) ≡ 1
one_here n = ap (λ b. cond b 1 0) (eq-eqb n n refl)

none_apart : (a n : ℕ) → (a ≡ n → ⊥) → one_if n (Some a) ≡ 0
none_apart a n ne = ap (λ b. cond b 1 0) (ne_eqb a n ne)

-- what is counted for a snapshot that is there
pub counted_found : (nodes : BTreeMap ℕ Node) (n : ℕ) (node : Node) → get nat_cmp nodes n ≡ Some node → counted n nodes ≡ node.children
counted_found nodes n node found = ap (λ (o : Option Node). option_map_or (λ x. x.children) o 0) found

-- the snapshot that the finite map has is there
pub there : (old : BTreeMap ℕ Node) (m : Snaps) (n : ℕ) → snaps_of old ≡ m → option_map (λ node. node.parent) (get nat_cmp old n) ≡ finmap.get m n
there old m n view = sym (looked_up n old.entries) ∙ found_in (parents_of old.entries) m n view

module _ {old new : BTreeMap ℕ Node} {above : ℕ} {was node : Node} (found : get nat_cmp old above ≡ Some was) (same : node.parent ≡ was.parent) (p : Puts old new above node) where
  -- the snapshots are the same
  pub snaps_same : snaps_of new ≡ snaps_of old
  snaps_same =
      snap_put (snaps_of old) refl p
      ∙ put_back (snaps_of old) above node.parent (sym (there old (snaps_of old) above refl) ∙ ap (option_map (λ (x : Node). x.parent)) found ∙ ap (λ x. Some x) (sym same))

  -- and so are the numbers of children
  children_same : (n : ℕ) → children_of n new ≡ children_of n old
  children_same n =
      let sums = children_put n p in
      let left : unwrap_or (option_map (λ (x : Node). one_if n x.parent) (get nat_cmp old above)) 0 ≡ one_if n was.parent =
      ap (λ (o : Option Node). unwrap_or (option_map (λ x. one_if n x.parent) o) 0) found in
      let even : one_if n node.parent ≡ one_if n was.parent = ap (one_if n) same in
      omega arith

  -- one child more
  pub more : ((n : ℕ) → counted n old + one_if n (Some above) ≡ children_of n old) → node.children ≡ was.children + 1 → AreCounted new
  more each rise = record { order = p.ordered; each = λ n. go n (cases_eq above n) }
    where
      go : (n : ℕ) → (above ≡ n) ⊎ (above ≡ n → ⊥) → counted n new ≡ children_of n new
      go n (inl e) = subst (λ k. counted k new ≡ children_of k new) e
          (let a = each above in let b = children_same above in let c = counted_found old above was found in let d = counted_here p in let one = one_here above in omega arith)
      go n (inr ne) = let a = each n in let b = children_same n in let c = counted_apart n ne p in let none = none_apart above n ne in omega arith

  -- one child less
  pub less : ((n : ℕ) → counted n old ≡ children_of n old + one_if n (Some above)) → node.children + 1 ≡ was.children → AreCounted new
  less each fall = record { order = p.ordered; each = λ n. go n (cases_eq above n) }
    where
      go : (n : ℕ) → (above ≡ n) ⊎ (above ≡ n → ⊥) → counted n new ≡ children_of n new
      go n (inl e) = subst (λ k. counted k new ≡ children_of k new) e
          (let a = each above in let b = children_same above in let c = counted_found old above was found in let d = counted_here p in let one = one_here above in omega arith)
      go n (inr ne) = let a = each n in let b = children_same n in let c = counted_apart n ne p in let none = none_apart above n ne in omega arith

module _ {old new : BTreeMap ℕ Node} {number : ℕ} {node : Node} (m : Snaps) (view : snaps_of old ≡ m) (p : Puts old new number node) where
  -- a snapshot that isn't held has no node
  no_node : is_held m number ≡ false → get nat_cmp old number ≡ None
  no_node h = go (get nat_cmp old number) (ap is_some (there old m number view) ∙ h)
    where
      go : (o : Option Node) → is_some (option_map (λ x. x.parent) o) ≡ false → o ≡ None
      go None e = refl
      go (Some x) e = absurd cc

  -- the parent of a new snapshot is there
  pub parent_there : (parent : Option ℕ) → is_parent_held m parent ≡ true → IfSome parent (λ above. IsSome (get nat_cmp new above))
  parent_there None h = tt
  parent_there (Some above) h = ap is_some (p.at above) ∙ go (is_at (nat_cmp number) above) (get nat_cmp old above) (ap is_some (there old m above view) ∙ h)
    where
      go : (b : Bool) (o : Option Node) → is_some (option_map (λ x. x.parent) o) ≡ true → is_some (cond b (Some node) o) ≡ true
      go true o e = refl
      go false None e = absurd cc
      go false (Some x) e = refl

  -- a new snapshot's parent has one child more, which isn't counted yet
  pub after_put : is_held m number ≡ false → AreCounted old → node.children ≡ 0 → (n : ℕ) → counted n new + one_if n node.parent ≡ children_of n new
  after_put absent a none n =
      let sums = children_put n p in
      let left : unwrap_or (option_map (λ (x : Node). one_if n x.parent) (get nat_cmp old number)) 0 ≡ 0 =
      ap (λ (o : Option Node). unwrap_or (option_map (λ x. one_if n x.parent) o) 0) (no_node absent) in
      let each = a.each n in
      let same = go (cases_eq number n) in
      omega arith
    where
      go : (number ≡ n) ⊎ (number ≡ n → ⊥) → counted n new ≡ counted n old
      go (inl e) = subst (λ k. counted k new ≡ counted k old) e (counted_here p ∙ none ∙ sym (ap (λ (o : Option Node). option_map_or (λ x. x.children) o 0) (no_node absent)))
      go (inr ne) = counted_apart n ne p
