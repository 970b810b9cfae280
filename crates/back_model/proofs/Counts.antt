-- The children of each snapshot are counted.
use Rattle.std.proofs.Common.{◌≡◌, ◌≤◌, ◌+◌, ◌⊎◌, ℕ, suc, List, [], ◌∷◌, length, Bool, true, false, refl, sym, ◌∙◌, ap, subst, inl, inr, arith}
use Rattle.std.specs.Prelude.{cond, Option, Some, None, nat_lt, option_map, sum_by}
use Rattle.std.proofs.lemmas.Bool.{cases_Bool, cases_eq, eq-eqb, ne_eqb, lt-ltb, le-ltb, ltb-false}
use Rattle.std.specs.List.{list_any}
use Rattle.std.specs.List.Sorted.{IsStrictlySortedBy}
use Rattle.std.specs.Option.{option_map_or, unwrap_or}
use Rattle.std.specs.Ordering.{nat_cmp}
use Rattle.std.specs.Cmp.{nat_cmp_total}
use Rattle.std.specs.FinMap as finmap
use Rattle.std.specs.Map.{lookup, keys_of, values_of, remove_entry}
use Rattle.std.specs.BTreeMap.{BTreeMap, is_at, get, IsOrdered, insert_entry}
use Rattle.std.proofs.lemmas.List.Sums.{sum_by-cons}
use Rattle.std.proofs.lemmas.Map.Entries.{sum_by-insert_entry, sum_by-remove_entry}
use Rattle.back_model.specs.Snaps.{Snaps, is_number, has_child}
use Rattle.back_model.specs.Nodes.{parents_of, snaps_of, one_if, children_of, counted, AreCounted}
use Rattle.back_model.specs.declared.mem_backend.Node.{Node}
use Rattle.back_model.proofs.Entries.{put_in, taken_out, any_parent}

-- entries of nodes
abbrev pub Entries : Type 0
Entries = List (ℕ × Node)

-- a look-up finds the parent of the node that it finds
pub looked_up : (q : ℕ) (es : Entries) → lookup (is_at (nat_cmp q)) (parents_of es) ≡ option_map (λ node. node.parent) (lookup (is_at (nat_cmp q)) es)
looked_up q [] = refl
looked_up q (e ∷ es) = elim (cases_Bool (is_at (nat_cmp q) e.0)) [
  | inl t ↦ rw t refl
  | inr f ↦ rw f (looked_up q es)
]

-- the keys are the same
pub same_keys : (es : Entries) → keys_of (parents_of es) ≡ keys_of es
same_keys [] = refl
same_keys (e ∷ es) = ap (λ ks. e.0 ∷ ks) (same_keys es)

-- and as many
pub as_many : (es : Entries) → length (parents_of es) ≡ length es
as_many [] = refl
as_many (e ∷ es) = ap suc (as_many es)

pub parents_in_order : (nodes : BTreeMap ℕ Node) → IsOrdered nat_cmp nodes → IsStrictlySortedBy nat_cmp (keys_of (parents_of nodes.entries))
parents_in_order nodes order = subst (IsStrictlySortedBy nat_cmp) (sym (same_keys nodes.entries)) order

-- some snapshot has the parent where there are such
some_child : (n : ℕ) (es : Entries) → list_any (is_number n) (values_of (parents_of es)) ≡ nat_lt 0 (sum_by (λ node. one_if n node.parent) (values_of es))
some_child n [] = refl
some_child n (e ∷ es) = elim (cases_Bool (is_number n e.1.parent)) [
  | inl t ↦ (
      let sum : sum_by (λ node. one_if n node.parent) (values_of (e ∷ es)) ≡ 1 + sum_by (λ node. one_if n node.parent) (values_of es) =
      sum_by-cons (λ (node : Node). one_if n node.parent) e.1 (values_of es) ∙ ap (λ (b : Bool). cond b 1 0 + sum_by (λ node. one_if n node.parent) (values_of es)) t in
      rw sum (rw t (sym (lt-ltb 0 (1 + sum_by (λ node. one_if n node.parent) (values_of es)) (omega arith)))))
  | inr f ↦ (
      let one = sum_by-cons (λ (node : Node). one_if n node.parent) e.1 (values_of es) ∙ ap (λ (b : Bool). cond b 1 0 + sum_by (λ node. one_if n node.parent) (values_of es)) f in
      let sum : sum_by (λ node. one_if n node.parent) (values_of (e ∷ es)) ≡ sum_by (λ node. one_if n node.parent) (values_of es) = omega arith in
      rw sum (rw f (some_child n es)))
]

-- a snapshot is a parent where it has children
pub is_parent : (n : ℕ) (nodes : BTreeMap ℕ Node) (m : Snaps) → snaps_of nodes ≡ m → IsOrdered nat_cmp nodes → has_child m n ≡ nat_lt 0 (children_of n nodes)
is_parent n nodes m view order = sym (any_parent (parents_of nodes.entries) m n view (parents_in_order nodes order)) ∙ some_child n nodes.entries

-- and where children are counted for it
pub is_counted : (found : Option Node) (k : ℕ) → option_map_or (λ node. node.children) found 0 ≡ k → option_map_or (λ node. nat_lt 0 node.children) found false ≡ nat_lt 0 k
is_counted None k h = ap (nat_lt 0) h
is_counted (Some node) k h = ap (nat_lt 0) h

at_most_one : (n : ℕ) (p : Option ℕ) → one_if n p ≤ 1
at_most_one n p = go (is_number n p)
  where
    go : (b : Bool) → cond b 1 0 ≤ 1
    go true = omega arith
    go false = omega arith

-- there are no more children than snapshots
pub few : (n : ℕ) (es : Entries) → sum_by (λ node. one_if n node.parent) (values_of es) ≤ length es
few n [] = omega arith
few n (e ∷ es) =
    let rest = few n es in
    let sum = sum_by-cons (λ (node : Node). one_if n node.parent) e.1 (values_of es) in
    let one = at_most_one n e.1.parent in
    omega arith

-- what an entry that is put in changes
pub record Puts (old new : BTreeMap ℕ Node) (number : ℕ) (node : Node) : Type 0 where
  pub at : (q : ℕ) → get nat_cmp new q ≡ cond (is_at (nat_cmp number) q) (Some node) (get nat_cmp old q)
  pub entries : new.entries ≡ insert_entry nat_cmp old.entries number node
  pub was_ordered : IsOrdered nat_cmp old
  pub ordered : IsOrdered nat_cmp new

equal_at : (n : ℕ) → is_at (nat_cmp n) n ≡ true
equal_at n = rw (le-ltb n n (omega arith), eq-eqb n n refl) refl

apart_at : (a b : ℕ) → (a ≡ b → ⊥) → is_at (nat_cmp a) b ≡ false
apart_at a b ne = elim (cases_Bool (nat_lt a b)) [
  | inl t ↦ rw t refl
  | inr f ↦ rw (f, ne_eqb a b ne) refl
]

chosen : {A B : Type 0} (f : A → B) (b : Bool) (x : A) (o : Option A) → option_map f (cond b (Some x) o) ≡ cond b (Some (f x)) (option_map f o)
chosen f true x o = refl
chosen f false x o = refl

module _ {old new : BTreeMap ℕ Node} {number : ℕ} {node : Node} where
  -- the snapshot is put in
  pub snap_put : (m : Snaps) → snaps_of old ≡ m → Puts old new number node → snaps_of new ≡ finmap.insert m number node.parent
  snap_put m view p =
      put_in (parents_of new.entries) (parents_of old.entries) m number node.parent view
      (λ q. looked_up q new.entries
      ∙ ap (option_map (λ (x : Node). x.parent)) (p.at q)
      ∙ chosen (λ (x : Node). x.parent) (is_at (nat_cmp number) q) node (get nat_cmp old q)
      ∙ ap (λ (o : Option (Option ℕ)). cond (is_at (nat_cmp number) q) (Some node.parent) o) (sym (looked_up q old.entries)))

  -- how many children there are after it
  pub children_put : (n : ℕ) → Puts old new number node
      → children_of n new + unwrap_or (option_map (λ (x : Node). one_if n x.parent) (get nat_cmp old number)) 0 ≡ children_of n old + one_if n node.parent
  children_put n p =
      ap (λ (es : Entries). sum_by (λ x. one_if n x.parent) (values_of es) + unwrap_or (option_map (λ (x : Node). one_if n x.parent) (get nat_cmp old number)) 0) p.entries
      ∙ sum_by-insert_entry (λ (x : Node). one_if n x.parent) nat_cmp_total old.entries number node p.was_ordered

  -- what is counted after it
  pub counted_here : Puts old new number node → counted number new ≡ node.children
  counted_here p = ap (λ (o : Option Node). option_map_or (λ x. x.children) o 0) (p.at number ∙ ap (λ b. cond b (Some node) (get nat_cmp old number)) (equal_at number))

  pub counted_apart : (n : ℕ) → (number ≡ n → ⊥) → Puts old new number node → counted n new ≡ counted n old
  counted_apart n ne p = ap (λ (o : Option Node). option_map_or (λ x. x.children) o 0) (p.at n ∙ ap (λ b. cond b (Some node) (get nat_cmp old n)) (apart_at number n ne))

-- what an entry that is taken out changes
pub record Takes (old new : BTreeMap ℕ Node) (number : ℕ) : Type 0 where
  pub at : (q : ℕ) → get nat_cmp new q ≡ cond (is_at (nat_cmp number) q) None (get nat_cmp old q)
  pub entries : new.entries ≡ remove_entry (is_at (nat_cmp number)) old.entries
  pub ordered : IsOrdered nat_cmp new

none_chosen : {A B : Type 0} (f : A → B) (b : Bool) (o : Option A) → option_map f (cond b None o) ≡ cond b None (option_map f o)
none_chosen f true o = refl
none_chosen f false o = refl

module _ {old new : BTreeMap ℕ Node} {number : ℕ} where
  -- the snapshot is taken out
  pub snap_taken : (m : Snaps) → snaps_of old ≡ m → Takes old new number → snaps_of new ≡ finmap.remove m number
  snap_taken m view t =
      taken_out (parents_of new.entries) (parents_of old.entries) m number view
      (λ q. looked_up q new.entries
      ∙ ap (option_map (λ (x : Node). x.parent)) (t.at q)
      ∙ none_chosen (λ (x : Node). x.parent) (is_at (nat_cmp number) q) (get nat_cmp old q)
      ∙ ap (λ (o : Option (Option ℕ)). cond (is_at (nat_cmp number) q) None o) (sym (looked_up q old.entries)))

  -- its parent has one child less, which is still counted
  pub after_taken : (node : Node) → get nat_cmp old number ≡ Some node → counted number old ≡ 0 → ((n : ℕ) → counted n old ≡ children_of n old) → Takes old new number
      → (n : ℕ) → counted n new ≡ children_of n new + one_if n node.parent
  after_taken node found none each t n =
      let less : children_of n new + one_if n node.parent ≡ children_of n old =
      ap (λ (es : Entries). sum_by (λ x. one_if n x.parent) (values_of es) + one_if n node.parent) t.entries
      ∙ ap (λ (o : Option Node). sum_by (λ x. one_if n x.parent) (values_of (remove_entry (is_at (nat_cmp number)) old.entries)) + unwrap_or (option_map (λ x. one_if n x.parent) o) 0) (sym found)
      ∙ sum_by-remove_entry (λ (x : Node). one_if n x.parent) (is_at (nat_cmp number)) old.entries in
      same (cases_eq number n) ∙ each n ∙ sym less
    where
      same : (number ≡ n) ⊎ (number ≡ n → ⊥) → counted n new ≡ counted n old
      same (inl e) = subst (λ k. counted k new ≡ counted k old) e
          (ap (λ (o : Option Node). option_map_or (λ x. x.children) o 0) (t.at number ∙ ap (λ b. cond b None (get nat_cmp old number)) (equal_at number)) ∙ sym none)
      same (inr ne) = ap (λ (o : Option Node). option_map_or (λ x. x.children) o 0) (t.at n ∙ ap (λ b. cond b None (get nat_cmp old n)) (apart_at number n ne))

-- a snapshot that is no parent has no child counted
pub none_counted : (n : ℕ) (nodes : BTreeMap ℕ Node) (m : Snaps) → snaps_of nodes ≡ m → AreCounted nodes → has_child m n ≡ false → counted n nodes ≡ 0
none_counted n nodes m view a none =
    let few = ltb-false 0 (children_of n nodes) (sym (is_parent n nodes m view a.order) ∙ none) in let e = a.each n in omega arith
