-- Sweeping a shard: one number more.
use Rattle.std.proofs.Common.{◌≡◌, ℕ, ◌+◌, List, [], ◌∷◌, ◌++◌, length, Bool, true, false, refl, sym, ◌∙◌, ap, subst, inl, inr, arith, append_assoc, length-append, ◌||◌}
use Rattle.std.specs.Prelude.{◌==◌, cond, Option, Some, None, IsSome}
use Rattle.std.specs.Ordering.{nat_cmp, eq_by_cmp}
use Rattle.std.specs.Cmp.{nat_cmp_total}
use Rattle.std.specs.FinMap as map
use Rattle.backend_sweep.specs.Shards.{IsHeld, IsChild, has}
use Rattle.back_model.specs.Snaps.{Snaps, parent_of}
use Rattle.backend_sweep.specs.declared.outcomes.Outcome.{Outcome}
use Rattle.backend_sweep.specs.declared.outcomes.Outcome.TheVariants as R
use Rattle.backend_sweep.specs.Sweep.{Swept, Childfirst, IsAncestor, Sweeps, Tries, put_of, with_parent, is_told}
use Rattle.backend_sweep.proofs.Listing.{or_cases, or_left, or_right, or_none, both_none, not_both, truth, has_push, push_cases, push_old, push_new, push_none, splits, front_member, has_at, swap3, swap_first, swap_last, climb_on, cmp_is, two_tests, order_grows, order_stays}
use Rattle.backend_sweep.proofs.Blocking.{Tried, puts, put_is, Blocks, parent_old, parent_new, parent_cases, child_of, parent_is}

-- the list, split at the number that comes next
pub record At (list done rest : List ℕ) (n : ℕ) (m0 m : Snaps) (f0 f : ℕ) (r : Swept) : Type 0 where
  pub split : list ≡ done ++ n ∷ rest
  pub first : Childfirst list m0
  pub so_far : Sweeps done m0 m f0 f r

module _ (list done rest : List ℕ) (n : ℕ) (m0 m : Snaps) (f0 f : ℕ) (r : Swept) (a : At list done rest n m0 m f0 f r) where
  abbrev s : Sweeps done m0 m f0 f r
  s = a.so_far

  pub fresh : has done n ≡ false
  fresh = a.first.once done rest n a.split

  not_in : (has r.removed n ≡ false) × (has r.failed n ≡ false) × (has r.kept n ≡ false)
  not_in =
      let one = or_none (has r.removed n) (has r.failed n || has r.kept n) (sym (s.sorted n) ∙ fresh) in
      let two = or_none (has r.failed n) (has r.kept n) one.1 in
      (one.0, two.0, two.1)

  now_is : (q : ℕ) → has r.removed q ≡ false → map.get m q ≡ map.get m0 q
  now_is q h = s.contents q ∙ ap (λ (b : Bool). cond b None (map.get m0 q)) h

  gone : (q p : ℕ) → IsChild m p q → has r.removed q ≡ true → ⊥
  gone q p child h =
      let none : map.get m q ≡ None = s.contents q ∙ ap (λ (b : Bool). cond b None (map.get m0 q)) h in
      let e : None ≡ Some (Some p) = sym none ∙ child in
      cc

  before : (q p : ℕ) → IsChild m p q → IsChild m0 p q
  before q p child =
      elim (truth (has r.removed q)) [ inl h ↦ absurd (gone q p child h) | inr h ↦ sym (now_is q h) ∙ child ]

  left : (q : ℕ) → (has r.failed q || has r.kept q) ≡ true → has r.removed q ≡ false
  left q h =
      elim (truth (has r.removed q)) [
        | inl k ↦ (let x = s.apart q k in absurd (not_both (has r.failed q || has r.kept q) h (both_none (has r.failed q) (has r.kept q) x.0 x.1)))
        | inr k ↦ k
      ]

  still : (q p : ℕ) → (has r.failed q || has r.kept q) ≡ true → IsChild m0 p q → IsChild m p q
  still q p h child = now_is q (left q h) ∙ child

  -- the next number is no child of what was passed, nor of itself
  earlier : (p : ℕ) → has done p ≡ true → IsChild m0 p n → ⊥
  earlier p h child =
      let sp = splits done p h in
      let at : list ≡ sp.0 ++ p ∷ (sp.1 ++ n ∷ rest) = a.split ∙ ap (λ (l : List ℕ). l ++ n ∷ rest) sp.2 ∙ append_assoc sp.0 (p ∷ sp.1) (n ∷ rest) in
      let there : has sp.0 n ≡ true = a.first.children sp.0 (sp.1 ++ n ∷ rest) p n at child in
      let inside : has done n ≡ true = ap (λ (l : List ℕ). has l n) sp.2 ∙ front_member sp.0 (p ∷ sp.1) n there in
      not_both (has done n) inside fresh

  itself : IsChild m0 n n → ⊥
  itself child = not_both (has done n) (a.first.children done rest n n a.split child) fresh

  -- what the next removal asks
  pub is_held : IsHeld m n
  is_held =
      let inside : has list n ≡ true = ap (λ (l : List ℕ). has l n) a.split ∙ has_at done rest n in
      subst (λ (o : Option (Option ℕ)). IsSome o) (sym (now_is n not_in.0)) (a.first.held n inside)

  pub children_left : (c : ℕ) → IsChild m n c → (has r.failed c || has r.kept c) ≡ true
  children_left c child =
      let then : has done c ≡ true = a.first.children done rest n c a.split (before c n child) in
      let some : is_told r c ≡ true = sym (s.sorted c) ∙ then in
      elim (or_cases (has r.removed c) (has r.failed c || has r.kept c) some) [ inl h ↦ absurd (gone c n child h) | inr h ↦ h ]

  -- the answer of a removal on the children, said of the beginning
  no_child : ((c : ℕ) → IsChild m n c → (has r.failed c || has r.kept c) ≡ false) → (q : ℕ) → (has r.failed q || has r.kept q) ≡ true → IsChild m0 n q → ⊥
  no_child none q h child = not_both (has r.failed q || has r.kept q) h (none q (still q n h child))

  gets_now : (q : ℕ) → cond (eq_by_cmp nat_cmp q n) None (map.get m q) ≡ cond (has (r.removed ++ n ∷ []) q) None (map.get m0 q)
  gets_now q =
      ap (λ (o : Option (Option ℕ)). cond (eq_by_cmp nat_cmp q n) None o) (s.contents q)
      ∙ two_tests (has r.removed q) (eq_by_cmp nat_cmp q n) (n == q) (map.get m0 q) (cmp_is q n)
      ∙ ap (λ (b : Bool). cond b None (map.get m0 q)) (sym (has_push r.removed n q))

  more_failed : f + 1 ≡ f0 + length (r.failed ++ n ∷ [])
  more_failed = let c : f ≡ f0 + length r.failed = s.count in omega (arith, length-append r.failed (n ∷ []))

  -- no child of what was passed is put among the failed or kept by the next number
  passed : (q p : ℕ) → n ≡ q → IsChild m0 p q → has (done ++ n ∷ []) p ≡ true → ⊥
  passed q p e child inside =
      let mine : IsChild m0 p n = subst (λ (x : ℕ). IsChild m0 p x) (sym e) child in
      elim (push_cases done n p inside) [ inl old ↦ earlier p old mine | inr same ↦ itself (subst (λ (x : ℕ). IsChild m0 x n) (sym same) mine) ]

  above : (c : ℕ) → (has r.failed c || has r.kept c) ≡ true → IsChild m0 n c → (g : ℕ) × (has r.failed g ≡ true) × IsAncestor m0 n g
  above c some child =
      elim (or_cases (has r.failed c) (has r.kept c) some) [
        | inl h ↦ (c, h, ([], (child, tt)))
        | inr h ↦ (let w = s.why c h in (w.0, w.1, (w.2.0 ++ c ∷ [], climb_on m0 w.0 w.2.0 c n w.2.1 child)))
      ]

  -- removed
  removed_more : (ps : List ℕ) (now : Snaps) → now ≡ map.remove m n → ((c : ℕ) → IsChild m n c → (has r.failed c || has r.kept c) ≡ false) → Sweeps (done ++ n ∷ []) m0 now f0 f (puts r n ps R.Removed)
  removed_more ps now is none = record {
    contents = λ q. ap (λ (x : Snaps). map.get x q) is ∙ map.get-remove nat_cmp_total m n q ∙ gets_now q;
    sorted = λ q. has_push done n q ∙ ap (λ (b : Bool). b || (n == q)) (s.sorted q) ∙ swap3 (has r.removed q) (has r.failed q || has r.kept q) (n == q) ∙ ap (λ (b : Bool). b || (has r.failed q || has r.kept q)) (sym (has_push r.removed n q));
    apart = λ q h. elim (push_cases r.removed n q h) [ inl old ↦ s.apart q old | inr e ↦ (ap (has r.failed) (sym e) ∙ not_in.1, ap (has r.kept) (sym e) ∙ not_in.2) ];
    tried = s.tried;
    why = s.why;
    all = λ q p h child inside. elim (push_cases done n p inside) [ inl old ↦ s.all q p h child old | inr e ↦ absurd (no_child none q h (subst (λ (x : ℕ). IsChild m0 x q) (sym e) child)) ];
    count = s.count;
    removed_in_order = order_grows done r.removed n s.removed_in_order fresh;
    failed_in_order = order_stays done r.failed n s.failed_in_order not_in.1;
    kept_in_order = order_stays done r.kept n s.kept_in_order not_in.2;
  }

  failed_all : ((c : ℕ) → IsChild m n c → (has r.failed c || has r.kept c) ≡ false) → (q p : ℕ) → (has (r.failed ++ n ∷ []) q || has r.kept q) ≡ true → IsChild m0 p q → has (done ++ n ∷ []) p ≡ true → has r.kept p ≡ true
  failed_all none q p h child inside =
      let old : (has r.failed q || has r.kept q) ≡ true → has r.kept p ≡ true =
      λ k. elim (push_cases done n p inside) [ inl at ↦ s.all q p k child at | inr e ↦ absurd (no_child none q k (subst (λ (x : ℕ). IsChild m0 x q) (sym e) child)) ] in
      elim (or_cases (has (r.failed ++ n ∷ []) q) (has r.kept q) h) [
        | inl a ↦ elim (push_cases r.failed n q a) [ inl b ↦ old (or_left (has r.failed q) (has r.kept q) b) | inr e ↦ absurd (passed q p e child inside) ]
        | inr b ↦ old (or_right (has r.failed q) (has r.kept q) b)
      ]

  -- failed
  failed_more : (ps : List ℕ) → ((c : ℕ) → IsChild m n c → (has r.failed c || has r.kept c) ≡ false) → Sweeps (done ++ n ∷ []) m0 m f0 (f + 1) (puts r n ps R.Failed)
  failed_more ps none = record {
    contents = s.contents;
    sorted = λ q. has_push done n q ∙ ap (λ (b : Bool). b || (n == q)) (s.sorted q) ∙ swap_first (has r.removed q) (has r.failed q) (has r.kept q) (n == q) ∙ ap (λ (b : Bool). has r.removed q || (b || has r.kept q)) (sym (has_push r.failed n q));
    apart = λ q h. let x = s.apart q h in (push_none r.failed n q x.0 (λ e. not_both (has r.removed q) h (ap (has r.removed) (sym e) ∙ not_in.0)), x.1);
    tried = λ q h. elim (push_cases r.failed n q h) [ inl old ↦ s.tried q old | inr e ↦ ap (has r.kept) (sym e) ∙ not_in.2 ];
    why = λ q h. let w = s.why q h in (w.0, push_old r.failed n w.0 w.1, w.2);
    all = λ q p h child inside. failed_all none q p h child inside;
    count = more_failed;
    removed_in_order = order_stays done r.removed n s.removed_in_order not_in.0;
    failed_in_order = order_grows done r.failed n s.failed_in_order fresh;
    kept_in_order = order_stays done r.kept n s.kept_in_order not_in.2;
  }

  kept_all : (q p : ℕ) → (has r.failed q || has (r.kept ++ n ∷ []) q) ≡ true → IsChild m0 p q → has (done ++ n ∷ []) p ≡ true → has (r.kept ++ n ∷ []) p ≡ true
  kept_all q p h child inside =
      let old : (has r.failed q || has r.kept q) ≡ true → has (r.kept ++ n ∷ []) p ≡ true =
      λ k. elim (push_cases done n p inside) [ inl at ↦ push_old r.kept n p (s.all q p k child at) | inr e ↦ push_new r.kept n p e ] in
      elim (or_cases (has r.failed q) (has (r.kept ++ n ∷ []) q) h) [
        | inl a ↦ old (or_left (has r.failed q) (has r.kept q) a)
        | inr a ↦ elim (push_cases r.kept n q a) [ inl b ↦ old (or_right (has r.failed q) (has r.kept q) b) | inr e ↦ absurd (passed q p e child inside) ]
      ]

  -- kept
  kept_more : (ps : List ℕ) (c : ℕ) → (has r.failed c || has r.kept c) ≡ true → IsChild m n c → Sweeps (done ++ n ∷ []) m0 m f0 f (puts r n ps R.Kept)
  kept_more ps c some child = record {
    contents = s.contents;
    sorted = λ q. has_push done n q ∙ ap (λ (b : Bool). b || (n == q)) (s.sorted q) ∙ swap_last (has r.removed q) (has r.failed q) (has r.kept q) (n == q) ∙ ap (λ (b : Bool). has r.removed q || (has r.failed q || b)) (sym (has_push r.kept n q));
    apart = λ q h. let x = s.apart q h in (x.0, push_none r.kept n q x.1 (λ e. not_both (has r.removed q) h (ap (has r.removed) (sym e) ∙ not_in.0)));
    tried = λ q h. push_none r.kept n q (s.tried q h) (λ e. not_both (has r.failed q) h (ap (has r.failed) (sym e) ∙ not_in.1));
    why = λ q h. elim (push_cases r.kept n q h) [ inl old ↦ s.why q old | inr e ↦ subst (λ (x : ℕ). (g : ℕ) × (has r.failed g ≡ true) × IsAncestor m0 x g) e (above c some (before c n child)) ];
    all = λ q p h below inside. kept_all q p h below inside;
    count = s.count;
    removed_in_order = order_stays done r.removed n s.removed_in_order not_in.0;
    failed_in_order = order_stays done r.failed n s.failed_in_order not_in.1;
    kept_in_order = order_grows done r.kept n s.kept_in_order fresh;
  }

  one_tried : (ps : List ℕ) (what : Outcome) (now : Snaps) (after : ℕ)
      → Tried what n r.failed r.kept m now f after → Sweeps (done
      ++ n ∷ []) m0 now f0 after (puts r n ps what)
  one_tried ps R.Removed now after t = subst (λ (k : ℕ). Sweeps (done ++ n ∷ []) m0 now f0 k (puts r n ps R.Removed)) (sym t.1) (removed_more ps now t.0 t.2)
  one_tried ps R.Failed now after t =
      subst (λ (x : Snaps). Sweeps (done ++ n ∷ []) m0 x f0 after (puts r n ps R.Failed)) (sym t.0) (subst (λ (k : ℕ). Sweeps (done ++ n ∷ []) m0 m f0 k (puts r n ps R.Failed)) (sym t.1) (failed_more ps t.2))
  one_tried ps R.Kept now after t =
      subst (λ (x : Snaps). Sweeps (done ++ n ∷ []) m0 x f0 after (puts r n ps R.Kept)) (sym t.0) (subst (λ (k : ℕ). Sweeps (done ++ n ∷ []) m0 m f0 k (puts r n ps R.Kept)) (sym t.1) (kept_more ps t.2.0 t.2.1 t.2.2))

  module _ (b : Blocks m0 r) where
    -- where no child is left, none stays
    pub no_child_left : has r.parents n ≡ false → (c : ℕ) → IsChild m n c → ⊥
    no_child_left h c child = not_both (has r.parents n) (b.all n c (children_left c child) (before c n child)) h

    -- what a removal that isn't above another tells
    tried_is : (above : Bool) (what : Outcome) (now : Snaps) (after : ℕ) → above ≡ has r.parents n
        → Tries what above n m now f after → Tried what n r.failed r.kept m now f after
    tried_is over R.Removed now after e t = (t.1, t.2, λ c child. absurd (no_child_left (sym e ∙ t.0) c child))
    tried_is over R.Failed now after e t = (t.1, t.2, λ c child. absurd (no_child_left (sym e ∙ t.0) c child))
    tried_is over R.Kept now after e t = (let k = b.child n (sym e ∙ t.0) in (t.1, t.2, (k.0, k.1, still k.0 n k.1 k.2)))

    -- the next number, whatever became of it
    pub one_more : (parent : Option ℕ) (above : Bool) (what : Outcome) (now : Snaps) (after : ℕ)
        → above ≡ has r.parents n → Tries what above n m now f after → Sweeps (done
        ++ n ∷ []) m0 now f0 after (put_of r n parent what)
    one_more parent above what now after e t =
        subst (λ (x : Swept). Sweeps (done ++ n ∷ []) m0 now f0 after x) (sym (put_is r n parent what not_in.1 not_in.2))
        (one_tried (with_parent r.parents parent) what now after (tried_is above what now after e t))

    mine : (parent : Option ℕ) (p : ℕ) → parent ≡ parent_of m n → parent ≡ Some p → IsChild m0 p n
    mine parent p is e = before n p (child_of m p n (sym is ∙ e))

    theirs : (parent : Option ℕ) (p q : ℕ) → parent ≡ parent_of m n → n ≡ q → IsChild m0 p q → parent ≡ Some p
    theirs parent p q is e child = is ∙ parent_is m p n (now_is n not_in.0 ∙ subst (λ (x : ℕ). IsChild m0 p x) (sym e) child)

    blocks_puts : (parent : Option ℕ) (what : Outcome) → parent ≡ parent_of m n
        → Blocks m0 (puts r n (with_parent r.parents parent) what)
    blocks_puts parent R.Removed is = record { child = b.child; all = b.all }
    blocks_puts parent R.Failed is = record {
      child = λ p h. elim (parent_cases r.parents parent p h) [
        | inl old ↦ (let k = b.child p old in (
          k.0,
          elim (or_cases (has r.failed k.0) (has r.kept k.0) k.1) [
            | inl x ↦ or_left (has (r.failed ++ n ∷ []) k.0) (has r.kept k.0) (push_old r.failed n k.0 x)
            | inr x ↦ or_right (has (r.failed ++ n ∷ []) k.0) (has r.kept k.0) x
          ],
          k.2,
        ))
        | inr e ↦ (n, or_left (has (r.failed ++ n ∷ []) n) (has r.kept n) (push_new r.failed n n refl), mine parent p is e)
      ];
      all = λ p c h child. elim (or_cases (has (r.failed ++ n ∷ []) c) (has r.kept c) h) [
        | inl x ↦ elim (push_cases r.failed n c x) [
          | inl old ↦ parent_old r.parents parent p (b.all p c (or_left (has r.failed c) (has r.kept c) old) child)
          | inr e ↦ parent_new r.parents parent p (theirs parent p c is e child)
        ]
        | inr x ↦ parent_old r.parents parent p (b.all p c (or_right (has r.failed c) (has r.kept c) x) child)
      ];
    }
    blocks_puts parent R.Kept is = record {
      child = λ p h. elim (parent_cases r.parents parent p h) [
        | inl old ↦ (let k = b.child p old in (
          k.0,
          elim (or_cases (has r.failed k.0) (has r.kept k.0) k.1) [
            | inl x ↦ or_left (has r.failed k.0) (has (r.kept ++ n ∷ []) k.0) x
            | inr x ↦ or_right (has r.failed k.0) (has (r.kept ++ n ∷ []) k.0) (push_old r.kept n k.0 x)
          ],
          k.2,
        ))
        | inr e ↦ (n, or_right (has r.failed n) (has (r.kept ++ n ∷ []) n) (push_new r.kept n n refl), mine parent p is e)
      ];
      all = λ p c h child. elim (or_cases (has r.failed c) (has (r.kept ++ n ∷ []) c) h) [
        | inl x ↦ parent_old r.parents parent p (b.all p c (or_left (has r.failed c) (has r.kept c) x) child)
        | inr x ↦ elim (push_cases r.kept n c x) [
          | inl old ↦ parent_old r.parents parent p (b.all p c (or_right (has r.failed c) (has r.kept c) old) child)
          | inr e ↦ parent_new r.parents parent p (theirs parent p c is e child)
        ]
      ];
    }

    -- and its parent
    pub blocks_more : (parent : Option ℕ) (what : Outcome) → parent ≡ parent_of m n
        → Blocks m0 (put_of r n parent what)
    blocks_more parent what is = subst (Blocks m0) (sym (put_is r n parent what not_in.1 not_in.2)) (blocks_puts parent what is)
