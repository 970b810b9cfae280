-- A snapshotter's snapshots stand together, and there a number is as good as a name.
use Rattle.std.proofs.Common.{◌≡◌, ℕ, ◌+◌, ◌-◌, ◌<◌, ◌≤◌, true, false, not, List, length, position, get_or, take, drop, refl, sym, ap, ◌∙◌, arith, inl, inr, Option, Some, None, slice_get}
use Rattle.std.specs.Prelude.{◌&&◌, ◌==◌, bytes_eq}
use Rattle.std.specs.Option.{option_map_or}
use Rattle.std.specs.List.Sorted.{IsPartitionedBy}
use Rattle.std.specs.Cmp.Lexicographic.{nat_list_cmp_total, nat_list_eq_equiv}
use Rattle.std.specs.Ordering.{is_lt, is_gt, nat_cmp, ordering_then, ordering_reverse}
use Rattle.std.specs.declared.cmp.Ordering.{Ordering}
use Rattle.std.specs.declared.cmp.Ordering.TheVariants.{Less, Equal, Greater}
use Rattle.std.proofs.lemmas.Bool.{cases_lt}
use Rattle.std.proofs.lemmas.Bool.Decides.{nat_tests}
use Rattle.std.proofs.lemmas.List.{get_or-drop, get_or-take, length-take}
use Rattle.std.proofs.lemmas.Map.Lookups.{exact_bytes, exact_unsigned}
use Rattle.std.proofs.lemmas.Option.{slice_get-get_or, get_or_from_slice_get}
use Rattle.meta_types.specs.Text.{Text, text_cmp}
use Rattle.table_sweep.specs.Depths.{Listed}
use Rattle.table_sweep.specs.SnapshotPlaces.{has_name, name_of, parent_place, AreListed, IsRun, IsRunOf, HasNumber}
use Rattle.table_sweep.proofs.Halved.{far, near}

-- ---- texts in order

not_behind : (r s : Ordering) → ordering_then r s ≡ Less → is_gt r ≡ false
not_behind Less s e = refl
not_behind Equal s e = refl
not_behind Greater s e = absurd cc

-- what doesn't stand behind one that is before the text, is before it
before_text : (a b t : Text) → is_gt (text_cmp a b) ≡ false → text_cmp b t ≡ Less
    → text_cmp a t ≡ Less
before_text a b t e less = go (text_cmp a b) refl e
  where
    go : (r : Ordering) → text_cmp a b ≡ r → is_gt r ≡ false → text_cmp a t ≡ Less
    go Less is e = nat_list_cmp_total.trans a b t is less
    go Equal is e = nat_list_cmp_total.congr a b t is ∙ less
    go Greater is e = absurd cc

turned : (a b t : Text) → text_cmp b t ≡ Equal → text_cmp a t ≡ text_cmp a b
turned a b t tied =
    nat_list_cmp_total.antisymm a t ∙ ap ordering_reverse (sym (nat_list_cmp_total.congr b t a
    tied))
    ∙ sym (nat_list_cmp_total.antisymm a b)

not_behind_text : (a b t : Text) → is_gt (text_cmp a b) ≡ false → not (is_gt (text_cmp b t)) ≡ true
    → not (is_gt (text_cmp a t)) ≡ true
not_behind_text a b t e h = go (text_cmp b t) refl h
  where
    go : (r : Ordering) → text_cmp b t ≡ r → not (is_gt r) ≡ true
        → not (is_gt (text_cmp a t)) ≡ true
    go Less is h = ap (λ r. not (is_gt r)) (before_text a b t e is)
    go Equal is h = ap (λ r. not (is_gt r)) (turned a b t is) ∙ ap not e
    go Greater is h = absurd cc

tied_text : (a t : Text) → is_lt (text_cmp a t) ≡ false → not (is_gt (text_cmp a t)) ≡ true → a ≡ t
tied_text a t low high = go (text_cmp a t) refl low high
  where
    go : (r : Ordering) → text_cmp a t ≡ r → is_lt r ≡ false → not (is_gt r) ≡ true → a ≡ t
    go Less is low high = absurd cc
    go Equal is low high = exact_bytes a t is
    go Greater is low high = absurd cc

-- ---- runs

module _ (xs : List Listed) where
  module _ (listed : AreListed xs) (t : Text) where
    rises : (i j : ℕ) (d : Listed) → i < j → j < length xs
        → is_gt (text_cmp (get_or xs i d).0 (get_or xs j d).0) ≡ false
    rises i j d less lt =
        not_behind (text_cmp (get_or xs i d).0 (get_or xs j d).0)
        (nat_cmp (get_or xs i d).1 (get_or xs j d).1)
        (far (t, 0) xs listed (j - i - 1) i j d (omega (arith, less)) lt)

    pub starts : IsPartitionedBy (λ s. is_lt (text_cmp s.0 t)) xs
    starts i j d low lt h = elim (cases_lt i j) [
      | inl under ↦ ap is_lt (before_text (get_or xs i d).0 (get_or xs j d).0 t (rises i j d under
          lt)
          (is_less (text_cmp (get_or xs j d).0 t) h))
      | inr over ↦ (let same : i ≡ j = omega (arith, low, over) in
          ap (λ n. is_lt (text_cmp (get_or xs n d).0 t)) same ∙ h)
    ]
      where
        is_less : (r : Ordering) → is_lt r ≡ true → r ≡ Less
        is_less Less e = refl
        is_less Equal e = absurd cc
        is_less Greater e = absurd cc

    pub ends : IsPartitionedBy (λ s. not (is_gt (text_cmp s.0 t))) xs
    ends i j d low lt h = elim (cases_lt i j) [
      | inl under ↦ not_behind_text (get_or xs i d).0 (get_or xs j d).0 t (rises i j d under lt) h
      | inr over ↦ (let same : i ≡ j = omega (arith, low, over) in
          ap (λ n. not (is_gt (text_cmp (get_or xs n d).0 t))) same ∙ h)
    ]

    -- what neither stands before the snapshotter's nor behind them
    pub run_is : (start end : ℕ) → end ≤ length xs
        → ((k : ℕ) (d : Listed) → start ≤ k → k < length xs
        → is_lt (text_cmp (get_or xs k d).0 t) ≡ false)
        → ((k : ℕ) (d : Listed) → k < end → not (is_gt (text_cmp (get_or xs k d).0 t)) ≡ true)
        → IsRunOf xs t start end
    run_is start end within behind before k d low lt =
        tied_text (get_or xs k d).0 t (behind k d low (omega (arith, lt, within))) (before k d lt)

    -- a number in the snapshotter's run is the name's only place
    pub numbered : (start end number place : ℕ) → end ≤ length xs → IsRunOf xs t start end
        → HasNumber xs start end number place → Some place ≡ position (has_name (t, number)) xs
    numbered start end number place within run h =
        let d : Listed = (t, number, None) in
        let lt : place < length xs = omega (arith, h.1, within) in
        near (t, number) xs listed place
        (ap (λ o. option_map_or (has_name (t, number)) o false) (slice_get-get_or xs place d lt)
        ∙ (λ i. bytes_eq (run place d h.0 h.1 i) t && (h.2 d i == number))
        ∙ (λ i. nat_list_eq_equiv.refl t i && same_number number i))
      where
        same_number : (n : ℕ) → (n == n) ≡ true
        same_number n = grind (arith, nat_tests)

  -- the last one's run is that of a place in it
  pub last_run : (start end at : ℕ) (s : Listed) → IsRun xs start end → start ≤ at → at < end
      → slice_get xs at ≡ Some s → IsRunOf xs s.0 start end
  last_run start end at s run low lt is k d above under =
      run k at d above under low lt ∙ ap (λ (x : Listed). x.0) (get_or_from_slice_get xs at s d is)

  -- the run of what is read at the place
  pub read_run : (start end at : ℕ) (x s : Listed) → x ≡ get_or xs at x → slice_get xs at ≡ Some s
      → IsRunOf xs x.0 start end → IsRunOf xs s.0 start end
  read_run start end at x s read is run k d above under =
      run k d above under ∙ ap (λ (x : Listed). x.0) (read ∙ get_or_from_slice_get xs at s x is)

  -- the one at a place is what is read there
  pub read_is : (at : ℕ) (x s : Listed) → x ≡ get_or xs at x → slice_get xs at ≡ Some s → x ≡ s
  read_is at x s read is = read ∙ get_or_from_slice_get xs at s x is

  -- where the one that is read has its name
  pub read_place : (at number : ℕ) (x s : Listed) (o : Option ℕ) → x ≡ get_or xs at x
      → slice_get xs at ≡ Some s
      → o ≡ position (has_name (name_of x number)) xs → o ≡ position (has_name (name_of s number))
      xs
  read_place at number x s o read is e = e ∙ ap (λ (s : Listed). position (has_name (name_of s
      number)) xs) (read_is at x s read is)

  -- where the parent is of the one that is read
  pub read_above : (at : ℕ) (x s : Listed) (o : Option ℕ) → x ≡ get_or xs at x
      → slice_get xs at ≡ Some s
      → o ≡ parent_place xs x → o ≡ parent_place xs s
  read_above at x s o read is e = e ∙ ap (parent_place xs) (read_is at x s read is)

  pub is_run : (start end : ℕ) (t : Text) → IsRunOf xs t start end → IsRun xs start end
  is_run start end t run i j d low lt low' lt' = run i d low lt ∙ sym (run j d low' lt')

  -- what is in a part is in the whole run
  pub wider : (start end low high number place : ℕ) → start ≤ low → high ≤ end
      → HasNumber xs low high number place → HasNumber xs start end number place
  wider start end low high number place above below h =
      let after : low ≤ place = h.0 in
      let before : place < high = h.1 in
      (omega (arith, above, after), omega (arith, below, before), h.2)

  pub in_part : (start k at : ℕ) → at < length (take k (drop start xs)) → at < k
  in_part start k at lt = omega (arith, lt, length-take k (drop start xs))

  -- what halving finds in a part, found in the whole
  pub found : (start k at number : ℕ) → at < k
      → ((d : Listed) → nat_cmp (get_or (take k (drop start xs)) at d).1 number ≡ Equal)
      → (d : Listed) → (get_or xs (start + at) d).1 ≡ number
  found start k at number lt h d =
      ap (λ (x : Listed). x.1) (sym (get_or-take k (drop start xs) at d lt
      ∙ get_or-drop start xs at d))
      ∙ exact_unsigned (get_or (take k (drop start xs)) at d).1 number (h d)
