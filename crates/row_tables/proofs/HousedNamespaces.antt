-- What a call does to the rows of one namespace, it does to all rows, in whatever order the
-- namespaces stand.
use Rattle.std.proofs.Common.{◌≡◌, ℕ, ◌+◌, ◌<◌, ◌≤◌, zero, suc, Bool, true, false, List, [], ◌∷◌, ◌++◌, length, get_or, take, drop, map, Some, None, refl, sym, ap, ◌∙◌, subst, arith, inl, inr}
use Rattle.std.specs.Prelude.{All, Contains, Option, Result, Ok, Err, OnOk, OnErr, IfSome, IfNone, is_some, slice_get, slice_set, ◌&&◌, not, ◌==◌, IsTrue, if◌then◌else◌}
use Rattle.std.specs.List.{position, position_or_len, insert, remove, swap_remove}
use Rattle.std.specs.List.Sorted.{IsPermutation}
use Rattle.std.specs.Option.{option_map}
use Rattle.std.proofs.lemmas.Bool.{cases_Bool}
use Rattle.std.proofs.lemmas.List.{set-get_or, take-map}
use Rattle.std.proofs.lemmas.List.Elements.{All-tail, All-append, All-set, All-contains, All-from_recursion}
use Rattle.std.proofs.lemmas.List.Sorted.{All-permutation, Contains-permutation, IsPermutation-sym, IsPermutation-trans, IsPermutation-cons, IsPermutation-remove, IsPermutation-to_front}
use Rattle.std.proofs.lemmas.Option.{slice_get_within, get_or_from_slice_get}
use Rattle.indexmap.specs.IndexMap.{set_value_at}
use Rattle.meta_types.specs.Text.{Text}
use Rattle.meta_types.specs.Keys.{Key, is_key, is_before, row_at, has_row, add_row, remove_row}
use Rattle.meta_types.proofs.Members.{later, first_or_later}
use Rattle.meta_types.proofs.ListSearches.{no_none, some_is}
use Rattle.meta_types.proofs.RowAtPlace.{put_at_place}
use Rattle.row_tables.specs.Arrived.{sorted, same_key, keys_equiv, Becomes}
use Rattle.row_tables.specs.ArrivedNamespaces.{AreArrived, AreApart, AreFull, has_rows}
use Rattle.row_tables.specs.Namespaces.{joined, group_key, all_rows}
use Rattle.row_tables.proofs.Arrivals.{moved_out, has_sorted, length_sorted}
use Rattle.row_tables.proofs.ApartNamespaces.{apart_permuted, same_rows, arrived_of, apart_of, in_name_order, less_apart, less_rows, more_apart, rows_before, rows_behind, distinct_one, distinct_first}
use Rattle.row_tables.proofs.Entries.{other_there, all_one}
use Rattle.row_tables.proofs.FirstPosition.{skipped, within_first, none_passes}
use Rattle.row_tables.proofs.JoinedLists.{joined_at}
use Rattle.row_tables.proofs.KeysOnce.{same_members, moved_up}
use Rattle.row_tables.proofs.ListedNamespaces.{each}
use Rattle.row_tables.proofs.MappedLists.{length_map}
use Rattle.row_tables.proofs.NamespaceHomes.{set_entry}
use Rattle.row_tables.proofs.NamespaceLists.{there_now, place_within, list_at}
use Rattle.row_tables.proofs.NamespaceRows.{key_there}
use Rattle.row_tables.proofs.NamespacesArrived.{key, name, passed_by, arrived_none, arrived_found, arrived_taken, arrived_taken_rows, arrived_changed, arrived_changed_rows, arrived_added, arrived_added_rows}
use Rattle.row_tables.proofs.RowCounts.{length_more}

set_inserted : {X : Type 0} (xs : List X) (i : ℕ) (x y : X) → i ≤ length xs
    → slice_set (insert xs i x) i y ≡ insert xs i y
set_inserted xs zero x y le = refl
set_inserted [] (suc i) x y le = absurd (omega arith)
set_inserted (z ∷ xs) (suc i) x y le = ap (λ rest. z ∷ rest) (set_inserted xs i x y (omega arith))

pub set_there : {X : Type 0} (gs : List (Text × X)) (i : ℕ) (ns : Text) (rows new : X)
    → slice_get gs i ≡ Some (ns, rows) → slice_get (set_value_at gs i new) i ≡ Some (ns, new)
set_there [] i ns rows new at = no_none (ns, rows) at
set_there (g ∷ gs) zero ns rows new at =
    ap (λ (m : Text). Some (m, new)) (ap (λ (x : Text × _). x.0) (some_is g (ns, rows) at))
set_there (g ∷ gs) (suc i) ns rows new at = set_there gs i ns rows new at

no_rows : {X : Type 0} (rows : List X) → not (length rows == 0) ≡ false → rows ≡ []
no_rows [] h = refl
no_rows (x ∷ rows) h = absurd (some_there x rows h)
  where
    some_there : {X : Type 0} (x : X) (rows : List X) → not (length (x ∷ rows) == 0) ≡ false → ⊥
    some_there x rows h = grind arith

some_rows : {X : Type 0} (rows : List X) (n : ℕ) → length rows ≡ suc n
    → not (length rows == 0) ≡ true
some_rows rows n h = grind arith

module _ {K Row : Type 0} (texts_of : K → Key) (name_of : Row → K) (ns_of : Row → Text) where
  abbrev full : Row → Key
  full row = key texts_of name_of ns_of row

  abbrev own : Row → Key
  own row = name texts_of name_of ns_of row

  abbrev Ours : List (Text × List Row) → Type 0
  Ours gs = AreApart full ns_of gs

  abbrev ArrivedNamespaces : List (Text × List Row) → Type 0
  ArrivedNamespaces gs = AreArrived full own ns_of gs

  -- ---- where no namespace is that

  pub none_at : (ns : Text) (t : Key) (gs : List (Text × List Row))
      → has_row group_key (ns ∷ []) gs ≡ false → Ours gs
      → row_at full (ns ∷ t) (sorted full (all_rows gs)) ≡ None
  none_at ns t gs none are =
      ap (row_at full (ns ∷ t)) (in_name_order texts_of name_of ns_of gs are)
      ∙ arrived_none texts_of name_of ns_of ns t (sorted group_key gs)
      (has_sorted group_key (ns ∷ []) gs ∙ none) (arrived_of texts_of name_of ns_of gs are)

  pub place_nowhere : (ns : Text) (t : Key) (gs : List (Text × List Row))
      → has_row group_key (ns ∷ []) gs ≡ false → Ours gs
      → position (λ row. is_key (ns ∷ t) (full row)) (all_rows gs) ≡ None
  place_nowhere ns t gs none are =
      none_passes (λ row. is_key (ns ∷ t) (full row)) (all_rows gs)
      (passed_by texts_of name_of ns_of ns t gs none are.own)

  -- ---- a namespace comes with its first row

  module _ (row : Row) (gs : List (Text × List Row))
      (none : has_row group_key (ns_of row ∷ []) gs ≡ false) (are : Ours gs) where
    abbrev first : Text × List Row
    first = (ns_of row, row ∷ [])

    first_more : Ours (first ∷ gs)
    first_more =
        more_apart texts_of name_of ns_of first gs none
        (all_one (λ x. ns_of x ≡ ns_of row) row refl) (distinct_one (same_key full) row) are

    pub opened_apart : Ours (gs ++ first ∷ [])
    opened_apart =
        apart_permuted texts_of name_of ns_of (first ∷ gs) (gs ++ first ∷ [])
        (IsPermutation-sym (gs ++ first ∷ []) (first ∷ gs) (IsPermutation-to_front gs first)) first_more

    pub opened_sorted : sorted full (all_rows (gs ++ first ∷ [])) ≡ add_row full row (sorted full (all_rows gs))
    opened_sorted =
        same_rows texts_of name_of ns_of (gs ++ first ∷ []) (first ∷ gs)
        (IsPermutation-to_front gs first) opened_apart

    pub opened_full : AreFull gs → AreFull (gs ++ first ∷ [])
    opened_full all =
        All-append (λ group. IsTrue (has_rows group)) gs (first ∷ []) all (all_one (λ group. IsTrue (has_rows group)) first (some_rows (row ∷ []) 0 refl))

  -- ---- a namespace goes with its last row

  module _ (gs new : List (Text × List Row)) (i : ℕ) (g : Text × List Row)
      (at : slice_get gs i ≡ Some g) (are : Ours gs)
      (is : new ≡ (if has_rows g then gs else swap_remove gs i g)) where
    gone : has_rows g ≡ false → IsPermutation gs (g ∷ new)
    gone f = moved_out g i gs new at (rw f at is)

    pub closed_apart : Ours new
    closed_apart = elim (cases_Bool (has_rows g)) [
      | inl t ↦ subst Ours (sym (rw t at is)) are
      | inr f ↦ less_apart texts_of name_of ns_of g gs new (gone f) are
    ]

    pub closed_sorted : sorted full (all_rows new) ≡ sorted full (all_rows gs)
    closed_sorted = elim (cases_Bool (has_rows g)) [
      | inl t ↦ ap (λ l. sorted full (all_rows l)) (rw t at is)
      | inr f ↦ less_rows texts_of name_of ns_of g gs new (gone f) (no_rows g.1 f) are
    ]

  -- ---- at the place of a namespace

  module _ (ns : Text) (i : ℕ) (rows : List Row) (gs : List (Text × List Row))
      (at : slice_get gs i ≡ Some (ns, rows)) (are : Ours gs) where
    abbrev item : Text × List Row
    item = (ns, rows)

    abbrev others : List (Text × List Row)
    others = remove gs i

    abbrev rest : List (Text × List Row)
    rest = sorted group_key others

    abbrev gap : ℕ
    gap = position_or_len (λ group. is_before (ns ∷ []) (group_key group)) rest

    -- the namespaces in the order of their names, with this one among the others
    abbrev placed : Text × List Row → List (Text × List Row)
    placed x = insert rest gap x

    within : i < length gs
    within = slice_get_within gs i item at

    away : IsPermutation gs (item ∷ others)
    away = IsPermutation-remove gs i item within (sym (get_or_from_slice_get gs i item item at))

    named : (x : Text × List Row) → x.0 ≡ ns → placed x ≡ add_row group_key x rest
    named x e =
        ap
        (λ (m : Text). insert rest (position_or_len (λ (group : Text × List Row). is_before (m ∷ []) (group_key group)) rest) x)
        (sym e)
        ∙ sym
        (put_at_place (λ (a b : Text × List Row). is_before (group_key a) (group_key b)) x rest)

    arrived_now : ArrivedNamespaces (placed item)
    arrived_now =
        subst ArrivedNamespaces (sym (named item refl))
        (arrived_of texts_of name_of ns_of (item ∷ others) (apart_permuted texts_of name_of ns_of gs (item ∷ others) away are))

    gap_within : gap ≤ length rest
    gap_within =
        place_within (λ (group : Text × List Row). is_before (ns ∷ []) (group_key group)) rest

    at_now : slice_get (placed item) gap ≡ Some item
    at_now = there_now rest gap item gap_within

    is_now : item ≡ get_or (placed item) gap item
    is_now = sym (get_or_from_slice_get (placed item) gap item item at_now)

    set_now : (y : Text × List Row) → slice_set (placed item) gap y ≡ placed y
    set_now y = set_inserted rest gap item y gap_within

    back : (y : Text × List Row) → y.0 ≡ ns → IsPermutation (placed y) (slice_set gs i y)
    back y e =
        subst (λ (l : List (Text × List Row)). IsPermutation l (slice_set gs i y)) (sym (named y e))
        (IsPermutation-trans (add_row group_key y rest) (y ∷ rest) (slice_set gs i y)
        (IsPermutation-sym (y ∷ rest) (add_row group_key y rest) (moved_up group_key y rest))
        (IsPermutation-trans (y ∷ rest) (y ∷ others) (slice_set gs i y)
        (IsPermutation-cons y rest others (IsPermutation-sym others rest (same_members group_key others)))
        (IsPermutation-sym (slice_set gs i y) (y ∷ others) (other_there gs i y (slice_set gs i y) within refl))))

    unset : slice_set gs i item ≡ gs
    unset =
        ap (slice_set gs i) (sym (get_or_from_slice_get gs i item item at)) ∙ set-get_or gs i item

    apart_set : (y : Text × List Row) → y.0 ≡ ns → ArrivedNamespaces (slice_set (placed item) gap y)
        → Ours (slice_set gs i y)
    apart_set y e arrived =
        apart_permuted texts_of name_of ns_of (placed y) (slice_set gs i y) (back y e)
        (apart_of texts_of name_of ns_of (placed y) (subst ArrivedNamespaces (set_now y) arrived))

    sorted_set : (y : Text × List Row) → y.0 ≡ ns → ArrivedNamespaces (slice_set (placed item) gap y)
        → sorted full (all_rows (slice_set gs i y)) ≡ sorted full (all_rows (slice_set (placed item) gap y))
    sorted_set y e arrived = sym (ap (λ l. sorted full (all_rows l)) (set_now y)
        ∙ same_rows texts_of name_of ns_of (placed y) (slice_set gs i y) (back y e) (apart_of texts_of name_of ns_of (placed y) (subst ArrivedNamespaces (set_now y) arrived)))

    sorted_now : sorted full (all_rows gs) ≡ sorted full (all_rows (placed item))
    sorted_now =
        sym
        (same_rows texts_of name_of ns_of (placed item) gs (subst (λ (l : List (Text × List Row)). IsPermutation (placed item) l) unset (back item refl)) (apart_of texts_of name_of ns_of (placed item) arrived_now))

    pub found_at : (t : Key)
        → row_at own t (sorted own rows) ≡ row_at full (ns ∷ t) (sorted full (all_rows gs))
    found_at t =
        arrived_found texts_of name_of ns_of ns gap rows
        (placed item) at_now arrived_now item is_now t
        ∙ ap (row_at full (ns ∷ t)) (sym sorted_now)

    -- ---- other rows for it

    module _ (w : List Row) where
      abbrev new : Text × List Row
      new = (ns, w)

      abbrev after : List (Text × List Row)
      after = set_value_at gs i w

      after_is : after ≡ slice_set gs i new
      after_is = set_entry gs i ns rows w at

      same_after : w ≡ rows → after ≡ gs
      same_after e = after_is ∙ ap (λ l. slice_set gs i (ns, l)) e ∙ unset

      -- a row less
      module _ (t : Key) (left : sorted own w ≡ remove_row own t (sorted own rows)) where
        taken_arrived : ArrivedNamespaces (slice_set (placed item) gap new)
        taken_arrived =
            arrived_taken texts_of name_of ns_of ns gap rows
            (placed item) at_now arrived_now item is_now new refl t left

        pub taken_apart : Ours (set_value_at gs i w)
        taken_apart = subst Ours (sym after_is) (apart_set new refl taken_arrived)

        pub taken_sorted : sorted full (all_rows (set_value_at gs i w)) ≡ remove_row full (ns ∷ t) (sorted full (all_rows gs))
        taken_sorted =
            ap (λ l. sorted full (all_rows l)) after_is ∙ sorted_set new refl taken_arrived
            ∙ arrived_taken_rows texts_of name_of ns_of ns gap rows
            (placed item) at_now arrived_now item is_now new refl t left
            ∙ ap (remove_row full (ns ∷ t)) (sym sorted_now)

      -- a row that becomes another
      module _ (t : Key) {A : Type 0} (changes : Row → A → Row → Type 0)
          (keeps_name : (row : Row) (answer : A) (after : Row) → changes row answer after → name_of after ≡ name_of row)
          (keeps_ns : (row : Row) (answer : A) (after : Row) → changes row answer after → ns_of after ≡ ns_of row)
          (r : Option A) (done : IfSome r (λ answer. (row : Row) × (after : Row) × changes row answer after × Becomes own t row after (sorted own rows) (sorted own w)))
          (kept : IfNone r (w ≡ rows)) where
        changed_arrived : ArrivedNamespaces (slice_set (placed item) gap new)
        changed_arrived =
            arrived_changed texts_of name_of ns_of ns gap rows
            (placed item) at_now arrived_now item is_now new refl t changes keeps_name keeps_ns r done kept

        pub changed_apart : Ours (set_value_at gs i w)
        changed_apart = subst Ours (sym after_is) (apart_set new refl changed_arrived)

        pub changed_sorted : IfSome r (λ answer. (row : Row) × (after : Row) × changes row answer after × Becomes full (ns ∷ t) row after (sorted full (all_rows gs)) (sorted full (all_rows (set_value_at gs i w))))
        changed_sorted =
            subst
            (λ (l : List Row). IfSome r (λ answer. (row : Row) × (after : Row) × changes row answer after × Becomes full (ns ∷ t) row after l (sorted full (all_rows (set_value_at gs i w)))))
            (sym sorted_now)
            (subst (λ (l : List Row). IfSome r (λ answer. (row : Row) × (after : Row) × changes row answer after × Becomes full (ns ∷ t) row after (sorted full (all_rows (placed item))) l))
            (sym (ap (λ l. sorted full (all_rows l)) after_is ∙ sorted_set new refl changed_arrived))
            (arrived_changed_rows texts_of name_of ns_of ns gap rows (placed item) at_now arrived_now item is_now new refl t changes keeps_name keeps_ns r done kept))

      pub unchanged_at : {A : Type 0} (r : Option A) → IfNone r (w ≡ rows)
          → IfNone r (all_rows (set_value_at gs i w) ≡ all_rows gs)
      unchanged_at None kept = ap all_rows (same_after kept)
      unchanged_at (Some answer) kept = tt

      -- a row more, where none has its key
      module _ (row : Row) (e : ns_of row ≡ ns) where
        pub has_at : has_row own (own row) (sorted own rows) ≡ has_row full (full row) (sorted full (all_rows gs))
        has_at =
            ap is_some
            (found_at (own row) ∙ ap (λ m. row_at full (m ∷ own row) (sorted full (all_rows gs))) (sym e))

        module _ {A B : Type 0} (r : Result A B)
            (free : OnOk r (has_row full (full row) (sorted full (all_rows gs)) ≡ false))
            (made : OnOk r (sorted own w ≡ add_row own row (sorted own rows)))
            (kept : OnErr r (w ≡ rows)) where
          free_now : OnOk r (has_row full (full row) (sorted full (all_rows (placed item))) ≡ false)
          free_now =
              subst (λ (l : List Row). OnOk r (has_row full (full row) l ≡ false)) sorted_now free

          added_arrived : ArrivedNamespaces (slice_set (placed item) gap new)
          added_arrived =
              arrived_added texts_of name_of ns_of ns gap rows
              (placed item) at_now arrived_now item is_now new refl row e r free_now made kept

          pub added_apart : Ours (set_value_at gs i w)
          added_apart = subst Ours (sym after_is) (apart_set new refl added_arrived)

          pub added_sorted : OnOk r (sorted full (all_rows (set_value_at gs i w)) ≡ add_row full row (sorted full (all_rows gs)))
          added_sorted =
              subst
              (λ (l : List Row). OnOk r (sorted full (all_rows (set_value_at gs i w)) ≡ add_row full row l))
              (sym sorted_now)
              (subst (λ (l : List Row). OnOk r (l ≡ add_row full row (sorted full (all_rows (placed item))))) (sym (ap (λ l. sorted full (all_rows l)) after_is ∙ sorted_set new refl added_arrived))
              (arrived_added_rows texts_of name_of ns_of ns gap rows (placed item) at_now arrived_now item is_now new refl row e r free_now made kept))

          longer : sorted own w ≡ add_row own row (sorted own rows) → has_rows new ≡ true
          longer made =
              let more = length_more own row (sorted own rows) in
              let n : length w ≡ suc (length (sorted own rows)) = omega (arith, length_sorted own w, ap length made, more) in
              some_rows w (length (sorted own rows)) n

          pub added_full : AreFull gs → AreFull (set_value_at gs i w)
          added_full all = go r made kept
            where
              go : (r : Result A B) → OnOk r (sorted own w ≡ add_row own row (sorted own rows))
                  → OnErr r (w ≡ rows) → AreFull (set_value_at gs i w)
              go (Ok x) made kept =
                  subst AreFull (sym after_is)
                  (All-set (λ group. IsTrue (has_rows group)) gs i new (longer made) all)
              go (Err x) made kept = subst AreFull (sym (same_after kept)) all

      pub kept_at : {A B : Type 0} (r : Result A B) → OnErr r (w ≡ rows)
          → OnErr r (all_rows (set_value_at gs i w) ≡ all_rows gs)
      kept_at (Ok x) kept = tt
      kept_at (Err x) kept = ap all_rows (same_after kept)

      -- ---- no namespace is empty

      abbrev IsFull : Text × List Row → Type 0
      IsFull group = IsTrue (has_rows group)

      full_here : AreFull gs → has_rows item ≡ true
      full_here all =
          subst (λ (g : Text × List Row). has_rows g ≡ true)
          (get_or_from_slice_get gs i item item at) (all i item within)

      pub changed_full : length w ≡ length rows → AreFull gs → AreFull (set_value_at gs i w)
      changed_full same all =
          subst AreFull (sym after_is)
          (All-set (λ group. IsTrue (has_rows group)) gs i new (ap (λ n. not (n == 0)) same ∙ full_here all) all)

      pub closed_full : (left : List (Text × List Row)) → Ours (set_value_at gs i w)
          → left ≡ (if has_rows new then set_value_at gs i w else swap_remove (set_value_at gs i w) i new)
          → AreFull gs → AreFull left
      closed_full left ours is all = elim (cases_Bool (has_rows new)) [
        | inl t ↦ subst AreFull (sym (rw t at is ∙ after_is)) (All-set (λ group. IsTrue (has_rows group)) gs i new t all)
        | inr f ↦ each group_key (λ group. IsTrue (has_rows group)) left (others_full f)
      ]
        where
          out : has_rows new ≡ false → IsPermutation after (new ∷ left)
          out f = moved_out new i after left (set_there gs i ns rows w at) (rw f at is)

          away_full : All IsFull others
          away_full =
              All-tail IsFull item others (All-permutation IsFull gs (item ∷ others) away all)

          other : IsPermutation after (new ∷ others)
          other = other_there gs i new after within after_is

          once : has_rows new ≡ false → Contains left new → ⊥
          once f c =
              let apart = All-from_recursion (λ o. same_key group_key new o ≡ false) left (distinct_first (same_key group_key) new left (apart_permuted texts_of name_of ns_of after (new ∷ left) (out f) ours).names) in
              let h : is_key (group_key new) (group_key new) ≡ false = All-contains (λ o. same_key group_key new o ≡ false) left new apart c in
              absurd (cc (sym h ∙ keys_equiv.refl (group_key new)))

          others_full : has_rows new ≡ false → (x : Text × List Row) → Contains left x → IsFull x
          others_full f x c = elim (first_or_later new others x (Contains-permutation after (new ∷ others) x other (Contains-permutation (new ∷ left) after x (IsPermutation-sym after (new ∷ left) (out f)) (later new left x c)))) [
            | inl e ↦ absurd (once f (subst (Contains left) (sym e) c))
            | inr more ↦ All-contains IsFull others x away_full more
          ]

    -- ---- where its rows stand among all

    pub place_at : (t : Key)
        → position (λ row. is_key (ns ∷ t) (full row)) (all_rows gs) ≡ option_map (λ n. length (all_rows (take i gs)) + n) (position (λ row. is_key t (own row)) rows)
    place_at t =
        let lists = map (λ (group : Text × List Row). group.1) gs in
        let there : get_or lists i rows ≡ rows = list_at gs i (ns, rows) rows at in
        let test : Row → Bool = λ row. is_key (ns ∷ t) (full row) in
        let here : All (λ row. ns_of row ≡ ns) rows = subst (λ (group : Text × List Row). All (λ row. ns_of row ≡ group.0) group.1) (get_or_from_slice_get gs i (ns, rows) (ns, rows) at) (are.own i (ns, rows) within) in
        ap (position test)
        (joined_at lists i rows (omega (arith, within, length_map (λ (group : Text × List Row). group.1) gs)))
        ∙ skipped test (joined (take i lists)) (get_or lists i rows ++ joined (drop (suc i) lists))
        (λ k d less. ap (λ b. b && is_key t (own (get_or (joined (take i lists)) k d))) (rows_before texts_of name_of ns_of ns gs i rows are.names are.own at k d less))
        ∙ ap
        (λ l. option_map (λ n. length (joined (take i lists)) + n) (position test (l ++ joined (drop (suc i) lists)))) there
        ∙ ap (option_map (λ n. length (joined (take i lists)) + n))
        (within_first test (λ row. is_key t (own row)) rows (joined (drop (suc i) lists)) (λ k d less. key_there texts_of name_of ns_of ns t (get_or rows k d) (here k d less))
        (λ k d less. ap (λ b. b && is_key t (own (get_or (joined (drop (suc i) lists)) k d))) (rows_behind texts_of name_of ns_of ns gs i rows are.names are.own at k d less)))
        ∙ ap
        (λ l. option_map (λ n. length (joined l) + n) (position (λ row. is_key t (own row)) rows))
        (take-map (λ (group : Text × List Row). group.1) i gs)
