-- What a call does to the rows of one namespace, it does to all rows.
use Rattle.std.proofs.Common.{◌≡◌, ℕ, zero, suc, Bool, true, false, List, [], ◌∷◌, ◌++◌, length, get_or, take, drop, map, Some, None, refl, sym, ap, ◌∙◌, subst, arith, inl, inr}
use Rattle.std.specs.Prelude.{All, Option, Result, Ok, Err, OnOk, OnErr, IfSome, IfNone, slice_get, slice_set, bytes_eq, ◌&&◌, if◌then◌else◌}
use Rattle.std.specs.Cmp.{tied_itself}
use Rattle.std.specs.Cmp.Lexicographic.{slice_cmp, nat_list_eq_equiv, nat_list_cmp_total}
use Rattle.std.specs.Ordering.{is_lt, ordering_then}
use Rattle.std.proofs.lemmas.Bool.{cases_Bool, and_parts}
use Rattle.std.proofs.lemmas.List.Elements.{All-head, All-tail, All-append, All-nil, All-set}
use Rattle.std.proofs.lemmas.List.{set-get_or}
use Rattle.std.proofs.lemmas.Option.{slice_get_within, get_or_from_slice_get}
use Rattle.std.proofs.Common.{not, append-nil}
use Rattle.std.specs.Prelude.{filter, ◌==◌}
use Rattle.std.specs.List.{list_any}
use Rattle.std.proofs.lemmas.List.Elements.{filter-append}
use Rattle.meta_types.proofs.Searched.{not_key}
use Rattle.meta_types.specs.Text.{Text, text_cmp}
use Rattle.meta_types.specs.Keys.{Key, is_key, is_before, is_first, row_at, has_row, add_row, remove_row, change_row, are_in_order}
use Rattle.meta_types.proofs.OneRowPerKey.{before_all}
use Rattle.meta_types.proofs.ListSearches.{no_none, some_is}
use Rattle.meta_types.proofs.KeepsSound.{all_removed, all_added, all_changed}
use Rattle.meta_types.proofs.Ordered.{in_order_added, in_order_removed}
use Rattle.row_tables.specs.Arrived.{by_name, Becomes}
use Rattle.row_tables.specs.Namespaces.{joined, full_key, group_key, all_rows, AreGroups}
use Rattle.row_tables.proofs.JoinedLists.{not_it, IsPlace, row_there, removed_there, changed_in_place, added_there}
use Rattle.row_tables.proofs.MappedLists.{length_map}
use Rattle.row_tables.proofs.NamespaceLists.{lead_before, at_found, in_order_becomes, list_at, lists_set, names_set, order_of_names}

module _ {K Row : Type 0} (texts_of : K → Key) (name_of : Row → K) (ns_of : Row → Text) where
  abbrev pub full : Row → Key
  full row = full_key texts_of name_of ns_of row

  abbrev pub own : Row → Key
  own row = by_name texts_of name_of row

  abbrev pub IsOwn : Text × List Row → Type 0
  IsOwn group = All (λ row. ns_of row ≡ group.0) group.1

  -- ---- in one namespace

  module _ (ns : Text) where
    pub key_there : (t : Key) (row : Row) → ns_of row ≡ ns → is_key (ns ∷ t) (full row) ≡ is_key t (own row)
    key_there t row e = ap (λ m. bytes_eq ns m && is_key t (own row)) e ∙ ap (λ b. b && is_key t (own row)) (nat_list_eq_equiv.refl ns)

    order_there : (a b : Row) → ns_of a ≡ ns → ns_of b ≡ ns → is_before (full a) (full b) ≡ is_before (own a) (own b)
    order_there a b e f =
        (λ i. is_lt (ordering_then (text_cmp (e i) (f i)) (slice_cmp text_cmp (own a) (own b))))
        ∙ ap (λ r. is_lt (ordering_then r (slice_cmp text_cmp (own a) (own b)))) (tied_itself nat_list_cmp_total ns)

    row_own : (t : Key) (rows : List Row) → All (λ row. ns_of row ≡ ns) rows → row_at full (ns ∷ t) rows ≡ row_at own t rows
    row_own t [] all = refl
    row_own t (row ∷ rows) all =
        ap (λ b. if b then Some row else row_at full (ns ∷ t) rows) (key_there t row (All-head (λ row. ns_of row ≡ ns) row rows all))
        ∙ ap (λ r. if is_key t (own row) then Some row else r) (row_own t rows (All-tail (λ row. ns_of row ≡ ns) row rows all))

    removed_own : (t : Key) (rows : List Row) → All (λ row. ns_of row ≡ ns) rows → remove_row full (ns ∷ t) rows ≡ remove_row own t rows
    removed_own t [] all = refl
    removed_own t (row ∷ rows) all =
        ap (λ b. if b then rows else row ∷ remove_row full (ns ∷ t) rows) (key_there t row (All-head (λ row. ns_of row ≡ ns) row rows all))
        ∙ ap (λ rest. if is_key t (own row) then rows else row ∷ rest) (removed_own t rows (All-tail (λ row. ns_of row ≡ ns) row rows all))

    changed_own : (t : Key) (change : Row → Row) (rows : List Row) → All (λ row. ns_of row ≡ ns) rows → change_row full (ns ∷ t) change rows ≡ change_row own t change rows
    changed_own t change [] all = refl
    changed_own t change (row ∷ rows) all =
        ap (λ b. if b then change row ∷ rows else row ∷ change_row full (ns ∷ t) change rows) (key_there t row (All-head (λ row. ns_of row ≡ ns) row rows all))
        ∙ ap (λ rest. if is_key t (own row) then change row ∷ rows else row ∷ rest) (changed_own t change rows (All-tail (λ row. ns_of row ≡ ns) row rows all))

    pub added_own : (row : Row) → ns_of row ≡ ns → (rows : List Row) → All (λ row. ns_of row ≡ ns) rows → add_row full row rows ≡ add_row own row rows
    added_own row e [] all = refl
    added_own row e (x ∷ rows) all =
        ap (λ b. if b then row ∷ x ∷ rows else x ∷ add_row full row rows) (order_there row x e (All-head (λ row. ns_of row ≡ ns) x rows all))
        ∙ ap (λ rest. if is_before (own row) (own x) then row ∷ x ∷ rows else x ∷ rest) (added_own row e rows (All-tail (λ row. ns_of row ≡ ns) x rows all))

    -- ---- the other namespaces

    module _ (t : Key) where
      before_group : (g : Text × List Row) → is_before (group_key g) (ns ∷ []) ≡ true → IsOwn g → All (λ row. is_before (full row) (ns ∷ t) ≡ true) g.1
      before_group g b all i d lt = subst (λ m. is_before (m ∷ own (get_or g.1 i d)) (ns ∷ t) ≡ true) (sym (all i d lt)) (lead_before g.0 ns (own (get_or g.1 i d)) t b)

      behind_group : (g : Text × List Row) → is_before (ns ∷ []) (group_key g) ≡ true → IsOwn g → All (λ row. is_before (ns ∷ t) (full row) ≡ true) g.1
      behind_group g b all i d lt = subst (λ m. is_before (ns ∷ t) (m ∷ own (get_or g.1 i d)) ≡ true) (sym (all i d lt)) (lead_before ns g.0 t (own (get_or g.1 i d)) b)

      pub all_behind : (gs : List (Text × List Row)) → All (λ other. is_before (ns ∷ []) (group_key other) ≡ true) gs → All IsOwn gs → All (λ row. is_before (ns ∷ t) (full row) ≡ true) (all_rows gs)
      all_behind [] later all = All-nil (λ row. is_before (ns ∷ t) (full row) ≡ true)
      all_behind (g ∷ gs) later all = All-append (λ row. is_before (ns ∷ t) (full row) ≡ true) g.1 (all_rows gs)
          (behind_group g (All-head (λ other. is_before (ns ∷ []) (group_key other) ≡ true) g gs later) (All-head IsOwn g gs all))
          (all_behind gs (All-tail (λ other. is_before (ns ∷ []) (group_key other) ≡ true) g gs later) (All-tail IsOwn g gs all))

      pub front : (gs : List (Text × List Row)) (i : ℕ) (rows : List Row) → are_in_order group_key gs ≡ true → All IsOwn gs → slice_get gs i ≡ Some (ns, rows) → All (λ row. is_before (full row) (ns ∷ t) ≡ true) (joined (take i (map (λ group. group.1) gs)))
      front [] i rows o all at = no_none (ns, rows) at
      front (g ∷ gs) zero rows o all at = All-nil (λ row. is_before (full row) (ns ∷ t) ≡ true)
      front (g ∷ gs) (suc i) rows o all at =
          let parts = and_parts (is_first group_key g gs) (are_in_order group_key gs) o in
          let later = before_all group_key g gs parts.0 parts.1 i (ns, rows) (slice_get_within gs i (ns, rows) at) in
          let first : is_before (group_key g) (ns ∷ []) ≡ true = subst (λ (h : Text × List Row). is_before (group_key g) (group_key h) ≡ true) (get_or_from_slice_get gs i (ns, rows) (ns, rows) at) later in
          All-append (λ row. is_before (full row) (ns ∷ t) ≡ true) g.1 (joined (take i (map (λ group. group.1) gs)))
          (before_group g first (All-head IsOwn g gs all)) (front gs i rows parts.1 (All-tail IsOwn g gs all) at)

      pub behind : (gs : List (Text × List Row)) (i : ℕ) (rows : List Row) → are_in_order group_key gs ≡ true → All IsOwn gs → slice_get gs i ≡ Some (ns, rows) → All (λ row. is_before (ns ∷ t) (full row) ≡ true) (joined (drop (suc i) (map (λ group. group.1) gs)))
      behind [] i rows o all at = no_none (ns, rows) at
      behind (g ∷ gs) zero rows o all at =
          let parts = and_parts (is_first group_key g gs) (are_in_order group_key gs) o in
          all_behind gs (subst (λ (h : Text × List Row). All (λ other. is_before (group_key h) (group_key other) ≡ true) gs) (some_is g (ns, rows) at) (before_all group_key g gs parts.0 parts.1)) (All-tail IsOwn g gs all)
      behind (g ∷ gs) (suc i) rows o all at = behind gs i rows (and_parts (is_first group_key g gs) (are_in_order group_key gs) o).1 (All-tail IsOwn g gs all) at

  skipped : (ns : Text) (t : Key) (m : Text) (rows rest : List Row) → bytes_eq ns m ≡ false → All (λ row. ns_of row ≡ m) rows → row_at full (ns ∷ t) (rows ++ rest) ≡ row_at full (ns ∷ t) rest
  skipped ns t m [] rest other all = refl
  skipped ns t m (row ∷ rows) rest other all =
      let apart : is_key (ns ∷ t) (full row) ≡ false = ap (λ n. bytes_eq ns n && is_key t (own row)) (All-head (λ row. ns_of row ≡ m) row rows all) ∙ ap (λ b. b && is_key t (own row)) other in
      rw apart (skipped ns t m rows rest other (All-tail (λ row. ns_of row ≡ m) row rows all))

  -- where no namespace is that, no row is in it
  pub none_there : (ns : Text) (t : Key) (gs : List (Text × List Row)) → has_row group_key (ns ∷ []) gs ≡ false → All IsOwn gs → row_at full (ns ∷ t) (all_rows gs) ≡ None
  none_there ns t [] none all = refl
  none_there ns t (g ∷ gs) none all = elim (cases_Bool (bytes_eq ns g.0)) [
    | inl same ↦ absurd (cc (rw same at none))
    | inr apart ↦ skipped ns t g.0 g.1 (all_rows gs) apart (All-head IsOwn g gs all) ∙ none_there ns t gs (rw apart at none) (All-tail IsOwn g gs all)
  ]

  -- ---- at the place of a namespace

  module _ (ns : Text) (i : ℕ) (rows : List Row) (gs : List (Text × List Row)) (at : slice_get gs i ≡ Some (ns, rows)) (are : AreGroups full ns_of gs) where
    pub own_rows : All (λ row. ns_of row ≡ ns) rows
    own_rows = subst IsOwn (get_or_from_slice_get gs i (ns, rows) (ns, rows) at) (are.own i (ns, rows) (slice_get_within gs i (ns, rows) at))

    is_place : (t : Key) → IsPlace full (ns ∷ t) (map (λ group. group.1) gs) i
    is_place t = record {
      within = let lt = slice_get_within gs i (ns, rows) at in omega (arith, lt, length_map (λ (group : Text × List Row). group.1) gs);
      before = front ns t gs i rows are.order are.own at;
      behind = behind ns t gs i rows are.order are.own at;
    }

    rows_there : get_or (map (λ group. group.1) gs) i rows ≡ rows
    rows_there = list_at gs i (ns, rows) rows at

    pub found_in : (t : Key) → row_at full (ns ∷ t) (all_rows gs) ≡ row_at own t rows
    found_in t = row_there full (ns ∷ t) (map (λ group. group.1) gs) i (is_place t) rows ∙ ap (row_at full (ns ∷ t)) rows_there ∙ row_own ns t rows own_rows

    after_set : (new : List Row) → all_rows (slice_set gs i (ns, new)) ≡ joined (slice_set (map (λ group. group.1) gs) i new)
    after_set new = ap joined (lists_set gs i (ns, new))

    -- rows of the namespace that are in order keep the groups
    pub groups_set : (new : List Row) → All (λ row. ns_of row ≡ ns) new → are_in_order full (all_rows (slice_set gs i (ns, new))) ≡ true → AreGroups full ns_of (slice_set gs i (ns, new))
    groups_set new all o = record {
      order = order_of_names (slice_set gs i (ns, new)) gs (names_set gs i ns rows new at) ∙ are.order;
      own = All-set IsOwn gs i (ns, new) all are.own;
      rows = o;
    }

    -- ---- a row less

    pub taken_in : (t : Key) (new : List Row) → new ≡ remove_row own t rows → all_rows (slice_set gs i (ns, new)) ≡ remove_row full (ns ∷ t) (all_rows gs)
    taken_in t new is = after_set new
        ∙ ap (λ (l : List Row). joined (slice_set (map (λ (group : Text × List Row). group.1) gs) i l)) (is ∙ sym (removed_own ns t rows own_rows) ∙ ap (remove_row full (ns ∷ t)) (sym rows_there))
        ∙ removed_there full (ns ∷ t) (map (λ group. group.1) gs) i (is_place t) rows

    pub taken_groups : (t : Key) (new : List Row) → new ≡ remove_row own t rows → AreGroups full ns_of (slice_set gs i (ns, new))
    taken_groups t new is = groups_set new
        (subst (All (λ row. ns_of row ≡ ns)) (sym is) (all_removed own (λ row. ns_of row ≡ ns) t rows own_rows))
        (ap (are_in_order full) (taken_in t new is) ∙ in_order_removed full (ns ∷ t) (all_rows gs) are.rows)

    -- ---- a row more

    pub added_in : (row : Row) → ns_of row ≡ ns → (new : List Row) → new ≡ add_row own row rows → all_rows (slice_set gs i (ns, new)) ≡ add_row full row (all_rows gs)
    added_in row e new is = after_set new
        ∙ ap (λ (l : List Row). joined (slice_set (map (λ (group : Text × List Row). group.1) gs) i l)) (is ∙ sym (added_own ns row e rows own_rows) ∙ ap (add_row full row) (sym rows_there))
        ∙ added_there full row (map (λ group. group.1) gs) i (subst (λ m. IsPlace full (m ∷ own row) (map (λ (group : Text × List Row). group.1) gs) i) (sym e) (is_place (own row))) rows

    pub added_groups : (row : Row) → ns_of row ≡ ns → has_row full (full row) (all_rows gs) ≡ false → (new : List Row) → new ≡ add_row own row rows → AreGroups full ns_of (slice_set gs i (ns, new))
    added_groups row e free new is = groups_set new
        (subst (All (λ row. ns_of row ≡ ns)) (sym is) (all_added own (λ row. ns_of row ≡ ns) row e rows own_rows))
        (ap (are_in_order full) (added_in row e new is) ∙ in_order_added full row (all_rows gs) are.rows free)

    -- ---- a row that becomes another

    module _ (t : Key) (row after : Row) (new : List Row) (becomes : Becomes own t row after rows new) (same_name : name_of after ≡ name_of row) (same_ns : ns_of after ≡ ns_of row) where
      pub becomes_in : Becomes full (ns ∷ t) row after (all_rows gs) (all_rows (slice_set gs i (ns, new)))
      becomes_in = record {
        there = found_in t ∙ becomes.there;
        rows = after_set new
            ∙ ap (λ (l : List Row). joined (slice_set (map (λ (group : Text × List Row). group.1) gs) i l)) (becomes.rows ∙ sym (changed_own ns t (λ _. after) rows own_rows) ∙ ap (change_row full (ns ∷ t) (λ _. after)) (sym rows_there))
            ∙ changed_in_place full (ns ∷ t) (map (λ group. group.1) gs) i (is_place t) (λ _. after) rows;
      }

      pub becomes_groups : AreGroups full ns_of (slice_set gs i (ns, new))
      becomes_groups =
          let there : ns_of row ≡ ns = at_found own (λ row. ns_of row ≡ ns) t rows row own_rows becomes.there in
          let same : full after ≡ full row = λ j. same_ns j ∷ texts_of (same_name j) in
          groups_set new
          (subst (All (λ row. ns_of row ≡ ns)) (sym becomes.rows) (all_changed own (λ row. ns_of row ≡ ns) t (λ _. after) (λ _ _. same_ns ∙ there) rows own_rows))
          (ap (are_in_order full) becomes_in.rows ∙ in_order_becomes full (ns ∷ t) row after (all_rows gs) are.rows becomes_in.there same)

    -- ---- by what stands at the place

    module _ (group : Text × List Row) (is : group ≡ get_or gs i group) where
      pub group_is : group ≡ (ns, rows)
      group_is = is ∙ get_or_from_slice_get gs i (ns, rows) group at

      pub read_in : (t : Key) → row_at own t group.1 ≡ row_at full (ns ∷ t) (all_rows gs)
      read_in t = ap (λ (x : Text × List Row). row_at own t x.1) group_is ∙ sym (found_in t)

      pub same_set : (new : Text × List Row) → new ≡ group → slice_set gs i new ≡ gs
      same_set new e = ap (slice_set gs i) (e ∙ is) ∙ set-get_or gs i group

      -- a row is taken from the group
      take_is : (t : Key) (new : Text × List Row) → new ≡ (group.0, remove_row own t group.1) → new ≡ (ns, remove_row own t rows)
      take_is t new e = e ∙ ap (λ (x : Text × List Row). (x.0, remove_row own t x.1)) group_is

      pub take_rows : (t : Key) (new : Text × List Row) → new ≡ (group.0, remove_row own t group.1) → all_rows (slice_set gs i new) ≡ remove_row full (ns ∷ t) (all_rows gs)
      take_rows t new e = ap (λ x. all_rows (slice_set gs i x)) (take_is t new e) ∙ taken_in t (remove_row own t rows) refl

      pub take_groups : (t : Key) (new : Text × List Row) → new ≡ (group.0, remove_row own t group.1) → AreGroups full ns_of (slice_set gs i new)
      take_groups t new e = subst (λ x. AreGroups full ns_of (slice_set gs i x)) (sym (take_is t new e)) (taken_groups t (remove_row own t rows) refl)

      -- a row is added to the group
      module _ (row : Row) (e : ns_of row ≡ ns) (new : Text × List Row) where
        add_is : new ≡ (group.0, add_row own row group.1) → new ≡ (ns, add_row own row rows)
        add_is made = made ∙ ap (λ (x : Text × List Row). (x.0, add_row own row x.1)) group_is

        pub add_rows : {A B : Type 0} (r : Result A B) → OnOk r (new ≡ (group.0, add_row own row group.1)) → OnOk r (all_rows (slice_set gs i new) ≡ add_row full row (all_rows gs))
        add_rows (Ok x) made = ap (λ y. all_rows (slice_set gs i y)) (add_is made) ∙ added_in row e (add_row own row rows) refl
        add_rows (Err x) made = tt

        -- or refused, where one of its key is there
        pub add_new_groups : {A B : Type 0} (r : Result A B) → OnOk r (has_row full (full row) (all_rows gs) ≡ false) → OnOk r (new ≡ (group.0, add_row own row group.1)) → OnErr r (new ≡ group) → AreGroups full ns_of (slice_set gs i new)
        add_new_groups (Ok x) free made same = subst (λ y. AreGroups full ns_of (slice_set gs i y)) (sym (add_is made)) (added_groups row e free (add_row own row rows) refl)
        add_new_groups (Err x) free made same = subst (AreGroups full ns_of) (sym (same_set new same)) are

      -- a row of the group becomes another
      module _ (t : Key) (new : Text × List Row) (same : new.0 ≡ group.0) where
        new_is : new ≡ (ns, new.1)
        new_is = λ j. ((same ∙ ap (λ (x : Text × List Row). x.0) group_is) j, new.1)

        module _ (row after : Row) (becomes : Becomes own t row after group.1 new.1) (same_name : name_of after ≡ name_of row) (same_ns : ns_of after ≡ ns_of row) where
          from_rows : Becomes own t row after rows new.1
          from_rows = subst (λ (x : Text × List Row). Becomes own t row after x.1 new.1) group_is becomes

          pub change_rows : Becomes full (ns ∷ t) row after (all_rows gs) (all_rows (slice_set gs i new))
          change_rows = subst (λ x. Becomes full (ns ∷ t) row after (all_rows gs) (all_rows (slice_set gs i x))) (sym new_is) (becomes_in t row after new.1 from_rows same_name same_ns)

          pub change_groups : AreGroups full ns_of (slice_set gs i new)
          change_groups = subst (λ x. AreGroups full ns_of (slice_set gs i x)) (sym new_is) (becomes_groups t row after new.1 from_rows same_name same_ns)

        module _ {A : Type 0} (changes : Row → A → Row → Type 0) (keeps_name : (row : Row) (answer : A) (after : Row) → changes row answer after → name_of after ≡ name_of row)
            (keeps_ns : (row : Row) (answer : A) (after : Row) → changes row answer after → ns_of after ≡ ns_of row) where
          pub changed_some : (r : Option A) → IfSome r (λ answer. (row : Row) × (after : Row) × changes row answer after × Becomes own t row after group.1 new.1)
              → IfSome r (λ answer. (row : Row) × (after : Row) × changes row answer after × Becomes full (ns ∷ t) row after (all_rows gs) (all_rows (slice_set gs i new)))
          changed_some None done = tt
          changed_some (Some answer) done = (done.0, done.1, done.2, change_rows done.0 done.1 done.3 (keeps_name done.0 answer done.1 done.2) (keeps_ns done.0 answer done.1 done.2))

          pub changed_groups : (r : Option A) → IfSome r (λ answer. (row : Row) × (after : Row) × changes row answer after × Becomes own t row after group.1 new.1)
              → IfNone r (new ≡ group) → AreGroups full ns_of (slice_set gs i new)
          changed_groups None done kept = subst (AreGroups full ns_of) (sym (same_set new kept)) are
          changed_groups (Some answer) done kept = change_groups done.0 done.1 done.3 (keeps_name done.0 answer done.1 done.2) (keeps_ns done.0 answer done.1 done.2)

  -- ---- the rows of one namespace among all

  module _ (ns : Text) where
    pub none_pass : (m : Text) (rows : List Row) → bytes_eq ns m ≡ false
        → All (λ row. ns_of row ≡ m) rows → filter (λ row. bytes_eq ns (ns_of row)) rows ≡ []
    none_pass m [] other all = refl
    none_pass m (row ∷ rows) other all =
        let apart : bytes_eq ns (ns_of row) ≡ false = ap (bytes_eq ns) (All-head (λ row. ns_of row ≡ m) row rows all) ∙ other in
        rw apart (none_pass m rows other (All-tail (λ row. ns_of row ≡ m) row rows all))

    pub all_pass : (rows : List Row) → All (λ row. ns_of row ≡ ns) rows
        → filter (λ row. bytes_eq ns (ns_of row)) rows ≡ rows
    all_pass [] all = refl
    all_pass (row ∷ rows) all =
        let same : bytes_eq ns (ns_of row) ≡ true = ap (bytes_eq ns) (All-head (λ row. ns_of row ≡ ns) row rows all) ∙ nat_list_eq_equiv.refl ns in
        rw same (ap (λ rest. row ∷ rest) (all_pass rows (All-tail (λ row. ns_of row ≡ ns) row rows all)))

    pub none_of_it : (gs : List (Text × List Row)) → has_row group_key (ns ∷ []) gs ≡ false → All IsOwn gs → filter (λ row. bytes_eq ns (ns_of row)) (all_rows gs) ≡ []
    none_of_it [] none all = refl
    none_of_it (g ∷ gs) none all = elim (cases_Bool (bytes_eq ns g.0)) [
      | inl same ↦ absurd (cc (rw same at none))
      | inr apart ↦ (
          filter-append (λ row. bytes_eq ns (ns_of row)) g.1 (all_rows gs)
          ∙ ap (λ (l : List Row). l ++ filter (λ row. bytes_eq ns (ns_of row)) (all_rows gs)) (none_pass g.0 g.1 apart (All-head IsOwn g gs all))
          ∙ none_of_it gs (rw apart at none) (All-tail IsOwn g gs all))
    ]

    none_later : (gs : List (Text × List Row)) → All (λ other. is_before (ns ∷ []) (group_key other) ≡ true) gs → has_row group_key (ns ∷ []) gs ≡ false
    none_later [] later = refl
    none_later (g ∷ gs) later =
        rw (not_it (ns ∷ []) (group_key g) (All-head (λ other. is_before (ns ∷ []) (group_key other) ≡ true) g gs later)) (none_later gs (All-tail (λ other. is_before (ns ∷ []) (group_key other) ≡ true) g gs later))

    pub rows_of_it : (gs : List (Text × List Row)) (i : ℕ) (rows : List Row) → are_in_order group_key gs ≡ true → All IsOwn gs → slice_get gs i ≡ Some (ns, rows) → filter (λ row. bytes_eq ns (ns_of row)) (all_rows gs) ≡ rows
    rows_of_it [] i rows o all at = no_none (ns, rows) at
    rows_of_it (g ∷ gs) zero rows o all at =
        let parts = and_parts (is_first group_key g gs) (are_in_order group_key gs) o in
        let is : g ≡ (ns, rows) = some_is g (ns, rows) at in
        let later = subst (λ (h : Text × List Row). All (λ other. is_before (group_key h) (group_key other) ≡ true) gs) is (before_all group_key g gs parts.0 parts.1) in
        filter-append (λ row. bytes_eq ns (ns_of row)) g.1 (all_rows gs)
        ∙ ap (λ (l : List Row). filter (λ row. bytes_eq ns (ns_of row)) g.1 ++ l) (none_of_it gs (none_later gs later) (All-tail IsOwn g gs all))
        ∙ append-nil (filter (λ row. bytes_eq ns (ns_of row)) g.1)
        ∙ ap (λ (h : Text × List Row). filter (λ row. bytes_eq ns (ns_of row)) h.1) is
        ∙ all_pass rows (subst IsOwn is (All-head IsOwn g gs all))
    rows_of_it (g ∷ gs) (suc i) rows o all at =
        let parts = and_parts (is_first group_key g gs) (are_in_order group_key gs) o in
        let later = before_all group_key g gs parts.0 parts.1 i (ns, rows) (slice_get_within gs i (ns, rows) at) in
        let first : is_before (group_key g) (ns ∷ []) ≡ true = subst (λ (h : Text × List Row). is_before (group_key g) (group_key h) ≡ true) (get_or_from_slice_get gs i (ns, rows) (ns, rows) at) later in
        let apart : bytes_eq ns g.0 ≡ false = apart_text g.0 (not_key (group_key g) (ns ∷ []) first) in
        filter-append (λ row. bytes_eq ns (ns_of row)) g.1 (all_rows gs)
        ∙ ap (λ (l : List Row). l ++ filter (λ row. bytes_eq ns (ns_of row)) (all_rows gs)) (none_pass g.0 g.1 apart (All-head IsOwn g gs all))
        ∙ rows_of_it gs i rows parts.1 (All-tail IsOwn g gs all) at
      where
        apart_text : (m : Text) → is_key (ns ∷ []) (m ∷ []) ≡ false → bytes_eq ns m ≡ false
        apart_text m h = elim (cases_Bool (bytes_eq ns m)) [ inl same ↦ absurd (cc (rw same at h)) | inr apart ↦ apart ]

-- some item passes where one is left
pub any_pass : {X : Type 0} (p : X → Bool) (xs : List X) → list_any p xs ≡ not (length (filter p xs) == 0)
any_pass p [] = refl
any_pass p (x ∷ xs) = elim (cases_Bool (p x)) [
  | inl t ↦ rw (t) (sym (some_there x (filter p xs)))
  | inr f ↦ rw f (any_pass p xs)
]
  where
    some_there : {X : Type 0} (x : X) (xs : List X) → not (length (x ∷ xs) == 0) ≡ true
    some_there x xs = grind arith
