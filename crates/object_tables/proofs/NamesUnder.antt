-- The names of the snapshots under each parent follow the rows.
use Rattle.std.proofs.Common.{◌≡◌, Bool, true, false, not, List, [], ◌∷◌, length, map, refl, sym, ap, ◌∙◌, arith, inl, inr, get_or}
use Rattle.std.specs.Prelude.{All, Option, Some, None, bytes_eq, filter, if◌then◌else◌, ◌&&◌, ◌==◌}
use Rattle.std.specs.Option.{option_map_or}
use Rattle.std.specs.List.{list_any}
use Rattle.std.specs.Ordering.{is_lt, ordering_then}
use Rattle.std.specs.Cmp.{tied_itself}
use Rattle.std.specs.Cmp.Lexicographic.{slice_cmp, same_text, nat_list_eq_equiv, nat_list_cmp_total}
use Rattle.std.proofs.lemmas.Bool.{cases_Bool, and_parts}
use Rattle.std.proofs.lemmas.List.{length-map}
use Rattle.std.proofs.lemmas.List.Elements.{All-head, All-tail, All-nil, All-cons}
use Rattle.meta_types.specs.Text.{Text, text_cmp}
use Rattle.meta_types.specs.Keys.{Key, is_key, is_before, is_first, row_at, has_row, add_row, remove_row, change_row, are_in_order}
use Rattle.meta_types.specs.Labels.{LabelList}
use Rattle.meta_types.specs.Rows.{snap_key}
use Rattle.meta_types.specs.Ops.Snapshots.{is_child_of}
use Rattle.meta_types.specs.declared.rows.SnapRow.{SnapRow}
use Rattle.meta_types.specs.declared.rows.SnapKey.{SnapKey}
use Rattle.meta_types.proofs.OneRowPerKey.{before_all}
use Rattle.meta_types.proofs.ListSearches.{some_is, no_none}
use Rattle.meta_types.proofs.Searched.{not_key}
use Rattle.row_tables.specs.Arrived.{one_text, kept}
use Rattle.row_tables.specs.Visiting.{gone, all_visited}
use Rattle.object_tables.specs.Children.{NamesByParent, names_under, entered, left, left_by, without_row, child_named}
use Rattle.object_tables.specs.Calls.{children_of}
use Rattle.row_tables.proofs.NamespaceRows.{any_pass}
use Rattle.object_tables.proofs.Inserted.{filtered_in, filtered_out}
use Rattle.object_tables.proofs.RowsKept.{key_itself, all_kept, taken_out}

-- ---- a snapshot under its parent

three : (a b c : Bool) → (a && (b && (c && true))) ≡ (a && b && c)
three false b c = refl
three true false c = refl
three true true false = refl
three true true true = refl

none_and : (x y : Bool) → (x && y && false) ≡ false
none_and true true = refl
none_and true false = refl
none_and false y = refl

-- a snapshot is a child of the parent that it names
child_is : (row : SnapRow) (p : Text) → row.parent ≡ Some p → (a b c : Text) → is_child_of a b c row ≡ is_key (a ∷ b ∷ c ∷ []) (row.key.ns ∷ row.key.snapshotter ∷ p ∷ [])
child_is row p e a b c = ap (λ o. bytes_eq a row.key.ns && bytes_eq b row.key.snapshotter && option_map_or (bytes_eq c) o false) e
    ∙ sym (three (bytes_eq a row.key.ns) (bytes_eq b row.key.snapshotter) (bytes_eq c p))

no_child : (row : SnapRow) → row.parent ≡ None → (a b c : Text) → is_child_of a b c row ≡ false
no_child row e a b c = ap (λ o. bytes_eq a row.key.ns && bytes_eq b row.key.snapshotter && option_map_or (bytes_eq c) o false) e
    ∙ none_and (bytes_eq a row.key.ns) (bytes_eq b row.key.snapshotter)

-- a row of this namespace and this snapshotter
pub record IsOf (a b : Text) (row : SnapRow) : Type 0 where
  pub ns : row.key.ns ≡ a
  pub snapshotter : row.key.snapshotter ≡ b

pub child_own : (a b c : Text) (row : SnapRow) → is_child_of a b c row ≡ true → IsOf a b row
child_own a b c row t =
    let both = (and_parts (bytes_eq a row.key.ns && bytes_eq b row.key.snapshotter) (option_map_or (bytes_eq c) row.parent false) t).0 in
    let parts = and_parts (bytes_eq a row.key.ns) (bytes_eq b row.key.snapshotter) both in
    record { ns = sym (same_text a row.key.ns (sym parts.0)); snapshotter = sym (same_text b row.key.snapshotter (sym parts.1)) }

abbrev name : SnapRow → Text
name row = row.key.name

module _ (a b : Text) where
  pub all_own : (c : Text) (rows : List SnapRow) → All (IsOf a b) (filter (is_child_of a b c) rows)
  all_own c [] = All-nil (IsOf a b)
  all_own c (row ∷ rows) = elim (cases_Bool (is_child_of a b c row)) [
    | inl t ↦ rw t (All-cons (IsOf a b) row (filter (is_child_of a b c) rows) (child_own a b c row t) (all_own c rows))
    | inr f ↦ rw f (all_own c rows)
  ]

  -- of these the names decide the order
  order_own : (x y : SnapRow) → IsOf a b x → IsOf a b y → is_before (snap_key x) (snap_key y) ≡ is_before (one_text (name x)) (one_text (name y))
  order_own x y e f =
      let last = slice_cmp text_cmp (name x ∷ []) (name y ∷ []) in
      (λ i. is_lt (ordering_then (text_cmp (e.ns i) (f.ns i)) (ordering_then (text_cmp (e.snapshotter i) (f.snapshotter i)) last)))
      ∙ ap (λ r. is_lt (ordering_then r (ordering_then (text_cmp b b) last))) (tied_itself nat_list_cmp_total a)
      ∙ ap (λ r. is_lt (ordering_then r last)) (tied_itself nat_list_cmp_total b)

  key_own : (n : Text) (x : SnapRow) → IsOf a b x → is_key (a ∷ b ∷ n ∷ []) (snap_key x) ≡ is_key (n ∷ []) (one_text (name x))
  key_own n x e =
      (λ i. bytes_eq a (e.ns i) && (bytes_eq b (e.snapshotter i) && is_key (n ∷ []) (one_text (name x))))
      ∙ ap (λ v. v && (bytes_eq b b && is_key (n ∷ []) (one_text (name x)))) (nat_list_eq_equiv.refl a)
      ∙ ap (λ v. v && is_key (n ∷ []) (one_text (name x))) (nat_list_eq_equiv.refl b)

  added_names : (row : SnapRow) → IsOf a b row → (rows : List SnapRow) → All (IsOf a b) rows → map name (add_row snap_key row rows) ≡ add_row one_text (name row) (map name rows)
  added_names row e [] all = refl
  added_names row e (x ∷ rows) all =
      let order = order_own row x e (All-head (IsOf a b) x rows all) in
      elim (cases_Bool (is_before (one_text (name row)) (one_text (name x)))) [
        | inl t ↦ rw (order, t) refl
        | inr f ↦ rw (order, f) (ap (λ names. name x ∷ names) (added_names row e rows (All-tail (IsOf a b) x rows all)))
      ]

  removed_names : (n : Text) (rows : List SnapRow) → All (IsOf a b) rows → map name (remove_row snap_key (a ∷ b ∷ n ∷ []) rows) ≡ remove_row one_text (n ∷ []) (map name rows)
  removed_names n [] all = refl
  removed_names n (x ∷ rows) all =
      let same = key_own n x (All-head (IsOf a b) x rows all) in
      elim (cases_Bool (is_key (n ∷ []) (one_text (name x)))) [
        | inl t ↦ rw (same, t) refl
        | inr f ↦ rw (same, f) (ap (λ names. name x ∷ names) (removed_names n rows (All-tail (IsOf a b) x rows all)))
      ]

-- ---- rows come and go

-- where a row goes that passes, it goes from those that pass
filtered_less : (p : SnapRow → Bool) (key : Key) (row : SnapRow) → p row ≡ true → (rows : List SnapRow) → row_at snap_key key rows ≡ Some row
    → filter p (remove_row snap_key key rows) ≡ remove_row snap_key key (filter p rows)
filtered_less p key row passes [] found = no_none row found
filtered_less p key row passes (x ∷ rows) found = elim (cases_Bool (is_key key (snap_key x))) [
  | inl t ↦ (
      let here : p x ≡ true = ap p (some_is x row (rw t at found)) ∙ passes in
      rw (t, here, t) refl)
  | inr f ↦ (
      let rest = filtered_less p key row passes rows (rw f at found) in
      elim (cases_Bool (p x)) [
        | inl u ↦ rw (f, u, f) (ap (λ others. x ∷ others) rest)
        | inr g ↦ rw (f, g) rest
      ])
]

filtered_past : (p : SnapRow → Bool) (key : Key) (row : SnapRow) → p row ≡ false → (rows : List SnapRow) → row_at snap_key key rows ≡ Some row
    → filter p (remove_row snap_key key rows) ≡ filter p rows
filtered_past p key row fails [] found = no_none row found
filtered_past p key row fails (x ∷ rows) found = elim (cases_Bool (is_key key (snap_key x))) [
  | inl t ↦ (
      let here : p x ≡ false = ap p (some_is x row (rw t at found)) ∙ fails in
      rw (t, here) refl)
  | inr f ↦ (
      let rest = filtered_past p key row fails rows (rw f at found) in
      elim (cases_Bool (p x)) [
        | inl u ↦ rw (f, u) (ap (λ others. x ∷ others) rest)
        | inr g ↦ rw (f, g) rest
      ])
]

-- a snapshot more is listed under its parent
pub named_added : (row : SnapRow) (p : Text) (rows : List SnapRow) → row.parent ≡ Some p → are_in_order snap_key rows ≡ true
    → names_under (add_row snap_key row rows) ≡ entered row.key p (names_under rows)
named_added row p rows e o = λ i a b c. at a b c i
  where
    at : (a b c : Text) → names_under (add_row snap_key row rows) a b c ≡ entered row.key p (names_under rows) a b c
    at a b c = elim (cases_Bool (is_child_of a b c row)) [
      | inl t ↦ rw (sym (child_is row p e a b c) ∙ t)
          (ap (map name) (filtered_in snap_key (is_child_of a b c) row t rows o)
          ∙ added_names a b row (child_own a b c row t) (filter (is_child_of a b c) rows) (all_own a b c rows))
      | inr f ↦ rw (sym (child_is row p e a b c) ∙ f) (ap (map name) (filtered_out snap_key (is_child_of a b c) row f rows))
    ]

pub named_plain : (row : SnapRow) (rows : List SnapRow) → row.parent ≡ None → names_under (add_row snap_key row rows) ≡ names_under rows
named_plain row rows e = λ i a b c. ap (map name) (filtered_out snap_key (is_child_of a b c) row (no_child row e a b c) rows) i

-- one less isn't
pub named_removed : (row : SnapRow) (p : Text) (rows : List SnapRow) → row.parent ≡ Some p → row_at snap_key (snap_key row) rows ≡ Some row
    → names_under (remove_row snap_key (snap_key row) rows) ≡ left row.key p (names_under rows)
named_removed row p rows e found = λ i a b c. at a b c i
  where
    at : (a b c : Text) → names_under (remove_row snap_key (snap_key row) rows) a b c ≡ left row.key p (names_under rows) a b c
    at a b c = elim (cases_Bool (is_child_of a b c row)) [
      | inl t ↦ (
          let own = child_own a b c row t in
          rw (sym (child_is row p e a b c) ∙ t)
          (ap (map name) (filtered_less (is_child_of a b c) (snap_key row) row t rows found)
          ∙ ap (λ (k : Key). map name (remove_row snap_key k (filter (is_child_of a b c) rows))) (λ j. own.ns j ∷ own.snapshotter j ∷ name row ∷ [])
          ∙ removed_names a b (name row) (filter (is_child_of a b c) rows) (all_own a b c rows)))
      | inr f ↦ rw (sym (child_is row p e a b c) ∙ f) (ap (map name) (filtered_past (is_child_of a b c) (snap_key row) row f rows found))
    ]

pub named_past : (row : SnapRow) (rows : List SnapRow) → row.parent ≡ None → row_at snap_key (snap_key row) rows ≡ Some row
    → names_under (remove_row snap_key (snap_key row) rows) ≡ names_under rows
named_past row rows e found = λ i a b c. ap (map name) (filtered_past (is_child_of a b c) (snap_key row) row (no_child row e a b c) rows found) i

-- by its parent, if it has one
pub named_less : (row : SnapRow) (rows : List SnapRow) → row_at snap_key (snap_key row) rows ≡ Some row
    → names_under (remove_row snap_key (snap_key row) rows) ≡ without_row (names_under rows) row
named_less row rows found = go row.parent refl
  where
    go : (o : Option Text) → row.parent ≡ o → names_under (remove_row snap_key (snap_key row) rows) ≡ without_row (names_under rows) row
    go None e = named_past row rows e found ∙ ap (λ o. left_by row.key o (names_under rows)) (sym e)
    go (Some p) e = named_removed row p rows e found ∙ ap (λ o. left_by row.key o (names_under rows)) (sym e)

-- labels and data are no part of it
pub named_reset : (key : Key) (labels_in : SnapRow → LabelList) (extra_in : SnapRow → Text)
    (rows : List SnapRow)
    → names_under (change_row snap_key key
    (λ row. record row { labels = labels_in row; extra = extra_in row }) rows) ≡ names_under rows
named_reset key labels_in extra_in rows = λ i a b c. at a b c rows i
  where
    at : (a b c : Text) (rows : List SnapRow)
        → names_under (change_row snap_key key
        (λ row. record row { labels = labels_in row; extra = extra_in row }) rows) a b c
        ≡ names_under rows a b c
    at a b c [] = refl
    at a b c (row ∷ rows) = elim (cases_Bool (is_key key (snap_key row))) [
      | inl t ↦ elim (cases_Bool (is_child_of a b c row)) [
        | inl u ↦ rw (t, u) refl
        | inr g ↦ rw (t, g) refl
      ]
      | inr f ↦ elim (cases_Bool (is_child_of a b c row)) [
        | inl u ↦ rw (f, u) (ap (λ names. name row ∷ names) (at a b c rows))
        | inr g ↦ rw (f, g) (at a b c rows)
      ]
    ]

-- ---- what the names tell

-- some row is a child where the names of the children are not none
pub some_named : (a b c : Text) (rows : List SnapRow) → list_any (is_child_of a b c) rows ≡ not (length (names_under rows a b c) == 0)
some_named a b c rows = any_pass (is_child_of a b c) rows ∙ ap (λ n. not (n == 0)) (sym (length-map (filter (is_child_of a b c) rows) name))

-- and the keys of children
pub named_children : (a b c : Text) (rows : List SnapRow) → map (child_named a b) (names_under rows a b c) ≡ children_of a b c rows
named_children a b c rows = go (filter (is_child_of a b c) rows) (all_own a b c rows)
  where
    go : (rows : List SnapRow) → All (IsOf a b) rows → map (child_named a b) (map name rows) ≡ map (λ row. row.key) rows
    go [] all = refl
    go (row ∷ rows) all =
        let own = All-head (IsOf a b) row rows all in
        λ j. record { ns = sym own.ns j; snapshotter = sym own.snapshotter j; name = name row } ∷ go rows (All-tail (IsOf a b) row rows all) j

-- ---- a name that is free

pub named_free : (a b c n : Text) (rows : List SnapRow) → has_row snap_key (a ∷ b ∷ n ∷ []) rows ≡ false → has_row one_text (n ∷ []) (names_under rows a b c) ≡ false
named_free a b c n [] free = refl
named_free a b c n (x ∷ rows) free = elim (cases_Bool (is_key (a ∷ b ∷ n ∷ []) (snap_key x))) [
  | inl t ↦ absurd (cc (rw t at free))
  | inr f ↦ elim (cases_Bool (is_child_of a b c x)) [
    | inl u ↦ rw (u, sym (key_own a b n x (child_own a b c x u)) ∙ f) (named_free a b c n rows (rw f at free))
    | inr g ↦ rw g (named_free a b c n rows (rw f at free))
  ]
]

same_three : (a b c x y z : Text) → is_key (a ∷ b ∷ c ∷ []) (x ∷ y ∷ z ∷ []) ≡ true → (a ≡ x) × (b ≡ y) × (c ≡ z)
same_three a b c x y z t =
    let first = and_parts (bytes_eq a x) (bytes_eq b y && (bytes_eq c z && true)) t in
    let second = and_parts (bytes_eq b y) (bytes_eq c z && true) first.1 in
    (same_text a x (sym first.0), same_text b y (sym second.0), same_text c z (sym (and_parts (bytes_eq c z) true second.1).0))

-- what was entered goes again
pub entered_left : (key : SnapKey) (p : Text) (names : NamesByParent) → has_row one_text (key.name ∷ []) (names key.ns key.snapshotter p) ≡ false → left key p (entered key p names) ≡ names
entered_left key p names free = λ i a b c. at a b c i
  where
    at : (a b c : Text) → left key p (entered key p names) a b c ≡ names a b c
    at a b c = elim (cases_Bool (is_key (a ∷ b ∷ c ∷ []) (key.ns ∷ key.snapshotter ∷ p ∷ []))) [
      | inl t ↦ (
          let same = same_three a b c key.ns key.snapshotter p t in
          rw t (taken_out one_text key.name (names a b c) ((λ j. has_row one_text (key.name ∷ []) (names (same.0 j) (same.1 j) (same.2 j))) ∙ free)))
      | inr f ↦ rw f refl
    ]

-- ---- rows whose mark is set

-- the names with those of one row more in front
abbrev consed : SnapRow → NamesByParent → NamesByParent
consed row names a b c = if is_child_of a b c row then name row ∷ names a b c else names a b c

named_cons : (row : SnapRow) (rows : List SnapRow) → names_under (row ∷ rows) ≡ consed row (names_under rows)
named_cons row rows = λ i a b c. at a b c i
  where
    at : (a b c : Text) → names_under (row ∷ rows) a b c ≡ consed row (names_under rows) a b c
    at a b c = elim (cases_Bool (is_child_of a b c row)) [
      | inl t ↦ rw t refl
      | inr f ↦ rw f refl
    ]

-- another row goes from behind
left_behind : (row : SnapRow) (key : SnapKey) (p : Text) (names : NamesByParent) → is_key (key.ns ∷ key.snapshotter ∷ key.name ∷ []) (snap_key row) ≡ false
    → left key p (consed row names) ≡ consed row (left key p names)
left_behind row key p names apart = λ i a b c. at a b c i
  where
    at : (a b c : Text) → left key p (consed row names) a b c ≡ consed row (left key p names) a b c
    at a b c = elim (cases_Bool (is_key (a ∷ b ∷ c ∷ []) (key.ns ∷ key.snapshotter ∷ p ∷ []))) [
      | inl t ↦ elim (cases_Bool (is_child_of a b c row)) [
        | inl u ↦ (
            let same = same_three a b c key.ns key.snapshotter p t in
            let other : is_key (key.name ∷ []) (one_text (name row)) ≡ false =
            sym (key_own a b key.name row (child_own a b c row u)) ∙ (λ j. is_key (same.0 j ∷ same.1 j ∷ key.name ∷ []) (snap_key row)) ∙ apart in
            rw (t, u, other) refl)
        | inr g ↦ rw (t, g) refl
      ]
      | inr f ↦ rw f refl
    ]

without_row_behind : (row other : SnapRow) (names : NamesByParent) → is_key (snap_key other) (snap_key row) ≡ false → without_row (consed row names) other ≡ consed row (without_row names other)
without_row_behind row other names apart = go other.parent
  where
    go : (o : Option Text) → left_by other.key o (consed row names) ≡ consed row (left_by other.key o names)
    go None = refl
    go (Some p) = left_behind row other.key p names apart

-- the row itself goes
without_row_own : (row : SnapRow) (names : NamesByParent) → without_row (consed row names) row ≡ names
without_row_own row names = go row.parent refl
  where
    go : (o : Option Text) → row.parent ≡ o → left_by row.key o (consed row names) ≡ names
    go None e = λ i a b c. ap (λ v. if v then name row ∷ names a b c else names a b c) (no_child row e a b c) i
    go (Some p) e = λ i a b c. at a b c i
      where
        at : (a b c : Text) → left row.key p (consed row names) a b c ≡ names a b c
        at a b c = elim (cases_Bool (is_child_of a b c row)) [
          | inl t ↦ rw (sym (child_is row p e a b c) ∙ t, t, key_itself (name row ∷ [])) refl
          | inr f ↦ rw (sym (child_is row p e a b c) ∙ f, f) refl
        ]

all_behind : (row : SnapRow) (gone_rows : List SnapRow) (names : NamesByParent) → All (λ other. is_key (snap_key other) (snap_key row) ≡ false) gone_rows
    → all_visited without_row gone_rows (consed row names) ≡ consed row (all_visited without_row gone_rows names)
all_behind row [] names apart = refl
all_behind row (other ∷ rest) names apart =
    ap (all_visited without_row rest) (without_row_behind row other names (All-head (λ x. is_key (snap_key x) (snap_key row) ≡ false) other rest apart))
    ∙ all_behind row rest (without_row names other) (All-tail (λ x. is_key (snap_key x) (snap_key row) ≡ false) other rest apart)

-- the names of those that stay are what is left once the others have gone
pub named_kept : (marks : List Bool) (rows : List SnapRow) → length marks ≡ length rows → are_in_order snap_key rows ≡ true
    → all_visited without_row (gone marks rows) (names_under rows) ≡ names_under (kept marks rows)
named_kept [] [] len o = refl
named_kept [] (row ∷ rows) len o = absurd (omega (arith, len))
named_kept (mark ∷ marks) [] len o = absurd (omega (arith, len))
named_kept (true ∷ marks) (row ∷ rows) len o =
    let parts = and_parts (is_first snap_key row rows) (are_in_order snap_key rows) o in
    let later = before_all snap_key row rows parts.0 parts.1 in
    ap (all_visited without_row (gone marks rows)) (named_cons row rows)
    ∙ all_behind row (gone marks rows) (names_under rows)
    (all_kept (λ other. is_key (snap_key other) (snap_key row) ≡ false) (map not marks) rows (λ k d lt. not_key (snap_key row) (snap_key (get_or rows k d)) (later k d lt)))
    ∙ ap (consed row) (named_kept marks rows (omega (arith, len)) parts.1)
    ∙ sym (named_cons row (kept marks rows))
named_kept (false ∷ marks) (row ∷ rows) len o =
    let parts = and_parts (is_first snap_key row rows) (are_in_order snap_key rows) o in
    ap (λ names. all_visited without_row (gone marks rows) (without_row names row)) (named_cons row rows)
    ∙ ap (all_visited without_row (gone marks rows)) (without_row_own row (names_under rows))
    ∙ named_kept marks rows (omega (arith, len)) parts.1
