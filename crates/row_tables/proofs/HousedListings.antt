-- The rows of one namespace among all, and passes over all namespaces, in whatever order they stand.
use Rattle.std.proofs.Common.{◌≡◌, ℕ, ◌+◌, ◌<◌, ◌≤◌, zero, suc, Bool, true, false, List, [], ◌∷◌, ◌++◌, length, length-append, append-nil, append_assoc, get_or, take, drop, map, filter, Some, refl, sym, ap, ◌∙◌, subst, arith, inl, inr}
use Rattle.std.specs.Prelude.{All, slice_get, slice_set, bytes_eq, ◌&&◌, not, ◌==◌, IsTrue, count_by}
use Rattle.std.specs.List.{IsDistinct, AllByRecursion, list_any, list_all}
use Rattle.std.proofs.lemmas.Bool.{cases_Bool}
use Rattle.std.proofs.lemmas.Grind.{common_steps}
use Rattle.std.proofs.lemmas.List.{take_more, take-map, drop_more, drop_all, drop-map, length-map}
use Rattle.row_tables.proofs.MappedLists.{length_map}
use Rattle.std.proofs.lemmas.List.Elements.{All-head, All-tail, All-nil, All-filter, filter_passes, filter-append}
use Rattle.std.proofs.lemmas.Option.{slice_get_within, get_or_from_slice_get}
use Rattle.indexmap.specs.IndexMap.{set_value_at, insert_entry}
use Rattle.row_tables.proofs.Entries.{not_yet}
use Rattle.meta_types.specs.Text.{Text}
use Rattle.meta_types.specs.Keys.{Key, is_key, has_row, add_row}
use Rattle.meta_types.proofs.ListSearches.{no_none, some_is}
use Rattle.row_tables.specs.Arrived.{sorted, same_key, kept}
use Rattle.row_tables.specs.ArrivedNamespaces.{AreApart, AreFull, AreHoused, has_rows}
use Rattle.row_tables.specs.Visiting.{gone, all_visited}
use Rattle.row_tables.specs.Namespaces.{joined, group_key, all_rows}
use Rattle.row_tables.proofs.Arrivals.{stayed, length_sorted, all_sorted, kept_is, kept_stays}
use Rattle.row_tables.proofs.ApartNamespaces.{rows_distinct, each_apart, names_distinct, first_apart, none_others, distinct_none}
use Rattle.row_tables.proofs.KeptRows.{kept_less}
use Rattle.row_tables.proofs.KeysOnce.{kept_apart}
use Rattle.row_tables.proofs.ListedNamespaces.{all_in}
use Rattle.row_tables.proofs.NamespaceHomes.{set_entry, new_entry}
use Rattle.row_tables.proofs.NamespaceLists.{all_append, name_key}
use Rattle.row_tables.proofs.NamespaceRows.{none_pass, all_pass, none_of_it, added_own, any_pass}
use Rattle.row_tables.proofs.NamespacesArrived.{key, name}
use Rattle.row_tables.proofs.RowCounts.{length_marked}
use Rattle.row_tables.proofs.SweptNamespaces.{Retains, retains_all, retains_within, retains_more, kept_split, none_kept}

-- ---- what a map's index gives

pub group_there : {X : Type 0} (gs : List (Text × X)) (i : ℕ) (rows : X) → i < length gs
    → slice_get (map (λ (g : Text × X). g.1) gs) i ≡ Some rows
    → (group : Text × X) × (slice_get gs i ≡ Some group) × (group ≡ get_or gs i group) × (group.1 ≡ rows)
group_there [] i rows lt at = absurd (omega arith)
group_there (g ∷ gs) zero rows lt at = (g, refl, refl, some_is g.1 rows at)
group_there (g ∷ gs) (suc i) rows lt at = group_there gs i rows (omega arith) at

-- ---- lists, one behind the other

joined_append : {X : Type 0} (xs ys : List (List X)) → joined (xs ++ ys) ≡ joined xs ++ joined ys
joined_append [] ys = refl
joined_append (x ∷ xs) ys =
    ap (λ rest. x ++ rest) (joined_append xs ys) ∙ sym (append_assoc x (joined xs) (joined ys))

pub joined_more : {X : Type 0} (lists : List (List X)) (i : ℕ) (list : List X) → i < length lists
    → list ≡ get_or lists i list → joined (take (i + 1) lists) ≡ joined (take i lists) ++ list
joined_more lists i list lt is =
    ap joined (take_more lists i list lt) ∙ joined_append (take i lists) (get_or lists i list ∷ [])
    ∙ ap (λ rows. joined (take i lists) ++ rows) (append-nil (get_or lists i list) ∙ sym is)

-- ---- rows whose mark is unset, visited

module _ {P Row : Type 0} (after_visit : P → Row → P) where
  visited_both : (xs ys : List Row) (visited : P)
      → all_visited after_visit (xs ++ ys) visited ≡ all_visited after_visit ys (all_visited after_visit xs visited)
  visited_both [] ys visited = refl
  visited_both (x ∷ xs) ys visited = visited_both xs ys (after_visit visited x)

  -- the tables before the place are visited, and the marks left are those of the others
  pub record VisitsTables (end : P) (tables : List (List Row)) (i : ℕ) (rest : List Bool) (now : P) : Type 0 where
    pub len : length rest ≡ length (joined (drop i tables))
    pub visited : all_visited after_visit (gone rest (joined (drop i tables))) now ≡ end

  module _ {end : P} {tables : List (List Row)} {i : ℕ} {rest : List Bool} {now : P}
      (so : VisitsTables end tables i rest now) where
    module _ {table : List Row} (lt : i < length tables) (is : table ≡ get_or tables i table)
        {count : ℕ} (counted : count ≡ length table) where
      abbrev behind : List Row
      behind = joined (drop (i + 1) tables)

      parts : joined (drop i tables) ≡ table ++ behind
      parts = ap joined (drop_more tables i table lt) ∙ ap (λ (l : List Row). l ++ behind) (sym is)

      pub tables_within : count ≤ length rest
      tables_within = omega (arith, counted, so.len, ap length parts, length-append table behind)

      fits : length table ≤ length rest
      fits = omega (arith, counted, tables_within)

      left_over : length (drop (length table) rest) ≡ length behind
      left_over =
          let n : length (drop (length table) rest) + length table ≡ length rest = dropped rest (length table) fits in
          omega (arith, so.len, ap length parts, length-append table behind, n)
        where
          dropped : (marks : List Bool) (n : ℕ) → n ≤ length marks
              → length (drop n marks) + n ≡ length marks
          dropped marks n h = grind (arith, common_steps)

      pub tables_more : {own later : List Bool} {next : P} → own ≡ take count rest
          → later ≡ drop count rest → next ≡ all_visited after_visit (gone own table) now
          → VisitsTables end tables (i + 1) later next
      tables_more {own} {later} {next} mine others made =
          let n = length table in
          record {
            len = ap length (others ∙ ap (λ k. drop k rest) counted) ∙ left_over;
            visited = ap (all_visited after_visit (gone later behind)) made
                ∙ sym (visited_both (gone own table) (gone later behind) now)
                ∙ ap (λ l. all_visited after_visit l now)
                (ap (λ m. gone m table ++ gone later behind) (mine ∙ ap (λ k. take k rest) counted)
                ∙ ap (λ m. gone (take n rest) table ++ gone m behind)
                (others ∙ ap (λ k. drop k rest) counted)
                ∙ ap (λ m. kept m table ++ gone (drop n rest) behind) (sym (take-map not n rest))
                ∙ ap (λ m. kept (take n (map not rest)) table ++ kept m behind)
                (sym (drop-map not n rest))
                ∙ sym
                (kept_split (map not rest) table behind (omega (arith, fits, length-map rest not)))
                ∙ ap (gone rest) (sym parts))
                ∙ so.visited;
          }

    pub tables_all : length tables ≤ i → now ≡ end
    tables_all past =
        sym (ap (λ l. all_visited after_visit (gone rest (joined l)) now) (drop_all i tables past) ∙ ap (λ l. all_visited after_visit l now) (none_kept (map not rest))) ∙ so.visited

module _ {K Row : Type 0} (texts_of : K → Key) (name_of : Row → K) (ns_of : Row → Text) where
  abbrev full : Row → Key
  full row = key texts_of name_of ns_of row

  abbrev own : Row → Key
  own row = name texts_of name_of ns_of row

  abbrev Ours : List (Text × List Row) → Type 0
  Ours gs = AreApart full ns_of gs

  abbrev Own : Text × List Row → Type 0
  Own group = All (λ row. ns_of row ≡ group.0) group.1

  -- ---- the rows of one namespace

  module _ (ns : Text) where
    abbrev p : Row → Bool
    p row = bytes_eq ns (ns_of row)

    filter_at : (gs : List (Text × List Row)) (i : ℕ) (rows : List Row)
        → IsDistinct (same_key group_key) gs → All Own gs → slice_get gs i ≡ Some (ns, rows)
        → filter p (all_rows gs) ≡ rows
    unfolding IsDistinct
    filter_at [] i rows d mine at = no_none (ns, rows) at
    filter_at (g ∷ gs) zero rows d mine at =
        let is : g ≡ (ns, rows) = some_is g (ns, rows) at in
        filter-append p g.1 (all_rows gs)
        ∙ ap (λ (l : List Row). filter p g.1 ++ l)
        (none_of_it texts_of name_of ns_of ns gs (none_others ns gs (subst (λ (h : Text × List Row). AllByRecursion (λ o. is_key (group_key h) (group_key o) ≡ false) gs) is d.0)) (All-tail Own g gs mine))
        ∙ append-nil (filter p g.1)
        ∙ ap (λ (h : Text × List Row). filter p h.1) is
        ∙ all_pass texts_of name_of ns_of ns rows (subst Own is (All-head Own g gs mine))
    filter_at (g ∷ gs) (suc i) rows d mine at =
        filter-append p g.1 (all_rows gs)
        ∙ ap (λ (l : List Row). l ++ filter p (all_rows gs))
        (none_pass texts_of name_of ns_of ns g.0 g.1 (first_apart texts_of name_of ns_of ns g gs i rows d.0 at) (All-head Own g gs mine))
        ∙ filter_at gs i rows d.1 (All-tail Own g gs mine) at

    sorted_own : (rows : List Row) → All (λ row. ns_of row ≡ ns) rows
        → sorted full rows ≡ sorted own rows
    sorted_own [] mine = refl
    sorted_own (x ∷ rows) mine =
        let others = All-tail (λ row. ns_of row ≡ ns) x rows mine in
        ap (add_row full x) (sorted_own rows others)
        ∙ added_own texts_of name_of ns_of ns x (All-head (λ row. ns_of row ≡ ns) x rows mine)
        (sorted own rows) (all_in own (λ row. ns_of row ≡ ns) rows others)

    module _ (gs : List (Text × List Row)) (are : Ours gs) where
      module _ (i : ℕ) (rows : List Row) (at : slice_get gs i ≡ Some (ns, rows)) where
        pub rows_at : filter (λ row. bytes_eq ns (ns_of row)) (all_rows gs) ≡ rows
        rows_at = filter_at gs i rows are.names are.own at

        within : i < length gs
        within = slice_get_within gs i (ns, rows) at

        item : get_or gs i (ns, rows) ≡ (ns, rows)
        item = get_or_from_slice_get gs i (ns, rows) (ns, rows) at

        pub sorted_at : filter (λ row. bytes_eq ns (ns_of row)) (sorted full (all_rows gs)) ≡ sorted own rows
        sorted_at =
            let once : IsDistinct (same_key full) (filter p (all_rows gs)) = subst (IsDistinct (same_key full)) (sym rows_at) (subst (λ (g : Text × List Row). IsDistinct (same_key full) g.1) item (are.each i (ns, rows) within)) in
            sym (stayed full p (all_rows gs) (rows_distinct texts_of name_of ns_of gs are) once)
            ∙ ap (sorted full) rows_at
            ∙ sorted_own rows (subst Own item (are.own i (ns, rows) within))

        pub any_at : AreFull gs
            → list_any (λ row. bytes_eq ns (ns_of row)) (sorted full (all_rows gs)) ≡ true
        any_at all =
            any_pass p (sorted full (all_rows gs))
            ∙ ap (λ (l : List Row). not (length l == 0)) sorted_at
            ∙ ap (λ n. not (n == 0)) (length_sorted own rows)
            ∙ subst (λ (g : Text × List Row). has_rows g ≡ true) item (all i (ns, rows) within)

      module _ (none : has_row group_key (ns ∷ []) gs ≡ false) where
        pub none_rows : filter (λ row. bytes_eq ns (ns_of row)) (all_rows gs) ≡ []
        none_rows = none_of_it texts_of name_of ns_of ns gs none are.own

        pub none_sorted : filter (λ row. bytes_eq ns (ns_of row)) (sorted full (all_rows gs)) ≡ []
        none_sorted =
            sym
            (stayed full p (all_rows gs) (rows_distinct texts_of name_of ns_of gs are) (subst (IsDistinct (same_key full)) (sym none_rows) (distinct_none (same_key full))))
            ∙ ap (sorted full) none_rows

        pub none_any : list_any (λ row. bytes_eq ns (ns_of row)) (sorted full (all_rows gs)) ≡ false
        none_any =
            any_pass p (sorted full (all_rows gs))
            ∙ ap (λ (l : List Row). not (length l == 0)) none_sorted

  -- ---- a test of all rows

  tables_pass : (test : Row → Bool) (gs : List (Text × List Row))
      → list_all (λ rows. list_all test (sorted own rows)) (map (λ (g : Text × List Row). g.1) gs) ≡ list_all test (all_rows gs)
  tables_pass test [] = refl
  tables_pass test (g ∷ gs) =
      (λ i. all_sorted own test g.1 i && tables_pass test gs i)
      ∙ sym (all_append test g.1 (all_rows gs))

  pub all_tables : (test : Row → Bool) (gs : List (Text × List Row))
      → list_all (λ rows. list_all test (sorted own rows)) (map (λ (g : Text × List Row). g.1) gs) ≡ list_all test (sorted full (all_rows gs))
  all_tables test gs = tables_pass test gs ∙ sym (all_sorted full test (all_rows gs))

  -- ---- rows whose mark is set, kept

  pub swept_from : {marks : List Bool} {gs : List (Text × List Row)}
      → length marks ≡ length (all_rows gs) → Ours gs → Retains ns_of marks gs gs 0 marks
  swept_from len are = record { len = len; rows = refl; names = refl; own = are.own }

  pub swept_past : {marks : List Bool} {old gs : List (Text × List Row)} {i : ℕ} {rest : List Bool}
      → Retains ns_of marks old gs i rest → length old ≤ i → length gs ≤ i
  swept_past {old = old} {gs = gs} so past =
      let same : length gs ≡ length old = sym (length_map (λ (g : Text × List Row). g.0) gs) ∙ ap length so.names ∙ length_map (λ (g : Text × List Row). g.0) old in
      omega (arith, past, same)

  module _ {marks : List Bool} {old gs : List (Text × List Row)} {i : ℕ} {rest : List Bool}
      (so : Retains ns_of marks old gs i rest) (past : length gs ≤ i) where
    -- each namespace stands once still
    pub retains_apart : Ours old → Ours gs
    retains_apart are = record {
      own = so.own;
      names = names_distinct gs old so.names are.names;
      each = each_apart texts_of name_of ns_of gs (subst (IsDistinct (same_key full)) (sym (retains_all ns_of so past)) (kept_apart full marks (all_rows old) (rows_distinct texts_of name_of ns_of old are)));
    }

  -- ---- one namespace more of a sweep

  module _ {marks : List Bool} {old gs : List (Text × List Row)} {i : ℕ} {rest : List Bool}
      (so : Retains ns_of marks old gs i rest) (lt : i < length old)
      {read written : List Row} (first : slice_get (map (λ (g : Text × List Row). g.1) gs) i ≡ Some read) (second : slice_get (map (λ (g : Text × List Row). g.1) gs) i ≡ Some written)
      {count : ℕ} (counted : count ≡ length read) where
    as_many : length gs ≡ length old
    as_many =
        sym (length_map (λ (g : Text × List Row). g.0) gs) ∙ ap length so.names
        ∙ length_map (λ (g : Text × List Row). g.0) old

    here : i < length gs
    here = omega (arith, lt, as_many)

    it : (group : Text × List Row) × (slice_get gs i ≡ Some group) × (group ≡ get_or gs i group) × (group.1 ≡ written)
    it = group_there gs i written here second

    counts : count ≡ length (get_or gs i it.0).1
    counts =
        counted ∙ ap length (some_is read written (sym first ∙ second)) ∙ ap length (sym it.3)
        ∙ ap (λ (x : Text × List Row). length x.1) it.2

    pub retains_fits : count ≤ length rest
    retains_fits = retains_within ns_of so here it.2 counts

    pub retains_next : {own later : List Bool} {left : List Row} → own ≡ take count rest
        → later ≡ drop count rest → left ≡ kept own written
        → Retains ns_of marks old (set_value_at gs i left) (i + 1) later
    retains_next {own} {later} {left} mine others made =
        subst (λ l. Retains ns_of marks old l (i + 1) later)
        (ap (λ (x : Text × List Row). slice_set gs i (x.0, left)) (sym it.2) ∙ sym (set_entry gs i it.0.0 it.0.1 left it.1))
        (retains_more ns_of so here it.2 counts mine others (made ∙ ap (kept own) (sym it.3 ∙ ap (λ (x : Text × List Row). x.1) it.2)))

  -- ---- the namespaces that have rows

  full_rows : (gs : List (Text × List Row)) → all_rows (filter has_rows gs) ≡ all_rows gs
  full_rows [] = refl
  full_rows (g ∷ gs) = elim (cases_Bool (has_rows g)) [
    | inl t ↦ rw t (ap (λ rest. g.1 ++ rest) (full_rows gs))
    | inr f ↦ rw f (full_rows gs ∙ ap (λ rest. rest ++ all_rows gs) (sym (no_rows g.1 f)))
  ]
    where
      no_rows : (rows : List Row) → not (length rows == 0) ≡ false → rows ≡ []
      no_rows [] h = refl
      no_rows (x ∷ rows) h = absurd (some_there x rows h)
        where
          some_there : (x : Row) (rows : List Row) → not (length (x ∷ rows) == 0) ≡ false → ⊥
          some_there x rows h = grind arith

  module _ (gs new : List (Text × List Row)) (is : new ≡ filter has_rows gs) where
    pub closed_all_rows : all_rows new ≡ all_rows gs
    closed_all_rows = ap all_rows is ∙ full_rows gs

    pub closed_all_apart : Ours gs → Ours new
    closed_all_apart are = subst Ours (sym is) (record {
      own = All-filter has_rows Own gs are.own;
      names = subst (IsDistinct (same_key group_key)) (kept_is group_key has_rows gs) (kept_apart group_key (map has_rows gs) gs are.names);
      each = All-filter has_rows (λ group. IsDistinct (same_key full) group.1) gs are.each;
    })

    pub closed_all_full : AreFull new
    closed_all_full = subst AreFull (sym is) (filter_passes has_rows gs)

  pub nothing_housed : (gs : List (Text × List Row)) → gs ≡ [] → AreHoused full ns_of gs 0
  nothing_housed gs is = subst (λ (l : List (Text × List Row)). AreHoused full ns_of l 0) (sym is) (record {
    are = record { own = All-nil Own; names = distinct_none (same_key group_key); each = All-nil (λ group. IsDistinct (same_key full) group.1) };
    full = All-nil (λ group. IsTrue (has_rows group));
    counted = refl;
    fits = omega arith;
  })

  -- ---- how many are left, and which

  module _ (marks : List Bool) {gs new : List (Text × List Row)} {rows : List Row}
      (view : all_rows gs ≡ rows) (left : all_rows new ≡ kept marks (all_rows gs))
      (are : Ours new) where
    -- as many stay as are marked
    pub kept_counted : {old count : ℕ} → AreHoused full ns_of gs old → AreFull new
        → length marks ≡ length rows → count ≡ count_by (λ mark. mark) marks
        → AreHoused full ns_of new count
    kept_counted {old} {count} have all len counted =
        let marked = length_marked marks (all_rows gs) (len ∙ ap length (sym view)) in
        let less = kept_less marks (all_rows gs) in
        record {
          are = are;
          full = all;
          counted = counted ∙ sym marked ∙ ap length (sym left);
          fits = omega (arith, less, marked, counted, have.counted, have.fits);
        }

    -- in the order of their keys, those stay that the test lets stay
    pub kept_sorted : Ours gs → (stays : Row → Bool) → marks ≡ map stays rows
        → sorted full (all_rows new) ≡ filter stays (sorted full rows)
    kept_sorted old stays by =
        kept_stays full stays rows (all_rows new) marks
        (subst (IsDistinct (same_key full)) view (rows_distinct texts_of name_of ns_of gs old)) (rows_distinct texts_of name_of ns_of new are)
        (left ∙ ap (kept marks) view) by

-- ---- a place within all rows

module _ {Row : Type 0} where
  rows_of_front : (gs : List (Text × List Row)) (i : ℕ) (g : Text × List Row)
      → slice_get gs i ≡ Some g → length (all_rows (take i gs)) + length g.1 ≤ length (all_rows gs)
  rows_of_front [] i g at = no_none g at
  rows_of_front (h ∷ gs) zero g at =
      let same : length g.1 ≡ length h.1 = ap (λ (x : Text × List Row). length x.1) (sym (some_is h g at)) in
      omega (arith, same, length-append h.1 (all_rows gs))
  rows_of_front (h ∷ gs) (suc i) g at =
      let rest = rows_of_front gs i g at in
      omega (arith, rest, length-append h.1 (all_rows gs), length-append h.1 (all_rows (take i gs)))

  pub fits_there : (gs : List (Text × List Row)) (i : ℕ) (g : Text × List Row)
      → slice_get gs i ≡ Some g → length (all_rows (take i gs)) + length g.1 ≤ length (all_rows gs)
  fits_there gs i g at = rows_of_front gs i g at

-- ---- a copy

pub copied_more : {X : Type 0} (gs : List (Text × X)) (i : ℕ) (copies new : List (Text × X)) (m : Text) (read given : X)
    → i < length gs → IsDistinct (same_key name_key) gs → copies ≡ take i gs
    → ((group : Text × X) → slice_get gs i ≡ Some group → m ≡ group.0)
    → slice_get (map (λ (g : Text × X). g.1) gs) i ≡ Some read → given ≡ read
    → new ≡ insert_entry bytes_eq copies m given → new ≡ take (i + 1) gs
copied_more gs i copies new m read given lt names so_far is_name at same made =
    let it = group_there gs i read lt at in
    let none = not_yet name_key gs i it.0 names lt it.2 in
    new_entry (take i gs) it.0.0 it.0.1 m given new none (is_name it.0 it.1) (same ∙ sym it.3)
    (made ∙ ap (λ l. insert_entry bytes_eq l m given) so_far)
    ∙ ap (λ (g : Text × _). take i gs ++ g ∷ []) it.2
    ∙ sym (take_more gs i it.0 lt)

-- ---- a table of one row

pub only_row : {Row : Type 0} (key_of : Row → Key) (row : Row) (rows : List Row)
    → sorted key_of rows ≡ row ∷ [] → rows ≡ row ∷ []
only_row key_of row [] is = absurd (cc is)
only_row key_of row (x ∷ []) is = is
only_row key_of row (x ∷ y ∷ rows) is =
    absurd (two (length rows) (sym (length_sorted key_of (x ∷ y ∷ rows)) ∙ ap length is))
  where
    two : (n : ℕ) → suc (suc n) ≡ 1 → ⊥
    two n h = omega (arith, h)
