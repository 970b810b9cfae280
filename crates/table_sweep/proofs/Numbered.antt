-- The numbers of rows follow one another, so that masks by numbers are masks by things.
use Rattle.std.proofs.Common.{◌≡◌, ◌≢◌, ℕ, zero, suc, ◌+◌, ◌<◌, false, List, [], ◌∷◌, ◌++◌, map, length, get_or, refl, sym, ap, ◌∙◌, arith, ℤ, Some, length-append, append_assoc, append-nil}
use Rattle.std.specs.Prelude.{◌||◌, AllPairs}
use Rattle.std.specs.Option.{option_map_or}
use Rattle.std.proofs.lemmas.List.{length-map, get_or-map, get_or-append-add}
use Rattle.std.proofs.Math.ListN.{get_or-append}
use Rattle.meta_types.specs.Rows.{Records}
use Rattle.meta_types.specs.Collected.{content_stays, snapshot_stays, ingest_stays}
use Rattle.meta_types.specs.declared.resource.Mode.TheVariants.{Full, Flat}
use Rattle.gc_graph.specs.declared.node.Node.{Node}
use Rattle.gc_graph.specs.Targets.{content_node, snapshot_node, ingest_node, nodes_of}
use Rattle.gc_graph.specs.Built.{number_of}
use Rattle.gc_graph.specs.Marked.{is_marked, is_marked_node, reached_by}
use Rattle.gc_graph.proofs.Things.{number_at}
use Rattle.table_sweep.specs.Masks.{mask_of_both, mask_of_one}

-- ---- one row more

the_next : (n : ℕ) → n + 1 ≡ suc n
the_next n = omega arith

later : (n k : ℕ) → suc n + k ≡ n + suc k
later n k = omega arith

here_it_is : (n : ℕ) → n ≡ n + 0
here_it_is n = omega arith

pub mask_of_both_next : (marks : List ℕ) (full flat count : ℕ) → mask_of_both marks full flat (count + 1) ≡ mask_of_both marks full flat count ++ (is_marked marks (full + count) || is_marked marks (flat + count)) ∷ []
mask_of_both_next marks full flat count = ap (mask_of_both marks full flat) (the_next count) ∙ go full flat count
  where
    go : (full flat count : ℕ) → mask_of_both marks full flat (suc count) ≡ mask_of_both marks full flat count ++ (is_marked marks (full + count) || is_marked marks (flat + count)) ∷ []
    go full flat zero = λ i. (is_marked marks (here_it_is full i) || is_marked marks (here_it_is flat i)) ∷ []
    go full flat (suc count) =
        ap (λ rest. (is_marked marks full || is_marked marks flat) ∷ rest)
        (go (suc full) (suc flat) count ∙ (λ i. mask_of_both marks (suc full) (suc flat) count ++ (is_marked marks (later full count i) || is_marked marks (later flat count i)) ∷ []))

pub mask_of_one_next : (marks : List ℕ) (first count : ℕ) → mask_of_one marks first (count + 1) ≡ mask_of_one marks first count ++ is_marked marks (first + count) ∷ []
mask_of_one_next marks first count = ap (mask_of_one marks first) (the_next count) ∙ go first count
  where
    go : (first count : ℕ) → mask_of_one marks first (suc count) ≡ mask_of_one marks first count ++ is_marked marks (first + count) ∷ []
    go first zero = λ i. is_marked marks (here_it_is first i) ∷ []
    go first (suc count) = ap (λ rest. is_marked marks first ∷ rest) (go (suc first) count ∙ (λ i. mask_of_one marks (suc first) count ++ is_marked marks (later first count i) ∷ []))

-- ---- rows side by side in the book

module _ {Row : Type 0} (node : Row → Node) (book : List Node) where
  -- the rows' nodes follow one another, the first at this place
  abbrev pub AreNumbered : ℕ → List Row → Type 0
  AreNumbered first rows = (i : ℕ) (d : Row) → i < length rows → number_of book (node (get_or rows i d)) ≡ Some (first + i)

  pub numbered : AllPairs (λ a b. a ≢ b) book → (before after : List Node) (rows : List Row) → book ≡ before ++ (map node rows ++ after) → (first : ℕ) → length before ≡ first → AreNumbered first rows
  numbered once before after rows is first at i d lt =
      let e = node d in
      let here : get_or book (length before + i) e ≡ node (get_or rows i d)
      = ap (λ (b : List Node). get_or b (length before + i) e) is
      ∙ get_or-append-add before (map node rows ++ after) i e
      ∙ get_or-append (map node rows) after e i (omega (arith, length-map rows node))
      ∙ get_or-map node rows i d e lt in
      let long : length book ≡ length before + (length rows + length after)
      = ap length is ∙ length-append before (map node rows ++ after) ∙ ap (λ n. length before + n) (length-append (map node rows) after ∙ ap (λ n. n + length after) (length-map rows node)) in
      number_at book once (node (get_or rows i d)) (length before + i) e (omega (arith, long)) here ∙ ap (λ n. Some (n + i)) at

  numbered_rest : (first : ℕ) (row : Row) (rows : List Row) → AreNumbered first (row ∷ rows) → AreNumbered (suc first) rows
  numbered_rest first row rows h j d lt = h (suc j) d (omega arith) ∙ ap Some (omega arith)

  marked_first : (marks : List ℕ) (first : ℕ) (row : Row) (rows : List Row) → AreNumbered first (row ∷ rows) → is_marked marks first ≡ is_marked_node book marks (node row)
  marked_first marks first row rows h =
      let place : number_of book (node row) ≡ Some first = h 0 row (omega arith) ∙ ap Some (omega arith) in
      sym (ap (λ o. option_map_or (is_marked marks) o false) place)

module _ {Row : Type 0} (full_node flat_node : Row → Node) (book : List Node) (marks : List ℕ) where
  pub mask_of_both_is : (rows : List Row) (full flat : ℕ) → AreNumbered full_node book full rows → AreNumbered flat_node book flat rows
      → mask_of_both marks full flat (length rows) ≡ map (λ row. is_marked_node book marks (full_node row) || is_marked_node book marks (flat_node row)) rows
  mask_of_both_is [] full flat h k = refl
  mask_of_both_is (row ∷ rows) full flat h k =
      λ i. (marked_first full_node book marks full row rows h i || marked_first flat_node book marks flat row rows k i)
      ∷ mask_of_both_is rows (suc full) (suc flat) (numbered_rest full_node book full row rows h) (numbered_rest flat_node book flat row rows k) i

module _ {Row : Type 0} (node : Row → Node) (book : List Node) (marks : List ℕ) where
  pub mask_of_one_is : (rows : List Row) (first : ℕ) → AreNumbered node book first rows → mask_of_one marks first (length rows) ≡ map (λ row. is_marked_node book marks (node row)) rows
  mask_of_one_is [] first h = refl
  mask_of_one_is (row ∷ rows) first h = λ i. marked_first node book marks first row rows h i ∷ mask_of_one_is rows (suc first) (numbered_rest node book first row rows h) i

-- ---- where each kind begins

module _ (records : Records) (book : List Node) (is : book ≡ nodes_of records) (once : AllPairs (λ a b. a ≢ b) book) where
  abbrev i_nodes : List Node
  i_nodes = map ingest_node records.tables.ingests

  abbrev cf_nodes : List Node
  cf_nodes = map (content_node Full) records.tables.content

  abbrev cl_nodes : List Node
  cl_nodes = map (content_node Flat) records.tables.content

  abbrev sf_nodes : List Node
  sf_nodes = map (snapshot_node Full) records.tables.snapshots

  abbrev sl_nodes : List Node
  sl_nodes = map (snapshot_node Flat) records.tables.snapshots

  abbrev i_count : ℕ
  i_count = length records.tables.ingests

  abbrev c_count : ℕ
  c_count = length records.tables.content

  abbrev s_count : ℕ
  s_count = length records.tables.snapshots

  content_next : book ≡ i_nodes ++ (cf_nodes ++ (cl_nodes ++ (sf_nodes ++ sl_nodes)))
  content_next = is ∙ ap (λ l. i_nodes ++ l) (append_assoc cf_nodes cl_nodes (sf_nodes ++ sl_nodes))

  flat_content_next : book ≡ (i_nodes ++ cf_nodes) ++ (cl_nodes ++ (sf_nodes ++ sl_nodes))
  flat_content_next = content_next ∙ sym (append_assoc i_nodes cf_nodes (cl_nodes ++ (sf_nodes ++ sl_nodes)))

  snapshots_next : book ≡ ((i_nodes ++ cf_nodes) ++ cl_nodes) ++ (sf_nodes ++ sl_nodes)
  snapshots_next = flat_content_next ∙ sym (append_assoc (i_nodes ++ cf_nodes) cl_nodes (sf_nodes ++ sl_nodes))

  flat_snapshots_next : book ≡ (((i_nodes ++ cf_nodes) ++ cl_nodes) ++ sf_nodes) ++ (sl_nodes ++ [])
  flat_snapshots_next = snapshots_next ∙ sym (append_assoc ((i_nodes ++ cf_nodes) ++ cl_nodes) sf_nodes sl_nodes) ∙ ap (λ l. (((i_nodes ++ cf_nodes) ++ cl_nodes) ++ sf_nodes) ++ l) (sym (append-nil sl_nodes))

  i_long : length i_nodes ≡ i_count
  i_long = length-map records.tables.ingests ingest_node

  ic_long : length (i_nodes ++ cf_nodes) ≡ i_count + c_count
  ic_long = length-append i_nodes cf_nodes ∙ (λ j. i_long j + length-map records.tables.content (content_node Full) j)

  icc_long : length ((i_nodes ++ cf_nodes) ++ cl_nodes) ≡ (i_count + c_count) + c_count
  icc_long = length-append (i_nodes ++ cf_nodes) cl_nodes ∙ (λ j. ic_long j + length-map records.tables.content (content_node Flat) j)

  iccs_long : length (((i_nodes ++ cf_nodes) ++ cl_nodes) ++ sf_nodes) ≡ ((i_count + c_count) + c_count) + s_count
  iccs_long = length-append ((i_nodes ++ cf_nodes) ++ cl_nodes) sf_nodes ∙ (λ j. icc_long j + length-map records.tables.snapshots (snapshot_node Full) j)

  module _ (marks : List ℕ) (at : ℤ) where
    pub ingests_are : (count : ℕ) → count ≡ i_count → mask_of_one marks 0 count ≡ map (ingest_stays (reached_by records.profile book marks at)) records.tables.ingests
    ingests_are count e = ap (mask_of_one marks 0) e ∙ mask_of_one_is ingest_node book marks records.tables.ingests 0
        (numbered ingest_node book once [] ((cf_nodes ++ cl_nodes) ++ (sf_nodes ++ sl_nodes)) records.tables.ingests is 0 refl)

    pub content_are : (full flat count : ℕ) → full ≡ i_count → flat ≡ i_count + c_count → count ≡ c_count → mask_of_both marks full flat count ≡ map (content_stays (reached_by records.profile book marks at)) records.tables.content
    content_are full flat count a b e = (λ j. mask_of_both marks (a j) (b j) (e j)) ∙ mask_of_both_is (content_node Full) (content_node Flat) book marks records.tables.content i_count (i_count + c_count)
        (numbered (content_node Full) book once i_nodes (cl_nodes ++ (sf_nodes ++ sl_nodes)) records.tables.content content_next i_count i_long)
        (numbered (content_node Flat) book once (i_nodes ++ cf_nodes) (sf_nodes ++ sl_nodes) records.tables.content flat_content_next (i_count + c_count) ic_long)

    pub snapshots_are : (full flat count : ℕ) → full ≡ (i_count + c_count) + c_count → flat ≡ ((i_count + c_count) + c_count) + s_count → count ≡ s_count
        → mask_of_both marks full flat count ≡ map (snapshot_stays (reached_by records.profile book marks at)) records.tables.snapshots
    snapshots_are full flat count a b e = (λ j. mask_of_both marks (a j) (b j) (e j)) ∙ mask_of_both_is (snapshot_node Full) (snapshot_node Flat) book marks records.tables.snapshots ((i_count + c_count) + c_count) (((i_count + c_count) + c_count) + s_count)
        (numbered (snapshot_node Full) book once ((i_nodes ++ cf_nodes) ++ cl_nodes) sl_nodes records.tables.snapshots snapshots_next ((i_count + c_count) + c_count) icc_long)
        (numbered (snapshot_node Flat) book once (((i_nodes ++ cf_nodes) ++ cl_nodes) ++ sf_nodes) [] records.tables.snapshots flat_snapshots_next (((i_count + c_count) + c_count) + s_count) iccs_long)
