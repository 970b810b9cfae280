-- Rows that stand in slices, and a mask that is cut as they are.
use Rattle.std.proofs.Common.{◌≡◌, ℕ, ◌+◌, ◌-◌, ◌<◌, ◌≤◌, Bool, true, false, List, [], ◌∷◌, ◌++◌, map, length, get_or, take, drop, refl, sym, ap, ◌∙◌, subst, arith, if◌then◌else◌}
use Rattle.std.specs.List.{flat_map}
use Rattle.std.proofs.lemmas.Grind.{flat_map-append}
use Rattle.std.proofs.lemmas.List.{append-nil, append_assoc, length-append, length-drop, length-take-le, take-append-drop, take-take, drop-take, drop-drop, map-append, map-id}
use Rattle.std.proofs.lemmas.List.Folds.{length-flat_map-take}
use Rattle.object_tables.specs.Calls.{kept}
use Rattle.gc_graph.proofs.BookNumbers.{take_next}
use Rattle.table_sweep.specs.Masks.{gone}
use Rattle.table_sweep.proofs.RemovedNames.{names_step}
use Rattle.table_sweep.proofs.Owning.{kept_step}

take-add : {X : Type 0} (m n : ℕ) (xs : List X) → take (m + n) xs ≡ take m xs ++ take n (drop m xs)
take-add m n xs = sym (take-append-drop m (take (m + n) xs))
    ∙ (λ i. take-take m (m + n) xs (omega arith) i ++ drop-take m n xs i)

kept-append : {Row : Type 0} (mask more : List Bool) (rows others : List Row)
    → length mask ≡ length rows
    → kept (mask ++ more) (rows ++ others) ≡ kept mask rows ++ kept more others
kept-append [] more [] others e = refl
kept-append [] more (row ∷ rows) others e = absurd (omega (arith, e))
kept-append (m ∷ mask) more [] others e = absurd (omega (arith, e))
kept-append (true ∷ mask) more (row ∷ rows) others e =
    ap (λ rest. row ∷ rest) (kept-append mask more rows others (omega (arith, e)))
kept-append (false ∷ mask) more (row ∷ rows) others e =
    kept-append mask more rows others (omega (arith, e))

gone-append : {Row : Type 0} (mask more : List Bool) (rows others : List Row)
    → length mask ≡ length rows
    → gone (mask ++ more) (rows ++ others) ≡ gone mask rows ++ gone more others
gone-append [] more [] others e = refl
gone-append [] more (row ∷ rows) others e = absurd (omega (arith, e))
gone-append (m ∷ mask) more [] others e = absurd (omega (arith, e))
gone-append (true ∷ mask) more (row ∷ rows) others e =
    gone-append mask more rows others (omega (arith, e))
gone-append (false ∷ mask) more (row ∷ rows) others e =
    ap (λ rest. row ∷ rest) (gone-append mask more rows others (omega (arith, e)))

-- ---- one row more, behind what was there

behind : {X : Type 0} (start now new more row : List X) → now ≡ start ++ more → new ≡ now ++ row
    → new ≡ start ++ (more ++ row)
behind start now new more row is step =
    step ∙ ap (λ l. l ++ row) is ∙ append_assoc start more row

pub kept_row : {Row Name : Type 0} (name : Row → Name) (mask : List Bool) (rows : List Row) (i : ℕ)
    (d : Bool) (row : Row) (start now new : List Name)
    → length mask ≡ length rows → i < length rows → row ≡ get_or rows i row
    → now ≡ start ++ map name (kept (take i mask) (take i rows))
    → new ≡ now ++ (if get_or mask i d then name row ∷ [] else [])
    → new ≡ start ++ map name (kept (take (i + 1) mask) (take (i + 1) rows))
kept_row {Row} {Name} name mask rows i d row start now new long lt item is step =
    let more : List Name = map name (kept (take i mask) (take i rows)) in
    let one : List Name = if get_or mask i d then name row ∷ [] else [] in
    behind start now new more one is step
    ∙ ap (λ l. start ++ l)
    (kept_step name mask rows i d row more (more ++ one) long lt item refl refl)

pub gone_row : {Row Name : Type 0} (name : Row → Name) (mask : List Bool) (rows : List Row) (i : ℕ)
    (d : Bool) (row : Row) (start now new : List Name)
    → length mask ≡ length rows → i < length rows → row ≡ get_or rows i row
    → now ≡ start ++ map name (gone (take i mask) (take i rows))
    → new ≡ now ++ (if get_or mask i d then [] else name row ∷ [])
    → new ≡ start ++ map name (gone (take (i + 1) mask) (take (i + 1) rows))
gone_row {Row} {Name} name mask rows i d row start now new long lt item is step =
    let more : List Name = map name (gone (take i mask) (take i rows)) in
    let one : List Name = if get_or mask i d then [] else name row ∷ [] in
    behind start now new more one is step
    ∙ ap (λ l. start ++ l)
    (names_step name mask rows i d row more (more ++ one) long lt item refl refl)

-- the rows themselves
pub kept_now : {Row : Type 0} (mask : List Bool) (rows : List Row) (i : ℕ) (d : Bool) (row : Row)
    (start now new : List Row)
    → length mask ≡ length rows → i < length rows → row ≡ get_or rows i row
    → now ≡ start ++ kept (take i mask) (take i rows)
    → new ≡ now ++ (if get_or mask i d then row ∷ [] else [])
    → new ≡ start ++ kept (take (i + 1) mask) (take (i + 1) rows)
kept_now {Row} mask rows i d row start now new long lt item is step =
    kept_row (λ (r : Row). r) mask rows i d row start now new long lt item
    (is ∙ ap (λ l. start ++ l) (sym (map-id (kept (take i mask) (take i rows))))) step
    ∙ ap (λ l. start ++ l) (map-id (kept (take (i + 1) mask) (take (i + 1) rows)))

pub gone_now : {Row : Type 0} (mask : List Bool) (rows : List Row) (i : ℕ) (d : Bool) (row : Row)
    (start now new : List Row)
    → length mask ≡ length rows → i < length rows → row ≡ get_or rows i row
    → now ≡ start ++ gone (take i mask) (take i rows)
    → new ≡ now ++ (if get_or mask i d then [] else row ∷ [])
    → new ≡ start ++ gone (take (i + 1) mask) (take (i + 1) rows)
gone_now {Row} mask rows i d row start now new long lt item is step =
    gone_row (λ (r : Row). r) mask rows i d row start now new long lt item
    (is ∙ ap (λ l. start ++ l) (sym (map-id (gone (take i mask) (take i rows))))) step
    ∙ ap (λ l. start ++ l) (map-id (gone (take (i + 1) mask) (take (i + 1) rows)))

-- ---- one slice more

module _ {Slice Row : Type 0} (rows_of : Slice → List Row) (slices : List Slice) (rows : List Row)
    (mask rest : List Bool) (i : ℕ) (slice : Slice) (all : flat_map rows_of slices ≡ rows)
    (long : length mask ≡ length rows) (lt : i < length slices)
    (item : slice ≡ get_or slices i slice)
    (is : rest ≡ drop (length (flat_map rows_of (take i slices))) mask) where
  abbrev before : List Row
  before = flat_map rows_of (take i slices)

  abbrev after : List Row
  after = flat_map rows_of (take (i + 1) slices)

  abbrev here : List Row
  here = rows_of slice

  after_is : after ≡ before ++ here
  after_is = ap (flat_map rows_of) (take_next slices i slice lt item)
      ∙ flat_map-append rows_of (take i slices) (slice ∷ [])
      ∙ ap (λ l. before ++ l) (append-nil here)

  after_long : length after ≡ length before + length here
  after_long = ap length after_is ∙ length-append before here

  within : length before + length here ≤ length mask
  within =
      let upto : length before + length here ≤ length (flat_map rows_of slices) =
      subst (λ (s : Slice). length before + length (rows_of s) ≤ length (flat_map rows_of slices))
      (sym item) (length-flat_map-take rows_of slices i slice lt) in
      let same : length (flat_map rows_of slices) ≡ length mask = ap length all ∙ sym long in
      omega (arith, upto, same)

  -- the mask has a part for the slice
  pub has_part : length here ≤ length rest
  has_part =
      let left : length rest ≡ length mask - length before =
      ap length is ∙ length-drop (length before) mask in
      let fits = within in
      omega (arith, left, fits)

  -- and a part for what stands behind it
  part_behind : drop (length here) rest ≡ drop (length after) mask
  part_behind = ap (drop (length here)) is ∙ drop-drop (length here) (length before) mask
      ∙ ap (λ n. drop n mask) (sym after_long)

  cut : take (length after) mask ≡ take (length before) mask ++ take (length here) rest
  cut = ap (λ n. take n mask) after_long ∙ take-add (length before) (length here) mask
      ∙ ap (λ l. take (length before) mask ++ take (length here) l) (sym is)

  long_before : length (take (length before) mask) ≡ length before
  long_before = length-take-le (length before) mask (let fits = within in omega (arith, fits))

  kept_more : kept (take (length after) mask) after
      ≡ kept (take (length before) mask) before ++ kept (take (length here) rest) here
  kept_more = (λ j. kept (cut j) (after_is j))
      ∙ kept-append (take (length before) mask) (take (length here) rest) before here long_before

  gone_more : gone (take (length after) mask) after
      ≡ gone (take (length before) mask) before ++ gone (take (length here) rest) here
  gone_more = (λ j. gone (cut j) (after_is j))
      ∙ gone-append (take (length before) mask) (take (length here) rest) before here long_before

  module _ (part behind : List Bool) (front : part ≡ take (length here) rest)
      (back : behind ≡ drop (length here) rest) where
    pub part_long : length part ≡ length here
    part_long = ap length front ∙ length-take-le (length here) rest has_part

    pub next_part : behind ≡ drop (length after) mask
    next_part = back ∙ part_behind

    -- those that stay
    pub kept_slice : (now new : List Row) → now ≡ kept (take (length before) mask) before
        → new ≡ now ++ kept part here → new ≡ kept (take (length after) mask) after
    kept_slice now new made step =
        step ∙ (λ j. made j ++ kept (front j) here) ∙ sym kept_more

    -- and what is made of them
    pub kept_names : {Name : Type 0} (name : Row → Name) (now new : List Name)
        → now ≡ map name (kept (take (length before) mask) before)
        → new ≡ now ++ map name (kept part here)
        → new ≡ map name (kept (take (length after) mask) after)
    kept_names name now new made step =
        step ∙ (λ j. made j ++ map name (kept (front j) here))
        ∙ sym (map-append name (kept (take (length before) mask) before)
        (kept (take (length here) rest) here))
        ∙ ap (map name) (sym kept_more)

    -- those that go
    pub gone_slice : (now new : List Row) → now ≡ gone (take (length before) mask) before
        → new ≡ now ++ gone part here → new ≡ gone (take (length after) mask) after
    gone_slice now new made step =
        step ∙ (λ j. made j ++ gone (front j) here) ∙ sym gone_more

    -- and what is made of them
    pub gone_names : {Name : Type 0} (name : Row → Name) (now new : List Name)
        → now ≡ map name (gone (take (length before) mask) before)
        → new ≡ now ++ map name (gone part here)
        → new ≡ map name (gone (take (length after) mask) after)
    gone_names name now new made step =
        step ∙ (λ j. made j ++ map name (gone (front j) here))
        ∙ sym (map-append name (gone (take (length before) mask) before)
        (gone (take (length here) rest) here))
        ∙ ap (map name) (sym gone_more)
