-- A sweep of all namespaces, one a turn: the marks that are left are of those that are left.
use Rattle.std.proofs.Common.{◌≡◌, ℕ, ◌+◌, ◌<◌, ◌≤◌, Bool, true, false, List, [], ◌∷◌, ◌++◌, length, get_or, take, drop, map, refl, sym, ap, ◌∙◌, subst, arith, append_assoc, append-nil, length-append}
use Rattle.std.specs.Prelude.{All, slice_set}
use Rattle.std.proofs.lemmas.Grind.{common_steps}
use Rattle.std.proofs.lemmas.List.{take_more_set, take_all, drop_more, drop_all}
use Rattle.std.proofs.lemmas.List.Elements.{All-set}
use Rattle.meta_types.specs.Text.{Text}
use Rattle.row_tables.specs.Arrived.{kept}
use Rattle.row_tables.specs.Namespaces.{all_rows}
use Rattle.row_tables.proofs.KeptRows.{all_kept}
use Rattle.row_tables.proofs.NamespaceLists.{names_kept, rows_append}

module _ {Row : Type 0} where
  pub kept_split : (marks : List Bool) (c rest : List Row) → length c ≤ length marks
      → kept marks (c ++ rest) ≡ kept (take (length c) marks) c ++ kept (drop (length c) marks) rest
  kept_split [] [] rest h = refl
  kept_split (m ∷ marks) [] rest h = refl
  kept_split [] (x ∷ c) rest h = absurd (omega arith)
  kept_split (true ∷ marks) (x ∷ c) rest h = ap (λ rows. x ∷ rows) (kept_split marks c rest (omega arith))
  kept_split (false ∷ marks) (x ∷ c) rest h = kept_split marks c rest (omega arith)

  pub none_kept : (marks : List Bool) → kept {Row = Row} marks [] ≡ []
  none_kept [] = refl
  none_kept (m ∷ marks) = refl

  -- ---- at the place of a namespace

  module _ (gs : List (Text × List Row)) (i : ℕ) (rest : List Bool) (len : length rest ≡ length (all_rows (drop i gs))) (lt : i < length gs) (group : Text × List Row) (is : group ≡ get_or gs i group) where
    parts : all_rows (drop i gs) ≡ group.1 ++ all_rows (drop (i + 1) gs)
    parts = ap all_rows (drop_more gs i group lt) ∙ ap (λ (x : Text × List Row). x.1 ++ all_rows (drop (i + 1) gs)) (sym is)

    -- enough marks are left for its rows
    within : length group.1 ≤ length rest
    within = omega (arith, len, ap length parts, length-append group.1 (all_rows (drop (i + 1) gs)))

    left_over : length (drop (length group.1) rest) ≡ length (all_rows (drop (i + 1) gs))
    left_over =
        let n : length (drop (length group.1) rest) + length group.1 ≡ length rest = dropped rest (length group.1) within in
        omega (arith, len, ap length parts, length-append group.1 (all_rows (drop (i + 1) gs)), n)
      where
        dropped : (marks : List Bool) (n : ℕ) → n ≤ length marks → length (drop n marks) + n ≡ length marks
        dropped marks n h = grind (arith, common_steps)

-- ---- rows whose mark is set, kept

module _ {Row : Type 0} (ns_of : Row → Text) where
  abbrev Own : Text × List Row → Type 0
  Own group = All (λ row. ns_of row ≡ group.0) group.1

  -- the namespaces before the place are done, and the marks left are those of the others; each
  -- namespace still has its name and its own rows
  pub record Retains (marks : List Bool) (old gs : List (Text × List Row)) (i : ℕ) (rest : List Bool) : Type 0 where
    pub len : length rest ≡ length (all_rows (drop i gs))
    pub rows : all_rows (take i gs) ++ kept rest (all_rows (drop i gs)) ≡ kept marks (all_rows old)
    pub names : map (λ group. group.0) gs ≡ map (λ group. group.0) old
    pub own : All (λ group. All (λ row. ns_of row ≡ group.0) group.1) gs

  module _ {marks : List Bool} {old gs : List (Text × List Row)} {i : ℕ} {rest : List Bool} (so : Retains marks old gs i rest) where
    module _ {group : Text × List Row} (lt : i < length gs) (is : group ≡ get_or gs i group) {count : ℕ} (counted : count ≡ length (get_or gs i group).1) where
      here : count ≡ length group.1
      here = counted ∙ ap (λ (x : Text × List Row). length x.1) (sym is)

      pub retains_within : count ≤ length rest
      retains_within = let fits = within gs i rest so.len lt group is in omega (arith, fits, here)

      pub retains_more : {own later : List Bool} {left : List Row} → own ≡ take count rest → later ≡ drop count rest → left ≡ kept own (get_or gs i group).1
          → Retains marks old (slice_set gs i ((get_or gs i group).0, left)) (i + 1) later
      retains_more {own} {later} {left} mine others made =
          let n = length group.1 in
          let new : Text × List Row = ((get_or gs i group).0, left) in
          let same : new ≡ (group.0, kept own group.1) = λ j. ((sym is j).0, (made ∙ ap (λ (x : Text × List Row). kept own x.1) (sym is)) j) in
          let behind : drop (i + 1) (slice_set gs i new) ≡ drop (i + 1) gs = drop_after gs i new in
          let others_of = all_rows (drop (i + 1) gs) in
          record {
            len = ap length (others ∙ ap (λ k. drop k rest) here) ∙ left_over gs i rest so.len lt group is ∙ ap (λ l. length (all_rows l)) (sym behind);
            rows = ap (λ l. all_rows l ++ kept later (all_rows (drop (i + 1) (slice_set gs i new)))) (take_more_set gs i new lt)
                ∙ ap (λ l. all_rows (take i gs ++ new ∷ []) ++ kept later (all_rows l)) behind
                ∙ ap (λ l. l ++ kept later others_of) (rows_append (take i gs) (new ∷ []) ∙ ap (λ l. all_rows (take i gs) ++ l) (append-nil left))
                ∙ append_assoc (all_rows (take i gs)) left (kept later others_of)
                ∙ ap (λ l. all_rows (take i gs) ++ l)
                (ap (λ l. l ++ kept later others_of) (ap (λ (x : Text × List Row). x.1) same ∙ ap (λ m. kept m group.1) (mine ∙ ap (λ k. take k rest) here))
                ∙ ap (λ m. kept (take n rest) group.1 ++ kept m others_of) (others ∙ ap (λ k. drop k rest) here)
                ∙ sym (kept_split rest group.1 others_of (within gs i rest so.len lt group is))
                ∙ ap (kept rest) (sym (parts gs i rest so.len lt group is)))
                ∙ so.rows;
            names = names_kept gs i group new is (ap (λ (x : Text × List Row). x.0) same) ∙ so.names;
            own = All-set Own gs i new (subst Own (sym same) (all_kept (λ row. ns_of row ≡ group.0) own group.1 (subst Own (sym is) (so.own i group lt)))) so.own;
          }
        where
          drop_after : {X : Type 0} (xs : List X) (k : ℕ) (y : X) → drop (k + 1) (slice_set xs k y) ≡ drop (k + 1) xs
          drop_after xs k y = grind (arith, common_steps)

    pub retains_all : length gs ≤ i → all_rows gs ≡ kept marks (all_rows old)
    retains_all past =
        sym (ap (λ l. all_rows l ++ kept rest (all_rows (drop i gs))) (take_all i gs past)
        ∙ ap (λ l. all_rows gs ++ kept rest (all_rows l)) (drop_all i gs past)
        ∙ ap (λ l. all_rows gs ++ l) (none_kept rest) ∙ append-nil (all_rows gs)) ∙ so.rows
