-- What is read stands there.
use Rattle.std.proofs.Common.{◌≡◌, ◌∙◌, ap, sym, refl, subst, ℕ, ◌+◌, List, [], ◌∷◌, ◌++◌, Bool, true, false, ◌||◌, inl, inr, bytes_eq, arith, append_assoc}
use Rattle.std.proofs.lemmas.Bool.{cases_Bool}
use Rattle.std.proofs.lemmas.List.{append-nil}
use Rattle.std.proofs.lemmas.List.Folds.{list_any-append}
use Rattle.std.proofs.lemmas.Slice.Eq.{bytes_eq-Decides}
use Rattle.std.specs.List.{list_any}
use Rattle.journal.specs.Text.{is_torn, is_commit, lines_text, group_sum, group_end, group_lines, commit_line, lines_from, journal_lines, journal_end}
use Rattle.journal.specs.Reading.{whole_lines, last_piece, is_overlong, is_stray, Found, found_none, with_group, found_in, found}
use Rattle.journal.specs.Reads.{held}
use Rattle.journal.proofs.TextLines.{or_false}
use Rattle.journal.proofs.Clear.{sound_parts}
use Rattle.journal.proofs.Groups.{end_of, end_of-more, nothing_before, line_is_not_stray, commit_is_not_stray}

-- these lines are the groups that were found, and a rest
record Splits (before : List ℕ) (start : ℕ) (lines : List (List ℕ)) (read : Found) : Type 0 where
  pub rest : List (List ℕ)
  pub is : lines ≡ lines_from before start read.groups ++ rest
  pub calm : read.is_damaged ≡ false
      → list_any (is_stray (end_of before start read.groups)) rest ≡ false

no_groups : (start : ℕ) → start + 0 ≡ start
no_groups start = omega arith

none_in_both : (start : ℕ) (a b : List (List ℕ)) → list_any (is_stray start) a ≡ false
    → list_any (is_stray start) b ≡ false → list_any (is_stray start) (a ++ b) ≡ false
none_in_both start a b one other = list_any-append (is_stray start) a b ∙ rw (one, other) refl

none_held : (before : List ℕ) (start : ℕ) (pending : List (List ℕ)) (once : Bool)
    → list_any (is_stray start) pending ≡ false
    → list_any (is_stray start) (held before start pending once) ≡ false
none_held before start pending false none = none
none_held before start pending true none =
    none_in_both start pending (commit_line before start pending ∷ []) none
    (rw (commit_is_not_stray (before ++ lines_text pending) start) refl)

-- what is left out, whether it is damage or not
left_out : (before : List ℕ) (start : ℕ) (lines : List (List ℕ)) (damage : Bool)
    → (damage ≡ false → list_any (is_stray start) lines ≡ false)
    → Splits before start lines (found_none damage)
left_out before start lines damage calm = record {
  rest = lines;
  is = refl;
  calm = λ none. ap (λ (n : ℕ). list_any (is_stray n) lines) (no_groups start) ∙ calm none;
}

torn_out : (before : List ℕ) (start : ℕ) (all : List (List ℕ)) (line : List ℕ)
    (lines : List (List ℕ)) → list_any (is_stray start) all ≡ false → is_torn line ≡ true
    → Splits before start (all ++ line ∷ lines)
    (found_none (is_overlong line || list_any (is_stray start) lines))
torn_out before start all line lines none torn =
    left_out before start (all ++ line ∷ lines)
    (is_overlong line || list_any (is_stray start) lines)
    (λ calm. none_in_both start all (line ∷ lines) none
    (rw (torn, (or_false (is_overlong line) (list_any (is_stray start) lines) calm).1) refl))

committed : (before : List ℕ) (start : ℕ) (pending lines : List (List ℕ)) (line : List ℕ)
    (read : Found)
    → line ≡ commit_line before start pending
    → Splits (group_sum before pending) (group_end before start pending) lines read
    → Splits before start ((pending ++ commit_line before start pending ∷ []) ++ line ∷ lines)
    (with_group pending read)
committed before start pending lines line read same splits =
    let commit = commit_line before start pending in
    let next = lines_from (group_sum before pending) (group_end before start pending) read.groups in
    record {
      rest = splits.rest;
      is = append_assoc pending (commit ∷ []) (line ∷ lines)
          ∙ ap (λ (l : List ℕ). pending ++ commit ∷ l ∷ lines) same
          ∙ ap (λ (ls : List (List ℕ)). pending ++ commit ∷ commit ∷ ls) splits.is
          ∙ sym (append_assoc pending (commit ∷ commit ∷ []) (next ++ splits.rest))
          ∙ sym (append_assoc (group_lines before start pending) next splits.rest);
      calm = λ none. ap (λ (n : ℕ). list_any (is_stray n) splits.rest)
          (sym (end_of-more before start pending read.groups)) ∙ splits.calm none;
    }

split : (before : List ℕ) (start : ℕ) (pending : List (List ℕ)) (once : Bool)
    (lines : List (List ℕ)) (last : List ℕ) → list_any (is_stray start) pending ≡ false
    → Splits before start (held before start pending once ++ lines)
    (found_in before start pending once lines last)
split before start pending once [] last none =
    left_out before start (held before start pending once ++ []) (is_overlong last)
    (λ calm. ap (list_any (is_stray start)) (append-nil (held before start pending once))
    ∙ none_held before start pending once none)
split before start pending false (line ∷ lines) last none = elim (cases_Bool (is_torn line)) [
  | inl torn ↦ rw torn (torn_out before start pending line lines none torn)
  | inr stands ↦ elim (cases_Bool (is_commit line)) [
    | inl commits ↦ elim (cases_Bool (bytes_eq line (commit_line before start pending))) [
      | inl same ↦
          let is = (bytes_eq-Decides line (commit_line before start pending)).0 same in
          rw (stands, commits, same)
          (subst (λ (ls : List (List ℕ)). Splits before start ls
          (found_in before start pending true lines last))
          (append_assoc pending (commit_line before start pending ∷ []) lines
          ∙ ap (λ (l : List ℕ). pending ++ l ∷ lines) (sym is))
          (split before start pending true lines last none))
      | inr other ↦ rw (stands, commits, other)
          (left_out before start (pending ++ line ∷ lines) true (λ calm. absurd (cc calm)))
    ]
    | inr plain ↦
        rw (stands, plain) (subst
        (λ (ls : List (List ℕ)). Splits before start ls
        (found_in before start (pending ++ line ∷ []) false lines last))
        (append_assoc pending (line ∷ []) lines)
        (split before start (pending ++ line ∷ []) false lines last
        (none_in_both start pending (line ∷ []) none
        (rw (line_is_not_stray start line plain) refl))))
  ]
]
split before start pending true (line ∷ lines) last none = elim (cases_Bool (is_torn line)) [
  | inl torn ↦ rw torn
      (torn_out before start (held before start pending true) line lines
      (none_held before start pending true none) torn)
  | inr stands ↦ elim (cases_Bool (bytes_eq line (commit_line before start pending))) [
    | inl same ↦
        let is = (bytes_eq-Decides line (commit_line before start pending)).0 same in
        rw (stands, same) (committed before start pending lines line _ is
        (split (group_sum before pending)
        (group_end before start pending) [] false lines last refl))
    | inr other ↦ rw (stands, other)
        (left_out before start (held before start pending true ++ line ∷ lines) true
        (λ calm. absurd (cc calm)))
  ]
]

-- The whole lines of a text begin with those of the groups that are found. If no damage is found,
-- no other whole line commits a group that begins elsewhere than where these end.
pub nothing_is_skipped : (first text : List ℕ) → (rest : List (List ℕ))
    × (whole_lines text ≡ journal_lines first (found first text).groups ++ rest)
    × ((found first text).is_damaged ≡ false
    → list_any (is_stray (journal_end first (found first text).groups)) rest ≡ false)
nothing_is_skipped first text =
    let read = split first 0 [] false (whole_lines text) (last_piece text) refl in (
      read.rest,
      read.is,
      λ none. ap (λ (n : ℕ). list_any (is_stray n) read.rest)
          (sym (nothing_before (journal_end first (found first text).groups))) ∙ read.calm
          (sound_parts first text none).1,
    )
