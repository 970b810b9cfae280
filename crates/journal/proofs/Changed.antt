-- A byte that is changed to another is found as damage.
use Rattle.std.proofs.Common.{◌≡◌, ◌≢◌, ◌⊎◌, ◌∙◌, ap, sym, refl, subst, ℕ, ◌+◌, ◌^◌, ◌<◌, ◌≤◌, List, [], ◌∷◌, ◌++◌, length, take, replicate, Bool, true, false, ◌||◌, inl, inr, bytes_eq, arith, append_assoc, length-append}
use Rattle.std.proofs.lemmas.Bool.{cases_Bool, eqb-true}
use Rattle.std.proofs.lemmas.List.{append-nil, append_cancel_left, append_cancel_right, take_at}
use Rattle.std.proofs.lemmas.List.Folds.{list_any-append}
use Rattle.std.proofs.lemmas.Slice.Eq.{bytes_eq-Decides}
use Rattle.std.specs.List.{AllByRecursion}
use Rattle.journal.specs.Text.{is_line_feed, is_zero, is_torn, is_commit, lines_text, group_sum, group_text, group_lines, group_end, commit_line, lines_from, journal_text, journal_end, AreLines, AreGroups}
use Rattle.journal.specs.Reading.{whole_lines, last_piece, stands, is_overlong, Found, with_group, found_in, found_from, found}
use Rattle.journal.specs.Laws.{Collision}
use Rattle.journal.proofs.TextLines.{HasNoFeed, or_false, parts, none_of_both, each_whole, lines_text-append, whole_lines-lines, last_piece-lines, whole_lines-line, last_piece-line, whole_lines-none, last_piece-none}
use Rattle.journal.proofs.Sums.{length-commit, commit_is_marked, commit_has_none, same_place, same_sum}
use Rattle.journal.proofs.Groups.{zeros_have_none, whole_each, group_is_whole, found_in-lines, found_in-once, found_in-group}
use Rattle.journal.specs.Reads.{held}
use Rattle.journal.proofs.Told.{said, length-group, length-push, starts, has_feed}
use Rattle.journal.proofs.Chain.{one_text}
use Rattle.journal.proofs.Clear.{damage_is_found}

-- ---- a commit line that stands tells all that stands before it

abbrev AreMarked : List (List ℕ) → Type 0
AreMarked lines = AllByRecursion (λ line. is_torn line ≡ false) lines

-- how lines were read: a group was found among them, or they all are held
abbrev Origin : List ℕ → ℕ → List (List ℕ) → List ℕ → ℕ → List (List ℕ) → Bool → Type 0
Origin before start done now at pending once = (start < at)
    ⊎ ((now ≡ before) × (at ≡ start) × (held now at pending once ≡ done))

abbrev IsToldOr : Found → Type 0
IsToldOr found = (found.is_damaged ≡ true) ⊎ Collision

module _ (before : List ℕ) (start : ℕ) (group whole more : List (List ℕ)) (last : List ℕ)
    (size : length (lines_text whole) ≡ length (lines_text group) + 83)
    (fits : start + length (lines_text whole) < 2 ^ 64) where
  abbrev commit : List ℕ
  commit = commit_line before start group

  -- what is held at the commit line is the group, or not all that stood before it
  module _ (other : lines_text whole ≡ lines_text (group ++ commit ∷ []) → ⊥) where
    held_is : (now : List ℕ) (at : ℕ) (pending : List (List ℕ)) (once : Bool)
        → held now at pending once ≡ whole → lines_text group ≡ lines_text pending
        → commit ≡ commit_line now at pending → ⊥
    held_is now at pending false is lines same =
        let texts = ap (λ (ls : List (List ℕ)). length (lines_text ls)) is in
        let sizes = ap length lines in
        absurd (omega (arith, size, texts, sizes))
    held_is now at pending true is lines same =
        other (ap lines_text (sym is) ∙ lines_text-append pending (commit_line now at pending ∷ [])
        ∙ ap (λ (t : List ℕ). t ++ (commit_line now at pending ++ 10 ∷ [])) (sym lines)
        ∙ ap (λ (l : List ℕ). lines_text group ++ (l ++ 10 ∷ [])) (sym same)
        ∙ sym (lines_text-append group (commit ∷ [])))

    -- the sums are one, so the texts are, or collide
    alike : (now : List ℕ) (at : ℕ) (pending : List (List ℕ)) (once : Bool)
        → Origin before start whole now at pending once → at < 2 ^ 64
        → commit ≡ commit_line now at pending → Collision
    alike now at pending once origin low same = elim origin [
      | inl later ↦
          let place = same_place (before ++ lines_text group) (now ++ lines_text pending) start at
          (omega (arith, fits)) low same in
          absurd (omega (arith, later, place))
      | inr all ↦ elim (one_text (before ++ lines_text group) (now ++ lines_text pending)
          (same_sum (before ++ lines_text group) (now ++ lines_text pending) start at same)) [
            | inl texts ↦
                let lines : lines_text group ≡ lines_text pending =
                append_cancel_left before (lines_text group) (lines_text pending)
                (texts ∙ ap (λ (b : List ℕ). b ++ lines_text pending) all.0) in
                absurd (held_is now at pending once all.2 lines same)
            | inr collision ↦ collision
          ]
    ]

    at_commit : (now : List ℕ) (at : ℕ) (pending : List (List ℕ)) (once : Bool)
        → Origin before start whole now at pending once → at < 2 ^ 64
        → IsToldOr (found_in now at pending once (commit ∷ more) last)
    at_commit now at pending false origin low =
        elim (cases_Bool (bytes_eq commit (commit_line now at pending))) [
          | inl same ↦ inr (alike now at pending false origin low
              ((bytes_eq-Decides commit (commit_line now at pending)).0 same))
          | inr different ↦ rw (commit_is_marked (before ++ lines_text group) start, different)
              (inl refl)
        ]
    at_commit now at pending true origin low =
        elim (cases_Bool (bytes_eq commit (commit_line now at pending))) [
          | inl same ↦ inr (alike now at pending true origin low
              ((bytes_eq-Decides commit (commit_line now at pending)).0 same))
          | inr different ↦ rw (commit_is_marked (before ++ lines_text group) start, different)
              (inl refl)
        ]

    first_read : (done : List (List ℕ)) (now : List ℕ) (at : ℕ) (pending : List (List ℕ))
        (line : List ℕ) → line ≡ commit_line now at pending
        → Origin before start done now at pending false
        → Origin before start (done ++ line ∷ []) now at pending true
    first_read done now at pending line is origin = elim origin [
      | inl later ↦ inl later
      | inr all ↦ inr (
        all.0,
        all.1,
        ap
            (λ (ls : List (List ℕ)). ls ++ commit_line now at pending ∷ []) all.2
            ∙ ap (λ (l : List ℕ). done ++ l ∷ []) (sym is),
      )
    ]

    line_read : (done : List (List ℕ)) (now : List ℕ) (at : ℕ) (pending : List (List ℕ))
        (line : List ℕ)
        → Origin before start done now at pending false
        → Origin before start (done ++ line ∷ []) now at (pending ++ line ∷ []) false
    line_read done now at pending line origin = elim origin [
      | inl later ↦ inl later
      | inr all ↦ inr (all.0, all.1, ap (λ (ls : List (List ℕ)). ls ++ line ∷ []) all.2)
    ]

    later : (now : List ℕ) (at : ℕ) (pending : List (List ℕ)) (once : Bool) (done : List (List ℕ))
        → Origin before start done now at pending once → start < group_end now at pending
    later now at pending once done origin =
        let end = length-group now at pending in
        elim origin [
          | inl after ↦ omega (arith, after, end)
          | inr all ↦ let here : at ≡ start = all.1 in omega (arith, here, end)
        ]

    -- the lines before it are read, and then it
    marked : (done : List (List ℕ)) (now : List ℕ) (at : ℕ) (pending : List (List ℕ)) (once : Bool)
        (lines : List (List ℕ)) → Origin before start done now at pending once
        → at + length (lines_text pending) + said once ≤ start + length (lines_text done)
        → AreMarked lines → done ++ lines ≡ whole
        → IsToldOr (found_in now at pending once (lines ++ commit ∷ more) last)
    marked done now at pending once [] origin low all is =
        let same : done ≡ whole = sym (append-nil done) ∙ is in
        let sizes = ap (λ (ls : List (List ℕ)). length (lines_text ls)) same in
        at_commit now at pending once
        (subst (λ (ls : List (List ℕ)). Origin before start ls now at pending once) same origin)
        (omega (arith, low, fits, sizes))
    marked done now at pending false (line ∷ lines) origin low all is =
        let more_done = length-push done line in
        let next : (done ++ line ∷ []) ++ lines ≡ whole = append_assoc done (line ∷ []) lines
        ∙ is in
        elim (cases_Bool (is_commit line)) [
          | inl commits ↦ elim (cases_Bool (bytes_eq line (commit_line now at pending))) [
            | inl same ↦
                let line_is = (bytes_eq-Decides line (commit_line now at pending)).0 same in
                let long = ap length line_is ∙ length-commit (now ++ lines_text pending) at in
                rw (all.0, commits, same)
                (marked (done ++ line ∷ []) now at pending true lines
                (first_read done now at pending line line_is origin)
                (omega (arith, low, more_done, long)) all.1 next)
            | inr different ↦ rw (all.0, commits, different) (inl refl)
          ]
          | inr plain ↦
              let more_pending = length-push pending line in
              rw (all.0, plain) (marked (done ++ line ∷ []) now at
              (pending ++ line ∷ []) false lines (line_read done now at pending line origin)
              (omega (arith, low, more_done, more_pending)) all.1 next)
        ]
    marked done now at pending true (line ∷ lines) origin low all is =
        let more_done = length-push done line in
        let next : (done ++ line ∷ []) ++ lines ≡ whole = append_assoc done (line ∷ []) lines
        ∙ is in
        elim (cases_Bool (bytes_eq line (commit_line now at pending))) [
          | inl same ↦
              let line_is = (bytes_eq-Decides line (commit_line now at pending)).0 same in
              let long = ap length line_is ∙ length-commit (now ++ lines_text pending) at in
              let end = length-group now at pending in
              rw (all.0, same) (marked (done ++ line ∷ []) (group_sum now pending)
              (group_end now at pending) [] false lines
              (inl (later now at pending true done origin))
              (omega (arith, low, more_done, long, end)) all.1 next)
          | inr different ↦ rw (all.0, different) (inl refl)
        ]

-- ---- where the byte stands

-- in the first of two texts, or in the second
record InFirst (a b front back : List ℕ) (byte : ℕ) : Type 0 where
  pub rest : List ℕ
  pub here : a ≡ front ++ byte ∷ rest
  pub there : back ≡ rest ++ b

record InSecond (a b front back : List ℕ) (byte : ℕ) : Type 0 where
  pub rest : List ℕ
  pub here : front ≡ a ++ rest
  pub there : b ≡ rest ++ byte ∷ back

tail_is : (x y : ℕ) (a b : List ℕ) → x ∷ a ≡ y ∷ b → (x ≡ y) × (a ≡ b)
tail_is x y a b is = (cc is, cc is)

place_of : (a b front back : List ℕ) (byte : ℕ) → a ++ b ≡ front ++ byte ∷ back
    → InFirst a b front back byte ⊎ InSecond a b front back byte
place_of [] b front back byte is = inr (record { rest = front; here = refl; there = is })
place_of (x ∷ a) b [] back byte is =
    let both = tail_is x byte (a ++ b) back is in
    inl (record { rest = a; here = (λ i. both.0 i ∷ a); there = sym both.1 })
place_of (x ∷ a) b (y ∷ front) back byte is =
    let both = tail_is x y (a ++ b) (front ++ byte ∷ back) is in
    elim (place_of a b front back byte both.1) [
      | inl first ↦ inl (record {
        rest = first.rest;
        here = (λ i. both.0 i ∷ a)
            ∙ ap (λ (t : List ℕ). y ∷ t) first.here;
        there = first.there;
      })
      | inr second ↦ inr (record {
        rest = second.rest;
        here = (λ i. sym both.0 i ∷ front)
            ∙ ap (λ (t : List ℕ). x ∷ t) second.here;
        there = second.there;
      })
    ]

-- ---- texts without a zero

marked_parts : (a b : List ℕ) → is_torn (a ++ b) ≡ false → (is_torn a ≡ false) × (is_torn b ≡ false)
marked_parts a b marked =
    or_false (is_torn a) (is_torn b) (sym (list_any-append is_zero a b) ∙ marked)

both_marked : (a b : List ℕ) → is_torn a ≡ false → is_torn b ≡ false → is_torn (a ++ b) ≡ false
both_marked a b one other = list_any-append is_zero a b ∙ rw (one, other) refl

lines_marked : (lines : List (List ℕ)) → is_torn (lines_text lines) ≡ false → AreMarked lines
lines_marked [] stand = tt
lines_marked (line ∷ lines) stand =
    let both = marked_parts line (10 ∷ lines_text lines) stand in
    (both.0, lines_marked lines both.1)

group_marked : (lines : List (List ℕ)) → AreLines lines → is_torn (lines_text lines) ≡ false
group_marked [] all = refl
group_marked (line ∷ lines) all =
    both_marked line (10 ∷ lines_text lines) all.0.marked (group_marked lines all.1)

-- a byte for another, which is no zero
changed_marked : (front back : List ℕ) (byte other : ℕ) → is_torn (front ++ byte ∷ back) ≡ false
    → (other ≡ 0 → ⊥) → is_torn (front ++ other ∷ back) ≡ false
changed_marked front back byte other marked some =
    let both = marked_parts front (byte ∷ back) marked in
    let rest = (or_false (is_zero byte) (is_torn back) both.1).1 in
    both_marked front (other ∷ back) both.0 (elim (cases_Bool (is_zero other)) [
      | inl gone ↦ absurd (some (eqb-true other 0 gone))
      | inr stands ↦ rw (stands, rest) refl
    ])

changed_other : (front back : List ℕ) (byte other : ℕ) → (other ≡ byte → ⊥)
    → front ++ other ∷ back ≡ front ++ byte ∷ back → ⊥
changed_other front back byte other differs same =
    differs (tail_is other byte back back
    (append_cancel_left front (other ∷ back) (byte ∷ back) same)).0

changed_size : (front back : List ℕ) (byte other : ℕ)
    → length (front ++ other ∷ back) ≡ length (front ++ byte ∷ back)
changed_size front back byte other = length-append front (other ∷ back)
    ∙ sym (length-append front (byte ∷ back))

no_feed_between : (a b : List ℕ) (byte : ℕ) → HasNoFeed a → HasNoFeed b → (byte ≡ 10 → ⊥)
    → HasNoFeed (a ++ byte ∷ b)
no_feed_between a b byte one other differs =
    none_of_both a (byte ∷ b) one (elim (cases_Bool (is_line_feed byte)) [
      | inl feed ↦ absurd (differs (eqb-true byte 10 feed))
      | inr plain ↦ rw (plain, other) refl
    ])

no_zero_between : (a b : List ℕ) (byte : ℕ) → is_torn a ≡ false → is_torn b ≡ false → (byte ≡ 0 → ⊥)
    → is_torn (a ++ byte ∷ b) ≡ false
no_zero_between a b byte one other differs =
    both_marked a (byte ∷ b) one (elim (cases_Bool (is_zero byte)) [
      | inl gone ↦ absurd (differs (eqb-true byte 0 gone))
      | inr stands ↦ rw (stands, other) refl
    ])

-- the lines of a text that a line feed ends
closes : (text : List ℕ) → lines_text (whole_lines (text ++ 10 ∷ [])) ≡ text ++ 10 ∷ []
closes text =
    let lines = whole_lines (text ++ 10 ∷ []) in
    sym (append-nil (lines_text lines))
    ∙ ap (λ (p : List ℕ). lines_text lines ++ p) (sym (last_piece-line text []))
    ∙ sym (parts (text ++ 10 ∷ []))

-- ---- each place

-- a line where a commit line has to stand
wrong : (before : List ℕ) (start : ℕ) (pending : List (List ℕ)) (once : Bool) (line : List ℕ)
    (lines : List (List ℕ)) (last : List ℕ)
    → is_torn line ≡ false → (once || is_commit line) ≡ true
    → (line ≡ commit_line before start pending → ⊥)
    → (found_in before start pending once (line ∷ lines) last).is_damaged ≡ true
wrong before start pending once line lines last stand commits differs =
    elim (cases_Bool (bytes_eq line (commit_line before start pending))) [
      | inl same ↦ absurd (differs
          ((bytes_eq-Decides line (commit_line before start pending)).0 same))
      | inr other ↦ rw (stand, commits, other) refl
    ]

longer : (line more : List ℕ) (byte : ℕ) → line ++ byte ∷ more ≡ line → ⊥
longer line more byte same =
    absurd (omega (arith, ap length same, length-append line (byte ∷ more)))

-- behind the lines of a group
behind_lines : (before : List ℕ) (start : ℕ) (group : List (List ℕ)) (text : List ℕ)
    → AreLines group
    → found_from before start (lines_text group ++ text)
    ≡ found_in before start group false (whole_lines text) (last_piece text)
behind_lines before start group text all =
    ap (λ (ls : List (List ℕ)). found_in before start [] false ls
    (last_piece (lines_text group ++ text)))
    (whole_lines-lines group text (whole_each group all))
    ∙ ap (found_in before start [] false (group ++ whole_lines text)) (last_piece-lines group text)
    ∙ found_in-lines before start [] group (whole_lines text) (last_piece text) all

stands_all : (text more : List ℕ) → is_torn text ≡ false
    → stands (length text) (text ++ more) ≡ true
stands_all [] more stand = refl
stands_all (b ∷ text) more stand =
    let both = or_false (is_zero b) (is_torn text) stand in
    rw (both.0, stands_all text more both.1) refl

module _ (before : List ℕ) (start : ℕ) (group : List (List ℕ)) (all : AreLines group) where
  abbrev line : List ℕ
  line = commit_line before start group

  abbrev summed : List ℕ
  summed = before ++ lines_text group

  -- and behind its first commit line
  behind_once : (text : List ℕ)
      → found_from before start (lines_text group ++ (line ++ 10 ∷ text))
      ≡ found_in before start group true (whole_lines text) (last_piece text)
  behind_once text =
      behind_lines before start group (line ++ 10 ∷ text) all
      ∙ ap (λ (ls : List (List ℕ)). found_in before start group false ls
      (last_piece (line ++ 10 ∷ text)))
      (whole_lines-line line text (commit_has_none summed start))
      ∙ ap (found_in before start group false (line ∷ whole_lines text)) (last_piece-line line text)
      ∙ found_in-once before start group (whole_lines text) (last_piece text)

  in_lines : (changed more : List ℕ) → length changed ≡ length (lines_text group ++ line)
      → (changed ≡ lines_text group ++ line → ⊥) → is_torn changed ≡ false
      → start + length changed + 1 < 2 ^ 64
      → IsToldOr (found_from before start (changed ++ 10 ∷ (line ++ 10 ∷ more)))
  in_lines changed more size other stand fits =
      let closed = changed ++ 10 ∷ [] in
      let whole = whole_lines closed in
      let text = changed ++ 10 ∷ (line ++ 10 ∷ more) in
      let is : text ≡ lines_text whole ++ (line ++ 10 ∷ more) =
      sym (append_assoc changed (10 ∷ []) (line ++ 10 ∷ more))
      ∙ ap (λ (t : List ℕ). t ++ (line ++ 10 ∷ more)) (sym (closes changed)) in
      let lines : whole_lines text ≡ whole ++ line ∷ whole_lines more =
      ap whole_lines is ∙ whole_lines-lines whole (line ++ 10 ∷ more) (each_whole closed)
      ∙ ap (λ (ls : List (List ℕ)). whole ++ ls)
      (whole_lines-line line more (commit_has_none summed start)) in
      let grouped : lines_text (group ++ line ∷ []) ≡ (lines_text group ++ line) ++ 10 ∷ [] =
      lines_text-append group (line ∷ [])
      ∙ sym (append_assoc (lines_text group) line (10 ∷ [])) in
      let long = ap length (closes changed) ∙ length-append changed (10 ∷ []) in
      let both = length-append (lines_text group) line in
      let commit = length-commit summed start in
      let standing = both_marked changed (10 ∷ []) stand refl in
      subst (λ (ls : List (List ℕ)). IsToldOr (found_in before start [] false ls (last_piece text)))
      (sym lines)
      (marked before start group whole (whole_lines more) (last_piece text)
      (omega (arith, long, size, both, commit)) (omega (arith, fits, long))
      (λ same. other (append_cancel_right changed (lines_text group ++ line) (10 ∷ [])
      (sym (closes changed) ∙ same ∙ grouped)))
      [] before start [] false whole (inr (refl, refl, refl)) (omega arith)
      (lines_marked whole (ap is_torn (closes changed) ∙ standing)) refl)

  in_between : (other : ℕ) (more : List ℕ) → (other ≡ 10 → ⊥) → (other ≡ 0 → ⊥)
      → IsToldOr (found_from before start
      (lines_text group ++ (line ++ other ∷ (line ++ 10 ∷ more))))
  in_between other more feed gone =
      let long = line ++ other ∷ line in
      let none : HasNoFeed long =
      no_feed_between line line other (commit_has_none summed start)
      (commit_has_none summed start) feed in
      let text : line ++ other ∷ (line ++ 10 ∷ more) ≡ long ++ 10 ∷ more =
      sym (append_assoc line (other ∷ line) (10 ∷ more)) in
      inl (ap (λ (t : List ℕ). (found_from before start (lines_text group ++ t)).is_damaged) text
      ∙ ap (λ (f : Found). f.is_damaged) (behind_lines before start group (long ++ 10 ∷ more) all)
      ∙ ap (λ (ls : List (List ℕ)).
      (found_in before start group false ls (last_piece (long ++ 10 ∷ more))).is_damaged)
      (whole_lines-line long more none)
      ∙ wrong before start group false long (whole_lines more) (last_piece (long ++ 10 ∷ more))
      (no_zero_between line line other (commit_is_marked summed start)
      (commit_is_marked summed start) gone) refl (longer line line other))

  in_second : (changed more : List ℕ) → length changed ≡ length line → (changed ≡ line → ⊥)
      → is_torn changed ≡ false
      → IsToldOr (found_from before start
      (lines_text group ++ (line ++ 10 ∷ (changed ++ 10 ∷ more))))
  in_second changed more size other stand =
      let closed = changed ++ 10 ∷ [] in
      let head = starts (whole_lines closed) closed refl (has_feed changed []) in
      let text = changed ++ 10 ∷ more in
      let closed_is : closed ≡ head.line ++ 10 ∷ lines_text head.lines = sym (closes changed)
      ∙ ap lines_text head.is in
      let is : text ≡ lines_text (whole_lines closed) ++ more =
      sym (append_assoc changed (10 ∷ []) more)
      ∙ ap (λ (t : List ℕ). t ++ more) (sym (closes changed)) in
      let lines : whole_lines text ≡ head.line ∷ (head.lines ++ whole_lines more) =
      ap whole_lines is ∙ whole_lines-lines (whole_lines closed) more (each_whole closed)
      ∙ ap (λ (ls : List (List ℕ)). ls ++ whole_lines more) head.is in
      let standing : is_torn (lines_text (head.line ∷ head.lines)) ≡ false =
      ap is_torn (sym closed_is) ∙ both_marked changed (10 ∷ []) stand refl in
      let differs : head.line ≡ line → ⊥ = λ same.
      other (sym (take_at changed (10 ∷ []) (length line) size)
      ∙ ap (take (length line))
      (closed_is ∙ ap (λ (l : List ℕ). l ++ 10 ∷ lines_text head.lines) same)
      ∙ take_at line (10 ∷ lines_text head.lines) (length line) refl) in
      inl (ap (λ (f : Found). f.is_damaged) (behind_once text)
      ∙ ap (λ (ls : List (List ℕ)).
      (found_in before start group true ls (last_piece text)).is_damaged) lines
      ∙ wrong before start group true head.line (head.lines ++ whole_lines more) (last_piece text)
      (lines_marked (head.line ∷ head.lines) standing).0 refl differs)

  at_last_line : (other : ℕ) (next more : List ℕ) → (other ≡ 10 → ⊥) → (other ≡ 0 → ⊥)
      → HasNoFeed next → is_torn next ≡ false
      → IsToldOr (found_from before start
      (lines_text group ++ (line ++ 10 ∷ (line ++ other ∷ (next ++ 10 ∷ more)))))
  at_last_line other next more feed gone none stand =
      let long = line ++ other ∷ next in
      let text : line ++ other ∷ (next ++ 10 ∷ more) ≡ long ++ 10 ∷ more =
      sym (append_assoc line (other ∷ next) (10 ∷ more)) in
      inl (ap (λ (t : List ℕ).
      (found_from before start (lines_text group ++ (line ++ 10 ∷ t))).is_damaged) text
      ∙ ap (λ (f : Found). f.is_damaged) (behind_once (long ++ 10 ∷ more))
      ∙ ap (λ (ls : List (List ℕ)).
      (found_in before start group true ls (last_piece (long ++ 10 ∷ more))).is_damaged)
      (whole_lines-line long more
      (no_feed_between line next other (commit_has_none summed start) none feed))
      ∙ wrong before start group true long (whole_lines more) (last_piece (long ++ 10 ∷ more))
      (no_zero_between line next other (commit_is_marked summed start) stand gone) refl
      (longer line next other))

  at_end : (other room : ℕ) → (other ≡ 10 → ⊥) → (other ≡ 0 → ⊥)
      → IsToldOr (found_from before start
      (lines_text group ++ (line ++ 10 ∷ (line ++ other ∷ replicate room 0))))
  at_end other room feed gone =
      let piece = line ++ other ∷ replicate room 0 in
      let none : HasNoFeed piece =
      no_feed_between line (replicate room 0) other (commit_has_none summed start)
      (zeros_have_none room) feed in
      let head = line ++ other ∷ [] in
      let size : length head ≡ 83 = let n = length-append line (other ∷ []) in let m =
      length-commit summed start in omega (arith, n, m) in
      let standing : is_torn head ≡ false =
      no_zero_between line [] other (commit_is_marked summed start) refl gone in
      let goes_on : stands 83 piece ≡ true =
      ap (λ (t : List ℕ). stands 83 t) (sym (append_assoc line (other ∷ []) (replicate room 0)))
      ∙ ap (λ (n : ℕ). stands n (head ++ replicate room 0)) (sym size)
      ∙ stands_all head (replicate room 0) standing in
      inl (ap (λ (f : Found). f.is_damaged) (behind_once piece)
      ∙ ap (λ (ls : List (List ℕ)).
      (found_in before start group true ls (last_piece piece)).is_damaged)
      (whole_lines-none piece none)
      ∙ ap is_overlong (last_piece-none piece none) ∙ goes_on)

-- ---- any of them

only_one : (front back : List ℕ) (byte : ℕ) → 10 ∷ [] ≡ front ++ byte ∷ back
    → (front ≡ []) × (byte ≡ 10) × (back ≡ [])
only_one [] back byte is = let both = tail_is 10 byte [] back is in (refl, sym both.0, sym both.1)
only_one (x ∷ front) back byte is =
    let both = tail_is 10 x [] (front ++ byte ∷ back) is in
    absurd (omega (arith, ap length both.1, length-append front (byte ∷ back)))

-- the first line of groups
record FirstLine (text : List ℕ) : Type 0 where
  pub line : List ℕ
  pub more : List ℕ
  pub is : text ≡ line ++ 10 ∷ more
  pub none : HasNoFeed line
  pub stands : is_torn line ≡ false

first_of : (before : List ℕ) (start : ℕ) (group : List (List ℕ)) (more : List (List ℕ))
    → AreLines group → FirstLine (lines_text (group_lines before start group ++ more))
first_of before start [] more all =
    let commit = commit_line before start [] in
    record {
      line = commit;
      more = lines_text (commit ∷ more);
      is = refl;
      none =
          commit_has_none (before ++ []) start;
      stands = commit_is_marked (before ++ []) start;
    }
first_of before start (line ∷ group) more all =
    record {
      line = line;
      more =
          lines_text ((group ++ commit_line before start (line ∷ group) ∷ commit_line before start
          (line ∷ group) ∷ []) ++ more);
      is = refl;
      none = all.0.whole;
      stands = all.0.marked;
    }

-- behind a whole group
found_group : (before : List ℕ) (start : ℕ) (group : List (List ℕ)) (text : List ℕ) → AreLines group
    → found_from before start (group_text before start group ++ text)
    ≡ with_group group (found_from (group_sum before group) (group_end before start group) text)
found_group before start group text all =
    let lines = group_lines before start group in
    ap (λ (ls : List (List ℕ)). found_in before start [] false ls
    (last_piece (lines_text lines ++ text)))
    (whole_lines-lines lines text (group_is_whole before start group all))
    ∙ ap (found_in before start [] false (lines ++ whole_lines text)) (last_piece-lines lines text)
    ∙ found_in-group before start group (whole_lines text) (last_piece text) all

module _ (before : List ℕ) (start : ℕ) (group : List (List ℕ)) (all : AreLines group)
    (byte other : ℕ) (differs : other ≡ byte → ⊥) (some : other ≡ 0 → ⊥) where
  abbrev ending : List ℕ
  ending = commit_line before start group

  abbrev body : List ℕ
  body = lines_text group ++ ending

  parted : group_text before start group ≡ body ++ 10 ∷ (ending ++ 10 ∷ [])
  parted = lines_text-append group (ending ∷ ending ∷ [])
      ∙ sym (append_assoc (lines_text group) ending (10 ∷ (ending ++ 10 ∷ [])))

  lines_marked_too : is_torn body ≡ false
  lines_marked_too = both_marked (lines_text group) ending (group_marked group all)
      (commit_is_marked (before ++ lines_text group) start)

  -- the last line feed
  last_feed : (rest : List ℕ) (room : ℕ) → (rest ≡ []) ⊎ FirstLine rest → byte ≡ 10
      → IsToldOr (found_from before start
      (lines_text group ++ (ending ++ 10 ∷ (ending ++ other ∷ (rest ++ replicate room 0)))))
  last_feed rest room first feed =
      let not_feed : other ≡ 10 → ⊥ = λ is. differs (is ∙ sym feed) in
      elim first [
        | inl none ↦ rw none (at_end before start group all other room not_feed some)
        | inr line ↦
            let texts : rest ++ replicate room 0
            ≡ line.line ++ 10 ∷ (line.more ++ replicate room 0) =
            ap (λ (t : List ℕ). t ++ replicate room 0) line.is
            ∙ append_assoc line.line (10 ∷ line.more) (replicate room 0) in
            subst (λ (t : List ℕ). IsToldOr
            (found_from before start
            (lines_text group ++ (ending ++ 10 ∷ (ending ++ other ∷ t))))) (sym texts)
            (at_last_line before start group all other line.line
            (line.more ++ replicate room 0) not_feed some line.none line.stands)
      ]

  -- a text behind the body and the first ending line
  from_lines : (front back : List ℕ)
      → (body ++ front) ++ back ≡ lines_text group ++ (ending ++ (front ++ back))
  from_lines front back = append_assoc body front back
      ∙ append_assoc (lines_text group) ending (front ++ back)

  in_group : (front back rest : List ℕ) (room : ℕ)
      → group_text before start group ≡ front ++ byte ∷ back → (rest ≡ []) ⊎ FirstLine rest
      → start + length (group_text before start group) < 2 ^ 64
      → IsToldOr (found_from before start (front ++ (other ∷ (back ++ (rest ++ replicate room 0)))))
  in_group front back rest room is first fits =
      let more = rest ++ replicate room 0 in
      elim (place_of body (10 ∷ (ending ++ 10 ∷ [])) front back byte (sym parted ∙ is)) [
        | inl in_lines_of ↦
            let changed = front ++ other ∷ in_lines_of.rest in
            let here = in_lines_of.here in
            let size = changed_size front in_lines_of.rest byte other ∙ ap length (sym here) in
            let texts : front ++ (other ∷ (back ++ more)) ≡ changed ++ 10 ∷ (ending ++ 10 ∷ more) =
            ap (λ (t : List ℕ). front ++ (other ∷ (t ++ more))) in_lines_of.there
            ∙ ap (λ (t : List ℕ). front ++ (other ∷ t))
            (append_assoc in_lines_of.rest (10 ∷ (ending ++ 10 ∷ [])) more
            ∙ ap (λ (t : List ℕ). in_lines_of.rest ++ 10 ∷ t)
            (append_assoc ending (10 ∷ []) more))
            ∙ sym (append_assoc front (other ∷ in_lines_of.rest) (10 ∷ (ending ++ 10 ∷ more))) in
            let whole_size = ap length parted ∙ length-append body (10 ∷ (ending ++ 10 ∷ [])) in
            subst (λ (t : List ℕ). IsToldOr (found_from before start t)) (sym texts)
            (in_lines before start group all changed more size
            (λ same. changed_other front in_lines_of.rest byte other differs (same ∙ here))
            (changed_marked front in_lines_of.rest byte other
            (ap is_torn (sym here) ∙ lines_marked_too) some)
            (omega (arith, fits, whole_size, size)))
        | inr behind ↦ elim (place_of (10 ∷ [])
            (ending ++ 10 ∷ []) behind.rest back byte behind.there) [
              | inl feed ↦
                  let one = only_one behind.rest feed.rest byte feed.here in
                  let texts : front ++ (other ∷ (back ++ more))
                  ≡ lines_text group ++ (ending ++ other ∷ (ending ++ 10 ∷ more)) =
                  ap (λ (t : List ℕ). t ++ (other ∷ (back ++ more)))
                  (behind.here ∙ ap (λ (t : List ℕ). body ++ t) one.0)
                  ∙ from_lines [] (other ∷ (back ++ more))
                  ∙ ap (λ (t : List ℕ). lines_text group ++ (ending ++ other ∷ (t ++ more)))
                  (feed.there ∙ ap (λ (t : List ℕ). t ++ (ending ++ 10 ∷ [])) one.2)
                  ∙ ap (λ (t : List ℕ). lines_text group ++ (ending ++ other ∷ t))
                  (append_assoc ending (10 ∷ []) more) in
                  subst (λ (t : List ℕ). IsToldOr (found_from before start t)) (sym texts)
                  (in_between before start group all other more
                  (λ same. differs (same ∙ sym one.1)) some)
              | inr second ↦ elim (place_of ending (10 ∷ []) second.rest back byte second.there) [
                | inl inside ↦
                    let changed = second.rest ++ other ∷ inside.rest in
                    let here = inside.here in
                    let texts : front ++ (other ∷ (back ++ more))
                    ≡ lines_text group ++ (ending ++ 10 ∷ (changed ++ 10 ∷ more)) =
                    ap (λ (t : List ℕ). t ++ (other ∷ (back ++ more)))
                    (behind.here ∙ ap (λ (t : List ℕ). body ++ t) second.here)
                    ∙ from_lines (10 ∷ second.rest) (other ∷ (back ++ more))
                    ∙ ap (λ (t : List ℕ). lines_text group ++
                    (ending ++ 10 ∷ (second.rest ++ (other ∷ (t ++ more))))) inside.there
                    ∙ ap (λ (t : List ℕ). lines_text group ++
                    (ending ++ 10 ∷ (second.rest ++ (other ∷ t))))
                    (append_assoc inside.rest (10 ∷ []) more)
                    ∙ ap (λ (t : List ℕ). lines_text group ++ (ending ++ 10 ∷ t))
                    (sym (append_assoc second.rest (other ∷ inside.rest) (10 ∷ more))) in
                    subst (λ (t : List ℕ). IsToldOr (found_from before start t)) (sym texts)
                    (in_second before start group all changed more
                    (changed_size second.rest inside.rest byte other ∙ ap length (sym here))
                    (λ same. changed_other second.rest inside.rest byte other differs (same ∙ here))
                    (changed_marked second.rest inside.rest byte other
                    (ap is_torn (sym here)
                    ∙ commit_is_marked (before ++ lines_text group) start) some))
                | inr end ↦
                    let one = only_one end.rest back byte end.there in
                    let texts : front ++ (other ∷ (back ++ more))
                    ≡ lines_text group ++ (ending ++ 10 ∷ (ending ++ other ∷ more)) =
                    ap (λ (t : List ℕ). t ++ (other ∷ (back ++ more)))
                    (behind.here ∙ ap (λ (t : List ℕ). body ++ t)
                    (second.here ∙ ap (λ (t : List ℕ). 10 ∷ t)
                    (end.here ∙ ap (λ (t : List ℕ). ending ++ t) one.0 ∙ append-nil ending)))
                    ∙ from_lines (10 ∷ ending) (other ∷ (back ++ more))
                    ∙ ap (λ (t : List ℕ). lines_text group ++
                    (ending ++ 10 ∷ (ending ++ (other ∷ (t ++ more))))) one.2 in
                    subst (λ (t : List ℕ). IsToldOr (found_from before start t)) (sym texts)
                    (last_feed rest room first one.1)
              ]
            ]
      ]

first_or_none : (before : List ℕ) (start : ℕ) (groups : List (List (List ℕ))) → AreGroups groups
    → (lines_text (lines_from before start groups) ≡ [])
    ⊎ FirstLine (lines_text (lines_from before start groups))
first_or_none before start [] all = inl refl
first_or_none before start (group ∷ groups) all =
    inr (first_of before start group
    (lines_from (group_sum before group) (group_end before start group) groups) all.0)

change_from : (before : List ℕ) (start : ℕ) (groups : List (List (List ℕ))) (front back : List ℕ)
    (byte other room : ℕ) → AreGroups groups
    → start + length (lines_text (lines_from before start groups)) < 2 ^ 64
    → lines_text (lines_from before start groups) ≡ front ++ byte ∷ back → (other ≡ byte → ⊥)
    → (other ≡ 0 → ⊥)
    → IsToldOr (found_from before start (front ++ (other ∷ (back ++ replicate room 0))))
change_from before start [] front back byte other room all fits is differs some =
    absurd (omega (arith, ap length is, length-append front (byte ∷ back)))
change_from before start (group ∷ groups) front back byte other room all fits is differs some =
    let rest = lines_text
    (lines_from (group_sum before group) (group_end before start group) groups) in
    let texts : lines_text (lines_from before start (group ∷ groups))
    ≡ group_text before start group ++ rest =
    lines_text-append (group_lines before start group)
    (lines_from (group_sum before group) (group_end before start group) groups) in
    let sizes = ap length texts ∙ length-append (group_text before start group) rest in
    elim (place_of (group_text before start group) rest front back byte (sym texts ∙ is)) [
      | inl here ↦
          let text : front ++ (other ∷ (back ++ replicate room 0))
          ≡ front ++ (other ∷ (here.rest ++ (rest ++ replicate room 0))) =
          ap (λ (t : List ℕ). front ++ (other ∷ (t ++ replicate room 0))) here.there
          ∙ ap (λ (t : List ℕ). front ++ (other ∷ t))
          (append_assoc here.rest rest (replicate room 0)) in
          subst (λ (t : List ℕ). IsToldOr (found_from before start t)) (sym text)
          (in_group before start group all.0 byte other differs some front here.rest rest room
          here.here (first_or_none (group_sum before group)
          (group_end before start group) groups all.1) (omega (arith, fits, sizes)))
      | inr there ↦
          let text : front ++ (other ∷ (back ++ replicate room 0))
          ≡ group_text before start group ++
          (there.rest ++ (other ∷ (back ++ replicate room 0))) =
          ap (λ (t : List ℕ). t ++ (other ∷ (back ++ replicate room 0))) there.here
          ∙ append_assoc (group_text before start group) there.rest
          (other ∷ (back ++ replicate room 0)) in
          let found_is = ap (found_from before start) text
          ∙ found_group before start group
          (there.rest ++ (other ∷ (back ++ replicate room 0))) all.0 in
          elim (change_from (group_sum before group)
          (group_end before start group) groups there.rest back byte other room all.1
          (omega (arith, fits, sizes)) there.there differs some) [
            | inl told ↦ inl (ap (λ (f : Found). f.is_damaged) found_is ∙ told)
            | inr collision ↦ inr collision
          ]
    ]

-- If a byte of a journal is changed to another, which isn't 0, the text is found as damaged, or two
-- texts have one SHA-256. Zeros may follow the journal.
pub a_change_is_told : (first : List ℕ) (groups : List (List (List ℕ))) (front back : List ℕ)
    (byte other room : ℕ)
    → AreGroups groups → journal_end first groups < 2 ^ 64
    → journal_text first groups ≡ front ++ byte ∷ back → other ≢ byte → other ≢ 0
    → ((found first (front ++ (other ∷ (back ++ replicate room 0)))).is_damaged ≡ true) ⊎ Collision
a_change_is_told first groups front back byte other room all fits is differs some =
    elim (change_from first 0 groups front back byte other room all (omega (arith, fits)) is differs
    some) [
      | inl told ↦ inl (damage_is_found first (front ++ (other ∷ (back ++ replicate room 0))) told)
      | inr collision ↦ inr collision
    ]
