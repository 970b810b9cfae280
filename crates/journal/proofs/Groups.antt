-- On the groups of a text.
use Rattle.std.proofs.Common.{◌≡◌, ◌⊎◌, ◌∙◌, ap, sym, refl, subst, ℕ, zero, suc, ◌+◌, ◌<◌, List, [], ◌∷◌, ◌++◌, length, replicate, Bool, true, false, inl, inr, bytes_eq, arith, append_assoc, length-append}
use Rattle.std.proofs.lemmas.Bool.{cases_Bool}
use Rattle.std.proofs.lemmas.List.{append-nil}
use Rattle.std.proofs.lemmas.Slice.Eq.{bytes_eq-Decides}
use Rattle.std.specs.List.{list_any}
use Rattle.journal.specs.Text.{is_zero, is_torn, is_commit, lines_text, sum_of, group_sum, commit_of, commit_line, group_lines, group_text, group_end, sum_after, lines_from, journal_lines, journal_text, journal_end, place_text, AreLines, AreGroups}
use Rattle.journal.specs.Reading.{whole_lines, last_piece, stands, is_overlong, is_stray, Found, with_group, with_groups, found_none, found_in, found_from, parsed, sound}
use Rattle.journal.specs.Crashes.{Holes, Mixes}
use Rattle.journal.proofs.TextLines.{HasNoFeed, AreWhole, whole_lines-line, whole_lines-lines, last_piece-line, last_piece-lines, whole_lines-none, last_piece-none, lines_text-append}
use Rattle.journal.proofs.Sums.{commit_has_none, commit_is_marked, length-commit, commit_place}
use Rattle.journal.proofs.Tearing.{cut_holes, both_holes, all_there, whole_or_torn, torn_more, torn_by, ends_here}

-- ---- which lines are whole

pub whole_each : (lines : List (List ℕ)) → AreLines lines → AreWhole lines
whole_each [] all = tt
whole_each (line ∷ lines) all = (all.0.whole, whole_each lines all.1)

pub both_whole : (lines more : List (List ℕ)) → AreWhole lines → AreWhole more
    → AreWhole (lines ++ more)
both_whole [] more all then = then
both_whole (line ∷ lines) more all then = (all.0, both_whole lines more all.1 then)

pub commits_are_whole : (before : List ℕ) (start : ℕ) (group : List (List ℕ))
    → AreWhole (commit_line before start group ∷ commit_line before start group ∷ [])
commits_are_whole before start group = (
  commit_has_none (before ++ lines_text group) start,
  (commit_has_none (before ++ lines_text group) start, tt),
)

pub group_is_whole : (before : List ℕ) (start : ℕ) (group : List (List ℕ)) → AreLines group
    → AreWhole (group_lines before start group)
group_is_whole before start group all =
    both_whole group _ (whole_each group all) (commits_are_whole before start group)

-- each line of a journal's text is a whole line
pub lines_are_whole : (before : List ℕ) (start : ℕ) (groups : List (List (List ℕ)))
    → AreGroups groups → AreWhole (lines_from before start groups)
lines_are_whole before start [] all = tt
lines_are_whole before start (group ∷ groups) all =
    both_whole (group_lines before start group)
    (lines_from (group_sum before group) (group_end before start group) groups)
    (group_is_whole before start group all.0)
    (lines_are_whole (group_sum before group) (group_end before start group) groups all.1)

-- zeros are calm line
pub zeros_have_none : (n : ℕ) → HasNoFeed (replicate n 0)
zeros_have_none zero = refl
zeros_have_none (suc n) = zeros_have_none n

pub zeros_are_short : (n : ℕ) → is_overlong (replicate n 0) ≡ false
zeros_are_short zero = refl
zeros_are_short (suc n) = refl

-- ---- what is found

-- lines of a group wait for their commit line
pub found_in-lines : (before : List ℕ) (start : ℕ) (pending lines more : List (List ℕ))
    (last : List ℕ) → AreLines lines
    → found_in before start pending false (lines ++ more) last
    ≡ found_in before start (pending ++ lines) false more last
found_in-lines before start pending [] more last all =
    ap (λ (ls : List (List ℕ)). found_in before start ls false more last) (sym (append-nil pending))
found_in-lines before start pending (line ∷ lines) more last all =
    rw (all.0.marked, all.0.plain)
    (found_in-lines before start (pending ++ line ∷ []) lines more last all.1
    ∙ ap (λ (ls : List (List ℕ)). found_in before start ls false more last)
    (append_assoc pending (line ∷ []) lines))

pub same_bytes : (xs : List ℕ) → bytes_eq xs xs ≡ true
same_bytes xs = (bytes_eq-Decides xs xs).1 refl

pub found_in-once : (before : List ℕ) (start : ℕ) (group more : List (List ℕ)) (last : List ℕ)
    → found_in before start group false (commit_line before start group ∷ more) last
    ≡ found_in before start group true more last
found_in-once before start group more last =
    rw (
      commit_is_marked (before ++ lines_text group) start,
      same_bytes
          (commit_line before start group),
    ) refl

pub found_in-twice : (before : List ℕ) (start : ℕ) (group more : List (List ℕ)) (last : List ℕ)
    → found_in before start group true (commit_line before start group ∷ more) last
    ≡ with_group group (found_in (group_sum before group)
    (group_end before start group) [] false more last)
found_in-twice before start group more last =
    rw (
      commit_is_marked (before ++ lines_text group) start,
      same_bytes
          (commit_line before start group),
    ) refl

-- a whole group
pub found_in-group : (before : List ℕ) (start : ℕ) (group more : List (List ℕ)) (last : List ℕ)
    → AreLines group
    → found_in before start [] false (group_lines before start group ++ more) last
    ≡ with_group group (found_in (group_sum before group)
    (group_end before start group) [] false more last)
found_in-group before start group more last all =
    let line = commit_line before start group in
    ap (λ (ls : List (List ℕ)). found_in before start [] false ls last)
    (append_assoc group (line ∷ line ∷ []) more)
    ∙ found_in-lines before start [] group (line ∷ line ∷ more) last all
    ∙ found_in-once before start group (line ∷ more) last
    ∙ found_in-twice before start group more last

abbrev pub end_of : List ℕ → ℕ → List (List (List ℕ)) → ℕ
end_of before start groups = start + length (lines_text (lines_from before start groups))

pub end_of-more : (before : List ℕ) (start : ℕ) (group : List (List ℕ))
    (groups : List (List (List ℕ)))
    → end_of (group_sum before group) (group_end before start group) groups
    ≡ end_of before start (group ∷ groups)
end_of-more before start group groups =
    let rest = lines_from (group_sum before group) (group_end before start group) groups in
    let texts = ap length (lines_text-append (group_lines before start group) rest) in
    let both = length-append (group_text before start group) (lines_text rest) in
    omega (arith, texts, both)

-- whole groups
pub found_in-groups : (before : List ℕ) (start : ℕ) (groups : List (List (List ℕ)))
    (more : List (List ℕ)) (last : List ℕ) → AreGroups groups
    → found_in before start [] false (lines_from before start groups ++ more) last
    ≡ with_groups groups
    (found_in (sum_after before groups) (end_of before start groups) [] false more last)
found_in-groups before start [] more last all =
    ap (λ (n : ℕ). found_in before n [] false more last) (omega arith)
found_in-groups before start (group ∷ groups) more last all =
    let next = group_sum before group in
    let end = group_end before start group in
    ap (λ (ls : List (List ℕ)). found_in before start [] false ls last)
    (append_assoc (group_lines before start group) (lines_from next end groups) more)
    ∙ found_in-group before start group (lines_from next end groups ++ more) last all.0
    ∙ ap (with_group group) (found_in-groups next end groups more last all.1)
    ∙ ap (λ (n : ℕ). with_groups (group ∷ groups)
    (found_in (sum_after next groups) n [] false more last))
    (end_of-more before start group groups)

pub nothing_before : (n : ℕ) → 0 + n ≡ n
nothing_before n = omega arith

-- groups, and a text behind them
pub found_behind : (first : List ℕ) (groups : List (List (List ℕ))) (text : List ℕ)
    → AreGroups groups
    → parsed first (journal_text first groups ++ text)
    ≡ with_groups groups (found_from (sum_after first groups) (journal_end first groups) text)
found_behind first groups text all =
    let lines = journal_lines first groups in
    ap (λ (ls : List (List ℕ)). found_in first 0 [] false ls
    (last_piece (lines_text lines ++ text)))
    (whole_lines-lines lines text (lines_are_whole first 0 groups all))
    ∙ ap (found_in first 0 [] false (lines ++ whole_lines text)) (last_piece-lines lines text)
    ∙ found_in-groups first 0 groups (whole_lines text) (last_piece text) all
    ∙ ap (λ (n : ℕ). with_groups groups (found_from (sum_after first groups) n text))
    (nothing_before (journal_end first groups))

pub nothing_found : (before : List ℕ) (start : ℕ) (n : ℕ)
    → found_from before start (replicate n 0) ≡ sound []
nothing_found before start n =
    rw (
      whole_lines-none (replicate n 0) (zeros_have_none n),
      last_piece-none (replicate n 0)
          (zeros_have_none n),
    ) (ap found_none (zeros_are_short n))

pub written_is_parsed : (first : List ℕ) (groups : List (List (List ℕ))) (room : ℕ)
    → AreGroups groups → parsed first (journal_text first groups ++ replicate room 0) ≡ sound groups
written_is_parsed first groups room all =
    found_behind first groups (replicate room 0) all
    ∙ ap (with_groups groups)
    (nothing_found (sum_after first groups) (journal_end first groups) room)
    ∙ ap (λ (gs : List (List (List ℕ))). sound gs) (append-nil groups)

-- ---- a torn group

pub line_is_not_stray : (start : ℕ) (line : List ℕ) → is_commit line ≡ false
    → is_stray start line ≡ false
line_is_not_stray start line plain = elim (cases_Bool (is_torn line)) [
  | inl torn ↦ rw torn refl
  | inr other ↦ rw (other, plain) refl
]

pub line_is_short : (line : List ℕ) → is_commit line ≡ false → is_overlong line ≡ false
line_is_short line plain = rw plain refl

pub commit_is_not_stray : (text : List ℕ) (start : ℕ)
    → is_stray start (commit_of (sum_of text) start) ≡ false
commit_is_not_stray text start =
    rw (
      commit_is_marked text start,
      ap (λ (t : List ℕ). bytes_eq t (place_text start))
          (commit_place text start) ∙ same_bytes (place_text start),
    ) refl

not_so_long : (n : ℕ) (piece : List ℕ) → length piece < n → stands n piece ≡ false
not_so_long zero piece lt = absurd (omega (arith, lt))
not_so_long (suc n) [] lt = refl
not_so_long (suc n) (b ∷ piece) lt = elim (cases_Bool (is_zero b)) [
  | inl none ↦ rw none refl
  | inr other ↦ rw (other, not_so_long n piece (omega (arith, lt))) refl
]

pub commit_is_short : (text : List ℕ) (start : ℕ)
    → is_overlong (commit_of (sum_of text) start) ≡ false
commit_is_short text start =
    not_so_long 83 (commit_of (sum_of text) start)
    (let n = length-commit text start in omega (arith, n))

none_stray_one : (text : List ℕ) (start : ℕ)
    → list_any (is_stray start) (commit_of (sum_of text) start ∷ []) ≡ false
none_stray_one text start = rw (commit_is_not_stray text start) refl

nothing_left : (left : List ℕ) → Holes [] left → left ≡ []
nothing_left [] holes = refl
nothing_left (c ∷ left) holes = absurd holes

none_stray_in : (before : List ℕ) (start : ℕ) (group lines : List (List ℕ)) → AreLines lines
    → list_any (is_stray start)
    (lines ++ commit_line before start group ∷ commit_line before start group ∷ []) ≡ false
none_stray_in before start group [] all =
    rw (commit_is_not_stray (before ++ lines_text group) start) refl
none_stray_in before start group (line ∷ lines) all =
    rw (line_is_not_stray start line all.0.plain, none_stray_in before start group lines all.1) refl

abbrev pub Read : List ℕ → ℕ → List (List ℕ) → Bool → List ℕ → Found
Read before start pending once text =
    found_in before start pending once (whole_lines text) (last_piece text)

-- what is left ends what is read
abbrev IsEnded : List ℕ → ℕ → List (List ℕ) → Bool → ℕ → List ℕ → Type 0
IsEnded before start pending once room left =
    (Read before start pending once (left ++ replicate room 0) ≡ sound []) × (is_torn left ≡ true)

-- or is all that there was, and the group is there
abbrev IsWhole : List ℕ → ℕ → List (List ℕ) → Bool → ℕ → List ℕ → List (List ℕ) → List ℕ → Type 0
IsWhole before start pending once room bytes group left =
    (Read before start pending once (left ++ replicate room 0) ≡ sound (group ∷ []))
    × (left ≡ bytes)

-- the first line is there, and this is left of the others
record GoesOn (line : List ℕ) (lines : List (List ℕ)) (left : List ℕ) : Type 0 where
  pub back : List ℕ
  pub backs : Holes (lines_text lines) back
  pub is : left ≡ line ++ 10 ∷ back

module _ (before : List ℕ) (start : ℕ) (pending : List (List ℕ)) (once : Bool) (line : List ℕ)
    (lines : List (List ℕ)) (room : ℕ)
    (whole : HasNoFeed line) (all : AreWhole lines) (short : is_overlong line ≡ false)
    (calm : list_any (is_stray start) lines ≡ false) where
  ended : (front back : List ℕ) (c : ℕ) → Holes line front → Holes (lines_text lines) back
      → (c ≡ 0) ⊎ ((c ≡ 10) × (is_torn front ≡ true)) → is_torn (front ++ c ∷ back) ≡ true
      → IsEnded before start pending once room (front ++ c ∷ back)
  ended front back c fronts backs which torn = (
    ap (Read before start pending once) (append_assoc front (c ∷ back) (replicate room 0))
        ∙ ends_here before start pending once line lines (replicate room 0) front
        (back ++ replicate room 0) whole all (zeros_have_none room) short calm fronts
        (both_holes (lines_text lines) (replicate room 0) back (replicate room 0) backs
        (all_there (replicate room 0))) c which,
    torn,
  )

  at_feed : (front back : List ℕ) → Holes line front → Holes (10 ∷ lines_text lines) back
      → IsEnded before start pending once room (front ++ back) ⊎ GoesOn line lines (front ++ back)
  at_feed front [] fronts backs = absurd backs
  at_feed front (c ∷ back) fronts backs = elim backs.0 [
    | inl lost ↦ inl (ended front back c fronts backs.1 (inl lost) (rw lost (torn_by front back)))
    | inr feed ↦ elim (whole_or_torn line front fronts) [
      | inl same ↦ inr (record { back = back; backs = backs.1; is = rw (same, feed) refl })
      | inr torn ↦ inl (ended front back c fronts backs.1 (inr (feed, torn))
          (torn_more front (c ∷ back) torn))
    ]
  ]

  step : (left : List ℕ) → Holes (lines_text (line ∷ lines)) left
      → IsEnded before start pending once room left ⊎ GoesOn line lines left
  step left holes =
      let cut = cut_holes line (10 ∷ lines_text lines) left holes in
      subst (λ (t : List ℕ). IsEnded before start pending once room t ⊎ GoesOn line lines t)
      (sym cut.is) (at_feed cut.front cut.back cut.fronts cut.backs)

torn_behind : (line back : List ℕ) → is_torn back ≡ true → is_torn (line ++ 10 ∷ back) ≡ true
torn_behind [] back torn = torn
torn_behind (b ∷ line) back torn = elim (cases_Bool (is_zero b)) [
  | inl gone ↦ rw gone refl
  | inr other ↦ rw (other, torn_behind line back torn) refl
]

-- a line that is there is read
pub read_text : (before : List ℕ) (start : ℕ) (pending : List (List ℕ)) (once : Bool)
    (line text : List ℕ) → HasNoFeed line
    → Read before start pending once (line ++ 10 ∷ text)
    ≡ found_in before start pending once (line ∷ whole_lines text) (last_piece text)
read_text before start pending once line text whole =
    ap (λ (ls : List (List ℕ)). found_in before start pending once ls
    (last_piece (line ++ 10 ∷ text))) (whole_lines-line line text whole)
    ∙ ap (found_in before start pending once (line ∷ whole_lines text)) (last_piece-line line text)

read_line : (before : List ℕ) (start : ℕ) (pending : List (List ℕ)) (once : Bool)
    (line back left : List ℕ) (room : ℕ) → HasNoFeed line → left ≡ line ++ 10 ∷ back
    → Read before start pending once (left ++ replicate room 0)
    ≡ found_in before start pending once (line ∷ whole_lines (back ++ replicate room 0))
    (last_piece (back ++ replicate room 0))
read_line before start pending once line back left room whole is =
    ap (λ (t : List ℕ). Read before start pending once (t ++ replicate room 0)) is
    ∙ ap (Read before start pending once) (append_assoc line (10 ∷ back) (replicate room 0))
    ∙ ap (λ (ls : List (List ℕ)). found_in before start pending once ls
    (last_piece (line ++ 10 ∷ (back ++ replicate room 0))))
    (whole_lines-line line (back ++ replicate room 0) whole)
    ∙ ap (found_in before start pending once (line ∷ whole_lines (back ++ replicate room 0)))
    (last_piece-line line (back ++ replicate room 0))

-- what is left of the second commit line
torn_twice : (before : List ℕ) (start : ℕ) (group : List (List ℕ)) (room : ℕ) (left : List ℕ)
    → Holes (lines_text (commit_line before start group ∷ [])) left
    → IsEnded before start group true room left
    ⊎ IsWhole before start group true room
    (lines_text (commit_line before start group ∷ [])) group left
torn_twice before start group room left holes =
    let text = before ++ lines_text group in
    elim (step before start group true (commit_line before start group) [] room
    (commit_has_none text start) tt (commit_is_short text start) refl left holes) [
      | inl end ↦ inl end
      | inr on ↦
          let none : on.back ≡ [] = nothing_left on.back on.backs in
          let is : left ≡ commit_line before start group ++ 10 ∷ [] = on.is
          ∙ ap (λ (t : List ℕ). commit_line before start group ++ 10 ∷ t) none in
          inr (
            read_line before start group true (commit_line before start group) [] left room
                (commit_has_none text start) is
                ∙ found_in-twice before start group (whole_lines (replicate room 0))
                (last_piece (replicate room 0))
                ∙ ap (with_group group)
                (nothing_found (group_sum before group) (group_end before start group) room),
            is,
          )
    ]

-- of both
torn_commits : (before : List ℕ) (start : ℕ) (group : List (List ℕ)) (room : ℕ) (left : List ℕ)
    → let line = commit_line before start group in Holes (lines_text (line ∷ line ∷ [])) left
    → IsEnded before start group false room left
    ⊎ IsWhole before start group false room (lines_text (line ∷ line ∷ [])) group left
torn_commits before start group room left holes =
    let text = before ++ lines_text group in
    let line = commit_line before start group in
    elim (step before start group false line (line ∷ []) room (commit_has_none text start)
    (commit_has_none text start, tt) (commit_is_short text start)
    (none_stray_one text start) left holes) [
      | inl end ↦ inl end
      | inr on ↦
          let one = read_line before start group false line on.back left room
          (commit_has_none text start) on.is
          ∙ found_in-once before start group (whole_lines (on.back ++ replicate room 0))
          (last_piece (on.back ++ replicate room 0)) in
          elim (torn_twice before start group room on.back on.backs) [
            | inl end ↦ inl (one ∙ end.0, ap is_torn on.is ∙ torn_behind line on.back end.1)
            | inr all ↦ inr (one ∙ all.0, on.is ∙ ap (λ (t : List ℕ). line ++ 10 ∷ t) all.1)
          ]
    ]

-- of lines and both
torn_lines : (before : List ℕ) (start : ℕ) (pending lines group : List (List ℕ)) (room : ℕ)
    (left : List ℕ) → AreLines lines → group ≡ pending ++ lines
    → let line = commit_line before start group in
    Holes (lines_text (lines ++ line ∷ line ∷ [])) left
    → IsEnded before start pending false room left
    ⊎ IsWhole before start pending false room
    (lines_text (lines ++ line ∷ line ∷ [])) group left
torn_lines before start pending [] group room left all is holes =
    let same : group ≡ pending = is ∙ append-nil pending in
    subst (λ (p : List (List ℕ)). let line =
    commit_line before start group in IsEnded before start p false room left
    ⊎ IsWhole before start p false room (lines_text (line ∷ line ∷ [])) group left)
    same (torn_commits before start group room left holes)
torn_lines before start pending (l ∷ lines) group room left all is holes =
    let line = commit_line before start group in
    elim (step before start pending false l (lines ++ line ∷ line ∷ []) room all.0.whole
    (both_whole lines (line ∷ line ∷ []) (whole_each lines all.1)
    (commits_are_whole before start group)) (line_is_short l all.0.plain)
    (none_stray_in before start group lines all.1) left holes) [
      | inl end ↦ inl end
      | inr on ↦
          let one = read_line before start pending false l on.back left room all.0.whole on.is
          ∙ found_in-lines before start pending (l ∷ []) (whole_lines (on.back ++ replicate room 0))
          (last_piece (on.back ++ replicate room 0)) (all.0, tt) in
          elim (torn_lines before start (pending ++ l ∷ []) lines group room on.back all.1
          (is ∙ sym (append_assoc pending (l ∷ []) lines)) on.backs) [
            | inl end ↦ inl (one ∙ end.0, ap is_torn on.is ∙ torn_behind l on.back end.1)
            | inr whole ↦ inr (one ∙ whole.0, on.is ∙ ap (λ (t : List ℕ). l ++ 10 ∷ t) whole.1)
          ]
    ]

pub over_zeros : (bytes mixed : List ℕ) → Mixes (replicate (length bytes) 0) bytes mixed
    → Holes bytes mixed
over_zeros [] [] mixes = tt
over_zeros [] (c ∷ mixed) mixes = absurd mixes
over_zeros (b ∷ bytes) [] mixes = absurd mixes
over_zeros (b ∷ bytes) (c ∷ mixed) mixes = (mixes.0, over_zeros bytes mixed mixes.1)

pub torn_is_parsed : (first : List ℕ) (groups : List (List (List ℕ)))
    (group : List (List ℕ)) (mixed : List ℕ) (room : ℕ)
    → AreGroups groups → AreLines group
    → let bytes = group_text (sum_after first groups) (journal_end first groups) group in
    let text = journal_text first groups ++ (mixed ++ replicate room 0) in
    Mixes (replicate (length bytes) 0) bytes mixed
    → ((parsed first text ≡ sound groups) × (is_torn mixed ≡ true))
    ⊎ ((parsed first text ≡ sound (groups ++ group ∷ [])) × (mixed ≡ bytes))
torn_is_parsed first groups group mixed room all each mixes =
    let before = sum_after first groups in
    let start = journal_end first groups in
    let bytes = group_text before start group in
    let behind = found_behind first groups (mixed ++ replicate room 0) all in
    elim (torn_lines before start [] group group room mixed each refl
    (over_zeros bytes mixed mixes)) [
      | inl end ↦ inl (
        behind ∙ ap (with_groups groups) end.0
            ∙ ap (λ (gs : List (List (List ℕ))). sound gs) (append-nil groups),
        end.1,
      )
      | inr whole ↦ inr (behind ∙ ap (with_groups groups) whole.0, whole.1)
    ]
