-- A zero before a whole group is found as damage.
use Rattle.std.proofs.Common.{◌≡◌, ◌∙◌, ap, sym, refl, ℕ, ◌+◌, ◌^◌, ◌<◌, ◌≤◌, List, [], ◌∷◌, ◌++◌, length, drop, Bool, true, false, ◌||◌, inl, inr, bytes_eq, arith, append_assoc, length-append}
use Rattle.std.proofs.lemmas.Bool.{cases_Bool, eqb-true}
use Rattle.std.proofs.lemmas.List.{append-nil}
use Rattle.std.proofs.lemmas.Slice.Eq.{bytes_eq-Decides}
use Rattle.std.specs.List.{list_any}
use Rattle.journal.specs.Text.{is_line_feed, is_zero, is_torn, is_commit, lines_text, place_text, group_sum, group_text, group_end, commit_line, AreLines}
use Rattle.journal.specs.Reading.{whole_lines, last_piece, is_overlong, is_stray, Found, found_none, found_in, parsed, found}
use Rattle.journal.proofs.TextLines.{HasNoFeed, parts, some_lines, each_whole, piece_has_none, last_piece-line, none_of_both, lines_text-append, whole_lines-lines, whole_lines-line}
use Rattle.journal.proofs.Clear.{damage_is_found}
use Rattle.journal.proofs.Sums.{length-commit, commit_is_marked, commit_place, commit_has_none, one_place}
use Rattle.journal.proofs.Tearing.{glue, whole_lines-glue, torn_more, torn_by}

-- where a group ends
pub length-group : (before : List ℕ) (start : ℕ) (group : List (List ℕ))
    → group_end before start group ≡ start + length (lines_text group) + 166
length-group before start group =
    let line = commit_line before start group in
    let size = length-commit (before ++ lines_text group) start in
    let texts = ap length (lines_text-append group (line ∷ line ∷ [])) in
    let both = length-append (lines_text group) (lines_text (line ∷ line ∷ [])) in
    let two = length-append line (10 ∷ lines_text (line ∷ [])) in
    let one = length-append line (10 ∷ []) in
    omega (arith, size, texts, both, two, one)

-- the bytes of the commit line that was read
abbrev pub said : Bool → ℕ
said true = 83
said false = 0

pub length-push : (lines : List (List ℕ)) (line : List ℕ)
    → length (lines_text (lines ++ line ∷ [])) ≡ length (lines_text lines) + length line + 1
length-push lines line =
    let texts = ap length (lines_text-append lines (line ∷ [])) in
    let both = length-append (lines_text lines) (line ++ 10 ∷ []) in
    let one = length-append line (10 ∷ []) in
    omega (arith, texts, both, one)

-- a commit line of a group that begins elsewhere
record IsOf (k : ℕ) (line : List ℕ) : Type 0 where
  pub stands : is_torn line ≡ false
  pub commits : is_commit line ≡ true
  pub names : drop 65 line ≡ place_text k

stray : (start k : ℕ) (line : List ℕ) → start < k → k < 2 ^ 64 → IsOf k line
    → is_stray start line ≡ true
stray start k line lt fits of = elim (cases_Bool (bytes_eq (drop 65 line) (place_text start))) [
  | inl same ↦
      let is : k ≡ start =
      one_place k start fits (omega (arith, lt, fits))
      (sym of.names ∙ (bytes_eq-Decides (drop 65 line) (place_text start)).0 same) in
      absurd (omega (arith, lt, is))
  | inr other ↦ rw (of.stands, of.commits, other) refl
]

any_in : (test : List ℕ → Bool) (a : List (List ℕ)) (line : List ℕ) (b : List (List ℕ))
    → test line ≡ true → list_any test (a ++ line ∷ b) ≡ true
any_in test [] line b is = rw is refl
any_in test (x ∷ a) line b is = elim (cases_Bool (test x)) [
  | inl has ↦ rw has refl
  | inr other ↦ rw (other, any_in test a line b is) refl
]

or_true : (a b : Bool) → b ≡ true → (a || b) ≡ true
or_true true b is = refl
or_true false b is = is

torn_step : (before : List ℕ) (start : ℕ) (pending : List (List ℕ)) (once : Bool) (torn : List ℕ)
    (lines : List (List ℕ)) (last : List ℕ) → is_torn torn ≡ true
    → found_in before start pending once (torn ∷ lines) last
    ≡ found_none (is_overlong torn || list_any (is_stray start) lines)
torn_step before start pending once torn lines last is = rw is refl

told_here : (before : List ℕ) (start : ℕ) (pending : List (List ℕ)) (once : Bool) (torn : List ℕ)
    (a : List (List ℕ)) (line : List ℕ) (b : List (List ℕ)) (last : List ℕ) (k : ℕ)
    → is_torn torn ≡ true → start < k → k < 2 ^ 64 → IsOf k line
    → (found_in before start pending once (torn ∷ (a ++ line ∷ b)) last).is_damaged ≡ true
told_here before start pending once torn a line b last k is lt fits of =
    ap (λ (f : Found). f.is_damaged)
    (torn_step before start pending once torn (a ++ line ∷ b) last is)
    ∙ or_true (is_overlong torn) (list_any (is_stray start) (a ++ line ∷ b))
    (any_in (is_stray start) a line b (stray start k line lt fits of))

-- lines, one that is torn, and later a commit line that names a place behind them
told : (before : List ℕ) (start : ℕ) (pending : List (List ℕ)) (once : Bool) (lines : List (List ℕ))
    (torn : List ℕ) (a : List (List ℕ)) (line : List ℕ) (b : List (List ℕ)) (last : List ℕ)
    (at k : ℕ)
    → start + length (lines_text pending) + said once ≤ at → at + length (lines_text lines) < k
    → k < 2 ^ 64 → is_torn torn ≡ true → IsOf k line
    → (found_in before start pending once (lines ++ torn ∷ (a ++ line ∷ b)) last).is_damaged ≡ true
told before start pending once [] torn a line b last at k low high fits is of =
    told_here before start pending once torn a line b last k is (omega (arith, low, high)) fits of
told before start pending false (l ∷ lines) torn a line b last at k low high fits is of =
    let size = length-append l (10 ∷ lines_text lines) in
    elim (cases_Bool (is_torn l)) [
      | inl gone ↦
          ap (λ (ls : List (List ℕ)).
          (found_in before start pending false (l ∷ ls) last).is_damaged)
          (sym (append_assoc lines (torn ∷ a) (line ∷ b)))
          ∙ told_here before start pending false l (lines ++ torn ∷ a) line b last k gone
          (omega (arith, low, high)) fits of
      | inr stands ↦ elim (cases_Bool (is_commit l)) [
        | inl commits ↦ elim (cases_Bool (bytes_eq l (commit_line before start pending))) [
          | inl same ↦
              let long = ap length ((bytes_eq-Decides l (commit_line before start pending)).0 same)
              ∙ length-commit (before ++ lines_text pending) start in
              rw (stands, commits, same)
              (told before start pending true lines torn a line b last (at + 83) k
              (omega (arith, low)) (omega (arith, high, size, long)) fits is of)
          | inr other ↦ rw (stands, commits, other) refl
        ]
        | inr plain ↦
            let more = length-push pending l in
            rw (stands, plain) (told before start (pending ++ l ∷ []) false lines torn a line b last
            (at + length l + 1) k (omega (arith, low, more))
            (omega (arith, high, size)) fits is of)
      ]
    ]
told before start pending true (l ∷ lines) torn a line b last at k low high fits is of =
    let size = length-append l (10 ∷ lines_text lines) in
    elim (cases_Bool (is_torn l)) [
      | inl gone ↦
          ap (λ (ls : List (List ℕ)). (found_in before start pending true (l ∷ ls) last).is_damaged)
          (sym (append_assoc lines (torn ∷ a) (line ∷ b)))
          ∙ told_here before start pending true l (lines ++ torn ∷ a) line b last k gone
          (omega (arith, low, high)) fits of
      | inr stands ↦ elim (cases_Bool (bytes_eq l (commit_line before start pending))) [
        | inl same ↦
            let long = ap length ((bytes_eq-Decides l (commit_line before start pending)).0 same)
            ∙ length-commit (before ++ lines_text pending) start in
            let end = length-group before start pending in
            rw (stands, same) (told (group_sum before pending)
            (group_end before start pending) [] false lines torn a line b last (at + 83) k
            (omega (arith, low, end)) (omega (arith, high, size, long)) fits is of)
        | inr other ↦ rw (stands, other) refl
      ]
    ]

-- ---- where the zero stands

record Parted (text : List ℕ) : Type 0 where
  pub front : List ℕ
  pub back : List ℕ
  pub is : text ≡ front ++ 0 ∷ back

parted : (text : List ℕ) → is_torn text ≡ true → Parted text
parted [] torn = absurd (cc torn)
parted (b ∷ text) torn = elim (cases_Bool (is_zero b)) [
  | inl gone ↦ record {
    front = [];
    back = text;
    is = let zeroed =
        eqb-true b 0 gone in (λ i. zeroed i ∷ text);
  }
  | inr other ↦
      let rest = parted text (rw other at torn) in
      record { front = b ∷ rest.front; back = rest.back; is = ap (λ (t : List ℕ). b ∷ t) rest.is }
]

-- the lines of a text that ends by a line feed: one at least
pub record Starts (text : List ℕ) : Type 0 where
  pub line : List ℕ
  pub lines : List (List ℕ)
  pub is : whole_lines text ≡ line ∷ lines

pub starts : (lines : List (List ℕ)) (text : List ℕ) → whole_lines text ≡ lines
    → list_any is_line_feed text ≡ true → Starts text
starts [] text is has = absurd (some_lines text has is)
starts (line ∷ lines) text is has = record { line = line; lines = lines; is = is }

pub has_feed : (a b : List ℕ) → list_any is_line_feed (a ++ 10 ∷ b) ≡ true
has_feed [] b = refl
has_feed (x ∷ a) b = elim (cases_Bool (is_line_feed x)) [
  | inl has ↦ rw has refl
  | inr other ↦ rw (other, has_feed a b) refl
]

abbrev IsTold : List ℕ → List ℕ → Type 0
IsTold first text = (parsed first text).is_damaged ≡ true

-- a front, a zero, bytes up to a line feed, and a commit line of a place behind the front
told_text : (first front back line more : List ℕ) (k : ℕ) → length front < k → k < 2 ^ 64
    → IsOf k line → HasNoFeed line
    → IsTold first (front ++ 0 ∷ (back ++ 10 ∷ (line ++ 10 ∷ more)))
told_text first front back line more k short fits of whole =
    let lines = whole_lines front in
    let piece = last_piece front in
    let feeds : HasNoFeed (piece ++ 0 ∷ []) =
    none_of_both piece (0 ∷ []) (piece_has_none front) refl in
    let closed = back ++ 10 ∷ [] in
    let head = starts (whole_lines closed) closed refl (has_feed back []) in
    let all = front ++ 0 ∷ (back ++ 10 ∷ (line ++ 10 ∷ more)) in
    let rest = closed ++ (line ++ 10 ∷ more) in
    let restless : last_piece closed ≡ [] = last_piece-line back [] in
    let closes : closed ≡ lines_text (whole_lines closed) = parts closed
    ∙ ap (λ (p : List ℕ). lines_text (whole_lines closed) ++ p) restless
    ∙ append-nil (lines_text (whole_lines closed)) in
    let split : whole_lines rest ≡ head.line ∷ (head.lines ++ line ∷ whole_lines more) =
    ap (λ (t : List ℕ). whole_lines (t ++ (line ++ 10 ∷ more))) closes
    ∙ whole_lines-lines (whole_lines closed) (line ++ 10 ∷ more) (each_whole closed)
    ∙ ap (λ (ls : List (List ℕ)). ls ++ whole_lines (line ++ 10 ∷ more)) head.is
    ∙ ap (λ (ls : List (List ℕ)). head.line ∷ (head.lines ++ ls))
    (whole_lines-line line more whole) in
    let is : all ≡ lines_text lines ++ ((piece ++ 0 ∷ []) ++ rest) =
    ap (λ (t : List ℕ). t ++ 0 ∷ (back ++ 10 ∷ (line ++ 10 ∷ more))) (parts front)
    ∙ append_assoc (lines_text lines) piece (0 ∷ (back ++ 10 ∷ (line ++ 10 ∷ more)))
    ∙ ap (λ (t : List ℕ). lines_text lines ++ (piece ++ 0 ∷ t))
    (sym (append_assoc back (10 ∷ []) (line ++ 10 ∷ more)))
    ∙ ap (λ (t : List ℕ). lines_text lines ++ t) (sym (append_assoc piece (0 ∷ []) rest)) in
    let found_lines : whole_lines all
    ≡ lines ++ ((piece ++ 0 ∷ []) ++ head.line) ∷ (head.lines ++ line ∷ whole_lines more) =
    ap whole_lines is ∙ whole_lines-lines lines ((piece ++ 0 ∷ []) ++ rest) (each_whole front)
    ∙ ap (λ (ls : List (List ℕ)). lines ++ ls)
    (whole_lines-glue (piece ++ 0 ∷ []) rest feeds ∙ ap (glue (piece ++ 0 ∷ [])) split) in
    let size = ap length (parts front) ∙ length-append (lines_text lines) piece in
    ap (λ (ls : List (List ℕ)).
    (found_in first 0 [] false ls (last_piece all)).is_damaged) found_lines
    ∙ told first 0 [] false lines ((piece ++ 0 ∷ []) ++ head.line) head.lines line
    (whole_lines more) (last_piece all) 0 k (omega arith) (omega (arith, size, short)) fits
    (torn_more (piece ++ 0 ∷ []) head.line (torn_by piece [])) of

-- if a byte before a whole group is 0, the text is found as damaged, whatever follows the group
pub a_zero_is_told : (first before front more : List ℕ) (group : List (List ℕ)) → AreLines group
    → list_any is_zero front ≡ true → length front < 2 ^ 64
    → (found first (front ++ (group_text before (length front) group ++ more))).is_damaged ≡ true
a_zero_is_told first before front more group all torn fits =
    let k = length front in
    let line = commit_line before k group in
    let part = parted front torn in
    let sum_text = before ++ lines_text group in
    let of : IsOf k line =
    record {
      stands = commit_is_marked sum_text k;
      commits = refl;
      names =
          commit_place sum_text k;
    } in
    let size = ap length part.is ∙ length-append part.front (0 ∷ part.back) in
    let bytes : group_text before k group ++ more
    ≡ (lines_text group ++ line) ++ 10 ∷ (line ++ 10 ∷ more) =
    ap (λ (t : List ℕ). t ++ more) (lines_text-append group (line ∷ line ∷ []))
    ∙ append_assoc (lines_text group) (line ++ 10 ∷ (line ++ 10 ∷ [])) more
    ∙ ap (λ (t : List ℕ). lines_text group ++ t) (append_assoc line (10 ∷ (line ++ 10 ∷ [])) more)
    ∙ ap (λ (t : List ℕ). lines_text group ++ (line ++ 10 ∷ t)) (append_assoc line (10 ∷ []) more)
    ∙ sym (append_assoc (lines_text group) line (10 ∷ (line ++ 10 ∷ more))) in
    let is : front ++ (group_text before k group ++ more)
    ≡ part.front ++ 0 ∷ ((part.back ++ (lines_text group ++ line)) ++ 10 ∷
    (line ++ 10 ∷ more)) =
    ap (λ (t : List ℕ). front ++ t) bytes
    ∙ ap (λ (t : List ℕ). t ++ ((lines_text group ++ line) ++ 10 ∷ (line ++ 10 ∷ more))) part.is
    ∙ append_assoc part.front (0 ∷ part.back)
    ((lines_text group ++ line) ++ 10 ∷ (line ++ 10 ∷ more))
    ∙ ap (λ (t : List ℕ). part.front ++ 0 ∷ t)
    (sym (append_assoc part.back (lines_text group ++ line) (10 ∷ (line ++ 10 ∷ more)))) in
    damage_is_found first (front ++ (group_text before k group ++ more))
    (ap (λ (t : List ℕ). (parsed first t).is_damaged) is
    ∙ told_text first part.front (part.back ++ (lines_text group ++ line)) line more k
    (omega (arith, size)) fits of (commit_has_none sum_text k))
