-- Zeros behind a file.
use Rattle.std.proofs.Common.{◌≡◌, ◌∙◌, ap, sym, refl, ℕ, zero, suc, ◌+◌, ◌<◌, List, [], ◌∷◌, ◌++◌, length, replicate, Bool, true, false, ◌&&◌, ◌||◌, not, inl, inr, bytes_eq, Result, Ok, Err, arith, append_assoc, length-append}
use Rattle.std.specs.Prelude.{OnOk, IfErr}
use Rattle.std.proofs.lemmas.Bool.{cases_Bool}
use Rattle.std.proofs.lemmas.List.Folds.{list_any-append}
use Rattle.std.proofs.lemmas.List.{append-nil, replicate-append-replicate, length-replicate}
use Rattle.journal.specs.Text.{is_zero, is_torn, is_commit, is_noise, has_noise, lines_text, group_sum, group_end, commit_line, journal_text}
use Rattle.journal.specs.Reading.{whole_lines, last_piece, stands, is_overlong, found_none, with_group, found_in, parsed, found, sound}
use Rattle.journal.specs.Crashes.{Only}
use Rattle.journal.specs.Groups.{HasGroups}
use Rattle.journal.specs.Growth.{Longer, ZerosChangeNothing}
use Rattle.journal.proofs.TextLines.{HasNoFeed, none_of_both, whole_lines-none, last_piece-none, whole_lines-lines, last_piece-lines, parts, each_whole, piece_has_none}
use Rattle.journal.proofs.Groups.{zeros_have_none, zeros_are_short}
use Rattle.journal.proofs.Clear.{or_none, zeros_are_clear, found_alike}
use Rattle.journal.proofs.Noise.{what_is_written_is_read}

-- no zero stands for a byte of a commit line
stands_zeros : (n : ℕ) (piece : List ℕ) (count : ℕ)
    → stands n (piece ++ replicate count 0) ≡ stands n piece
stands_zeros zero piece count = refl
stands_zeros (suc n) [] zero = refl
stands_zeros (suc n) [] (suc count) = refl
stands_zeros (suc n) (byte ∷ piece) count =
    ap (λ (b : Bool). not (is_zero byte) && b) (stands_zeros n piece count)

overlong_zeros : (piece : List ℕ) (count : ℕ)
    → is_overlong (piece ++ replicate count 0) ≡ is_overlong piece
overlong_zeros [] count = zeros_are_short count
overlong_zeros (byte ∷ piece) count =
    ap (λ (b : Bool). is_commit (byte ∷ piece) && b) (stands_zeros 83 (byte ∷ piece) count)

-- what is found rests on this alone of the last piece
same_last : (before : List ℕ) (start : ℕ) (pending : List (List ℕ)) (once : Bool)
    (lines : List (List ℕ)) (a b : List ℕ) → is_overlong a ≡ is_overlong b
    → found_in before start pending once lines a ≡ found_in before start pending once lines b
same_last before start pending once [] a b same = ap found_none same
same_last before start pending false (line ∷ lines) a b same = elim (cases_Bool (is_torn line)) [
  | inl torn ↦ rw torn refl
  | inr whole ↦ elim (cases_Bool (is_commit line)) [
    | inl commits ↦ elim (cases_Bool (bytes_eq line (commit_line before start pending))) [
      | inl is ↦ rw (whole, commits, is) (same_last before start pending true lines a b same)
      | inr other ↦ rw (whole, commits, other) refl
    ]
    | inr plain ↦ rw (whole, plain)
        (same_last before start (pending ++ line ∷ []) false lines a b same)
  ]
]
same_last before start pending true (line ∷ lines) a b same = elim (cases_Bool (is_torn line)) [
  | inl torn ↦ rw torn refl
  | inr whole ↦ elim (cases_Bool (bytes_eq line (commit_line before start pending))) [
    | inl is ↦ rw (whole, is) (ap (with_group pending)
        (same_last (group_sum before pending) (group_end before start pending) [] false
        lines a b same))
    | inr other ↦ rw (whole, other) refl
  ]
]

-- zeros end no line
found_zeros : (first text : List ℕ) (count : ℕ)
    → parsed first (text ++ replicate count 0) ≡ parsed first text
found_zeros first text count =
    let lines = whole_lines text in
    let piece = last_piece text in
    let zeros = replicate count 0 in
    let none : HasNoFeed (piece ++ zeros) =
    none_of_both piece zeros (piece_has_none text) (zeros_have_none count) in
    let is : text ++ zeros ≡ lines_text lines ++ (piece ++ zeros) =
    ap (λ (t : List ℕ). t ++ zeros) (parts text) ∙ append_assoc (lines_text lines) piece zeros in
    let all : whole_lines (text ++ zeros) ≡ lines = ap whole_lines is
    ∙ whole_lines-lines lines (piece ++ zeros) (each_whole text)
    ∙ ap (λ (ls : List (List ℕ)). lines ++ ls) (whole_lines-none (piece ++ zeros) none)
    ∙ append-nil lines in
    let last : last_piece (text ++ zeros) ≡ piece ++ zeros = ap last_piece is
    ∙ last_piece-lines lines (piece ++ zeros) ∙ last_piece-none (piece ++ zeros) none in
    ap (λ (ls : List (List ℕ)). found_in first 0 [] false ls (last_piece (text ++ zeros))) all
    ∙ ap (λ (p : List ℕ). found_in first 0 [] false lines p) last
    ∙ same_last first 0 [] false lines (piece ++ zeros) piece (overlong_zeros piece count)

-- what is found in a text is found in it with zeros behind it, and nothing else
pub zeros_change_nothing : ZerosChangeNothing
zeros_change_nothing first text longer more =
    ap (found first) more.1
    ∙ found_alike first (text ++ replicate more.0 0) text
    (list_any-append is_noise text (replicate more.0 0)
    ∙ ap (λ (b : Bool). has_noise text || b) (zeros_are_clear more.0)
    ∙ or_none (has_noise text))
    (found_zeros first text more.0)

-- ---- a journal whose file was made larger

module _ (text : List ℕ) (outcomes : List ℕ → Type 0) (last : List ℕ) (end : ℕ) (first : List ℕ)
    (groups : List (List (List ℕ))) (has : HasGroups text outcomes last end first groups) where
  pub still_read : (c : List ℕ) → Longer text c → found first c ≡ sound groups
  still_read c longer = zeros_change_nothing first text c longer ∙ ap (found first) has.file
      ∙ what_is_written_is_read first groups has.room has.each

  pub has_more_room : (longer : List ℕ) (left : List ℕ → Type 0) → Longer text longer
      → Only longer left → HasGroups longer left last end first groups
  has_more_room longer left more only = record {
    room = has.room + more.0;
    each = has.each;
    file = more.1 ∙ ap (λ (t : List ℕ). t ++ replicate more.0 0) has.file
        ∙ append_assoc (journal_text first groups) (replicate has.room 0) (replicate more.0 0)
        ∙ ap (λ (t : List ℕ). journal_text first groups ++ t)
        (replicate-append-replicate has.room more.0 0);
    sum = has.sum;
    ends = has.ends;
    durable = only;
  }

  pub has_as_before : (now : List ℕ) (left : List ℕ → Type 0) → now ≡ text
      → ((c : List ℕ) → left c → outcomes c) → HasGroups now left last end first groups
  has_as_before now left same fewer = record {
    room = has.room;
    each = has.each;
    file = same ∙ has.file;
    sum = has.sum;
    ends = has.ends;
    durable = λ c may. has.durable c (fewer c may) ∙ sym same;
  }

pub is_larger : (text longer : List ℕ) → (count : ℕ) × (0 < count)
    × (longer ≡ text ++ replicate count 0) → length text < length longer
is_larger text longer more =
    let size = ap length more.2 in
    let both = length-append text (replicate more.0 0) in
    let zeros = length-replicate {A = ℕ} more.0 0 in
    omega (arith, more.1, size, both, zeros)

-- ---- a result that is handed on

pub on_ok : {T E : Type 0} {P Q : Type 0} (result : Result T E) → (P → Q) → OnOk result P
    → OnOk result Q
on_ok (Ok x) f p = f p
on_ok (Err e) f p = tt

pub on_both : {T E : Type 0} {P Q R : Type 0} (result : Result T E) → (P → Q → R)
    → OnOk result P → OnOk result Q → OnOk result R
on_both (Ok x) f p q = f p q
on_both (Err e) f p q = tt

pub on_err : {T E : Type 0} {P Q : E → Type 0} (result : Result T E) → ((e : E) → P e → Q e)
    → IfErr result P → IfErr result Q
on_err (Ok x) f p = tt
on_err (Err e) f p = f e p
