-- What is left of lines of which bytes are lost.
use Rattle.std.proofs.Common.{◌≡◌, ◌⊎◌, ◌∙◌, ap, sym, refl, subst, ℕ, zero, suc, List, [], ◌∷◌, ◌++◌, slice_index, Bool, true, false, not, inl, inr, append_assoc}
use Rattle.std.proofs.lemmas.Bool.{cases_Bool, false≢true, eqb-true, and_parts}
use Rattle.std.proofs.lemmas.List.{append-nil}
use Rattle.std.proofs.lemmas.List.Folds.{list_any-append}
use Rattle.std.specs.List.{list_any}
use Rattle.journal.specs.Text.{is_line_feed, is_zero, is_torn, is_commit, lines_text}
use Rattle.journal.specs.Reading.{onto_whole, whole_lines, last_piece, stands, is_overlong, is_stray, found_none, found_in, sound}
use Rattle.journal.specs.Crashes.{Holes}
use Rattle.journal.proofs.TextLines.{HasNoFeed, AreWhole, or_false, some_lines, none_of_both, whole_lines-line, whole_lines-none, last_piece-none}

-- what is left of two texts
pub record Cut (a b left : List ℕ) : Type 0 where
  pub front : List ℕ
  pub back : List ℕ
  pub is : left ≡ front ++ back
  pub fronts : Holes a front
  pub backs : Holes b back

pub cut_holes : (a b left : List ℕ) → Holes (a ++ b) left → Cut a b left
cut_holes [] b left holes =
    record { front = []; back = left; is = refl; fronts = tt; backs = holes }
cut_holes (x ∷ a) b [] holes = absurd holes
cut_holes (x ∷ a) b (c ∷ left) holes =
    let rest = cut_holes a b left holes.1 in
    record {
      front = c ∷ rest.front;
      back = rest.back;
      is =
          ap (λ (t : List ℕ). c ∷ t) rest.is;
      fronts = (holes.0, rest.fronts);
      backs = rest.backs;
    }

pub both_holes : (a b front back : List ℕ) → Holes a front → Holes b back
    → Holes (a ++ b) (front ++ back)
both_holes [] b [] back one other = other
both_holes [] b (c ∷ front) back one other = absurd one
both_holes (x ∷ a) b [] back one other = absurd one
both_holes (x ∷ a) b (c ∷ front) back one other = (one.0, both_holes a b front back one.1 other)

-- a text of which nothing is lost
pub all_there : (text : List ℕ) → Holes text text
all_there [] = tt
all_there (b ∷ text) = (inr refl, all_there text)

-- what is left is the text, or torn
pub whole_or_torn : (text left : List ℕ) → Holes text left → (left ≡ text) ⊎ (is_torn left ≡ true)
whole_or_torn [] [] holes = inl refl
whole_or_torn [] (c ∷ left) holes = absurd holes
whole_or_torn (b ∷ text) [] holes = absurd holes
whole_or_torn (b ∷ text) (c ∷ left) holes = elim holes.0 [
  | inl lost ↦ inr (rw lost refl)
  | inr same ↦ elim (whole_or_torn text left holes.1) [
    | inl all ↦ inl ((λ i. same i ∷ left) ∙ ap (λ (t : List ℕ). b ∷ t) all)
    | inr torn ↦ elim (cases_Bool (is_zero c)) [
      | inl gone ↦ inr (rw gone refl)
      | inr other ↦ inr (rw (other, torn) refl)
    ]
  ]
]

pub left_has_none : (text left : List ℕ) → HasNoFeed text → Holes text left → HasNoFeed left
left_has_none [] [] e holes = refl
left_has_none [] (c ∷ left) e holes = absurd holes
left_has_none (b ∷ text) [] e holes = absurd holes
left_has_none (b ∷ text) (c ∷ left) e holes =
    let both = or_false (is_line_feed b) (list_any is_line_feed text) e in
    elim holes.0 [
      | inl lost ↦ rw (lost, left_has_none text left both.1 holes.1) refl
      | inr same ↦ rw (same, both.0, left_has_none text left both.1 holes.1) refl
    ]

pub torn_more : (a b : List ℕ) → is_torn a ≡ true → is_torn (a ++ b) ≡ true
torn_more a b torn = list_any-append is_zero a b ∙ rw torn refl

-- a text with a byte of 0 is torn
pub torn_by : (a b : List ℕ) → is_torn (a ++ 0 ∷ b) ≡ true
torn_by [] b = refl
torn_by (x ∷ a) b = elim (cases_Bool (is_zero x)) [
  | inl gone ↦ rw gone refl
  | inr other ↦ rw (other, torn_by a b) refl
]

-- ---- a line whose line feed is lost goes on into the next

abbrev pub glue : List ℕ → List (List ℕ) → List (List ℕ)
glue front [] = []
glue front (line ∷ lines) = (front ++ line) ∷ lines

onto_glue : (byte : ℕ) (front : List ℕ) (lines : List (List ℕ))
    → onto_whole byte (glue front lines) ≡ glue (byte ∷ front) lines
onto_glue byte front [] = refl
onto_glue byte front (line ∷ lines) = refl

glue_none : (lines : List (List ℕ)) → glue [] lines ≡ lines
glue_none [] = refl
glue_none (line ∷ lines) = refl

pub whole_lines-glue : (front back : List ℕ) → HasNoFeed front
    → whole_lines (front ++ back) ≡ glue front (whole_lines back)
whole_lines-glue [] back e = sym (glue_none (whole_lines back))
whole_lines-glue (b ∷ front) back e =
    let both = or_false (is_line_feed b) (list_any is_line_feed front) e in
    rw both.0 (ap (onto_whole b) (whole_lines-glue front back both.1)
    ∙ onto_glue b front (whole_lines back))

-- ---- which lines are calm damage

pub torn_is_not_stray : (start : ℕ) (line : List ℕ) → is_torn line ≡ true
    → is_stray start line ≡ false
torn_is_not_stray start line torn = rw torn refl

left_is_not_stray : (start : ℕ) (line left : List ℕ) → is_stray start line ≡ false → Holes line left
    → is_stray start left ≡ false
left_is_not_stray start line left calm holes = elim (whole_or_torn line left holes) [
  | inl same ↦ ap (is_stray start) same ∙ calm
  | inr torn ↦ torn_is_not_stray start left torn
]

glued_none : (start : ℕ) (front : List ℕ) (lines : List (List ℕ)) → is_torn front ≡ true
    → list_any (is_stray start) lines ≡ false → list_any (is_stray start) (glue front lines) ≡ false
glued_none start front [] torn calm = refl
glued_none start front (line ∷ lines) torn calm =
    rw (
      torn_is_not_stray start (front ++ line) (torn_more front line torn),
      (or_false (is_stray start line) (list_any (is_stray start) lines) calm).1,
    ) refl

stray_step : (start : ℕ) (line rest front back : List ℕ) → HasNoFeed line
    → is_stray start line ≡ false
    → ((left : List ℕ) → Holes rest left → list_any (is_stray start) (whole_lines left) ≡ false)
    → Holes line front → Holes (10 ∷ rest) back
    → list_any (is_stray start) (whole_lines (front ++ back)) ≡ false
stray_step start line rest front [] whole calm later fronts backs = absurd backs
stray_step start line rest front (c ∷ back) whole calm later fronts backs = elim backs.0 [
  | inl lost ↦
      let lines = whole_lines-glue (front ++ 0 ∷ []) back
      (none_of_both front (0 ∷ []) (left_has_none line front whole fronts) refl) in
      rw lost (ap (λ (t : List ℕ). list_any (is_stray start) (whole_lines t))
      (sym (append_assoc front (0 ∷ []) back)) ∙ ap (list_any (is_stray start)) lines
      ∙ glued_none start (front ++ 0 ∷ []) (whole_lines back) (torn_by front [])
      (later back backs.1))
  | inr feed ↦
      rw feed (ap (list_any (is_stray start))
      (whole_lines-line front back (left_has_none line front whole fronts))
      ∙ rw (left_is_not_stray start line front calm fronts, later back backs.1) refl)
]

-- lines of which bytes are lost have calm stray line where they had none
pub none_stray : (start : ℕ) (lines : List (List ℕ)) (piece left : List ℕ) → AreWhole lines
    → HasNoFeed piece → list_any (is_stray start) lines ≡ false
    → Holes (lines_text lines ++ piece) left → list_any (is_stray start) (whole_lines left) ≡ false
none_stray start [] piece left all none calm holes =
    ap (list_any (is_stray start)) (whole_lines-none left (left_has_none piece left none holes))
none_stray start (line ∷ lines) piece left all none calm holes =
    let both = or_false (is_stray start line) (list_any (is_stray start) lines) calm in
    let cut = cut_holes line (10 ∷ (lines_text lines ++ piece)) left
    (subst (λ (t : List ℕ). Holes t left)
    (append_assoc line (10 ∷ lines_text lines) piece) holes) in
    ap (λ (t : List ℕ). list_any (is_stray start) (whole_lines t)) cut.is
    ∙ stray_step start line (lines_text lines ++ piece) cut.front cut.back all.0 both.0
    (λ later. none_stray start lines piece later all.1 none both.1) cut.fronts cut.backs

-- ---- which pieces are calm damage

nothing_stands : (n : ℕ) (piece : List ℕ) → is_zero (slice_index piece 0) ≡ true
    → stands (suc n) piece ≡ false
nothing_stands n [] gone = refl
nothing_stands n (b ∷ piece) gone = rw gone refl

-- what stands of a text of which bytes are lost stood before
stood : (n : ℕ) (text left more : List ℕ) → Holes text left → is_zero (slice_index more 0) ≡ true
    → stands n (left ++ more) ≡ true → stands n text ≡ true
stood zero text left more holes ends now = refl
stood (suc n) [] [] more holes ends now =
    absurd (false≢true (sym (nothing_stands n more ends) ∙ now))
stood (suc n) [] (c ∷ left) more holes ends now = absurd holes
stood (suc n) (b ∷ text) [] more holes ends now = absurd holes
stood (suc n) (b ∷ text) (c ∷ left) more holes ends now =
    let both = and_parts (not (is_zero c)) (stands n (left ++ more)) now in
    elim holes.0 [
      | inl lost ↦ absurd (cc (rw lost at both.0))
      | inr same ↦ rw (rw same at both.0, stood n text left more holes.1 ends both.1) refl
    ]

commit_before : (text left more : List ℕ) → Holes text left → is_zero (slice_index more 0) ≡ true
    → is_commit (left ++ more) ≡ true → is_commit text ≡ true
commit_before [] [] [] holes ends commits = cc commits
commit_before [] [] (c ∷ more) holes ends commits =
    absurd (cc (eqb-true c 35 commits, eqb-true c 0 ends))
commit_before [] (c ∷ left) more holes ends commits = absurd holes
commit_before (b ∷ text) [] more holes ends commits = absurd holes
commit_before (b ∷ text) (c ∷ left) more holes ends commits = elim holes.0 [
  | inl lost ↦ absurd (cc (rw lost at commits))
  | inr same ↦ rw same at commits
]

-- so a piece that was not overlong isn't so now
pub not_overlong : (text left more : List ℕ) → Holes text left → is_zero (slice_index more 0) ≡ true
    → is_overlong text ≡ false → is_overlong (left ++ more) ≡ false
not_overlong text left more holes ends short = elim (cases_Bool (is_overlong (left ++ more))) [
  | inl long ↦
      let both = and_parts (is_commit (left ++ more)) (stands 83 (left ++ more)) long in
      let was : is_overlong text ≡ true =
      rw (
        commit_before text left more holes ends both.0,
        stood 83 text left more holes ends
            both.1,
      ) refl in
      absurd (false≢true (sym short ∙ was))
  | inr other ↦ other
]

-- ---- a line of which a byte is lost, or its line feed, ends what is read

no_lines : (text : List ℕ) → whole_lines text ≡ [] → HasNoFeed text
no_lines text none = elim (cases_Bool (list_any is_line_feed text)) [
  | inl some ↦ absurd (some_lines text some none)
  | inr other ↦ other
]

glued : (before : List ℕ) (start : ℕ) (pending : List (List ℕ)) (once : Bool) (front : List ℕ)
    (lines : List (List ℕ)) (text : List ℕ)
    → whole_lines text ≡ lines → is_torn front ≡ true
    → ((more : List ℕ) → is_overlong (front ++ more) ≡ false)
    → list_any (is_stray start) lines ≡ false → HasNoFeed front
    → found_in before start pending once (glue front lines) (last_piece (front ++ text)) ≡ sound []
glued before start pending once front [] text is torn short calm whole =
    let none : HasNoFeed text = no_lines text is in
    ap (λ (p : List ℕ). found_none (is_overlong p))
    (last_piece-none (front ++ text) (none_of_both front text whole none))
    ∙ ap found_none (short text)
glued before start pending once front (line ∷ lines) text is torn short calm whole =
    rw (
      torn_more front line torn,
      short line,
      (or_false (is_stray start line) (list_any (is_stray start) lines) calm).1,
    ) refl

-- a torn line
torn_line : (before : List ℕ) (start : ℕ) (pending : List (List ℕ)) (once : Bool) (line : List ℕ)
    (lines : List (List ℕ)) (piece : List ℕ)
    → is_torn line ≡ true → is_overlong line ≡ false → list_any (is_stray start) lines ≡ false
    → found_in before start pending once (line ∷ lines) piece ≡ sound []
torn_line before start pending once line lines piece torn short calm = rw (torn, short, calm) refl

pub ends_here : (before : List ℕ) (start : ℕ) (pending : List (List ℕ)) (once : Bool)
    (line : List ℕ) (lines : List (List ℕ)) (piece front back : List ℕ)
    → HasNoFeed line → AreWhole lines → HasNoFeed piece → is_overlong line ≡ false
    → list_any (is_stray start) lines ≡ false
    → Holes line front → Holes (lines_text lines ++ piece) back → (c : ℕ)
    → (c ≡ 0) ⊎ ((c ≡ 10) × (is_torn front ≡ true))
    → found_in before start pending once (whole_lines (front ++ c ∷ back))
    (last_piece (front ++ c ∷ back)) ≡ sound []
ends_here before start pending once line lines piece front back whole all none short calm fronts
    backs c which = elim which [
      | inl lost ↦
          let feeds = none_of_both front (0 ∷ []) (left_has_none line front whole fronts) refl in
          let texts : front ++ c ∷ back ≡ (front ++ 0 ∷ []) ++ back =
          rw lost (sym (append_assoc front (0 ∷ []) back)) in
          ap (λ (t : List ℕ). found_in before start pending once
          (whole_lines t) (last_piece t)) texts
          ∙ ap (λ (ls : List (List ℕ)). found_in before start pending once ls
          (last_piece ((front ++ 0 ∷ []) ++ back))) (whole_lines-glue (front ++ 0 ∷ []) back feeds)
          ∙ glued before start pending once (front ++ 0 ∷ []) (whole_lines back) back refl
          (torn_by front [])
          (λ more. ap is_overlong (append_assoc front (0 ∷ []) more)
          ∙ not_overlong line front (0 ∷ more) fronts refl short)
          (none_stray start lines piece back all none calm backs) feeds
      | inr feed ↦
          let texts : front ++ c ∷ back ≡ front ++ 10 ∷ back =
          ap (λ (b : ℕ). front ++ b ∷ back) feed.0 in
          ap (λ (t : List ℕ). found_in before start pending once
          (whole_lines t) (last_piece t)) texts
          ∙ ap (λ (ls : List (List ℕ)). found_in before start pending once ls
          (last_piece (front ++ 10 ∷ back)))
          (whole_lines-line front back (left_has_none line front whole fronts))
          ∙ torn_line before start pending once front (whole_lines back)
          (last_piece (front ++ 10 ∷ back)) feed.1
          (ap is_overlong (sym (append-nil front)) ∙ not_overlong line front [] fronts refl short)
          (none_stray start lines piece back all none calm backs)
    ]
