-- How a head is read.
use Rattle.std.proofs.Common.{◌≡◌, ◌∙◌, ap, sym, refl, ℕ, ◌+◌, ◌-◌, ◌*◌, ◌<◌, ◌≤◌, min, List, [], ◌∷◌, length, take, drop, replicate, slice_index, get_or, Bool, true, false, inl, inr, bytes_eq, Option, Some, subst, Result, Ok, Err, arith, length-drop, get_or-take, get_or-drop}
use Rattle.std.specs.List.{list_any}
use Rattle.std.specs.Prelude.{IfOk, IfSome, IsErrAnd}
use Rattle.std.proofs.lemmas.Bool.{cases_Bool, cases_lt, true≢false}
use Rattle.std.proofs.lemmas.List.{length-take, length-take-le, take-take, drop_more, take_all}
use Rattle.std.proofs.lemmas.Slice.Eq.{bytes_eq-Decides}
use Rattle.journal.specs.Head.{first_line, old_line, is_first_line, marks_of, selector_of, is_other, is_there, pairs, IsHead, IsHeaded}
use Rattle.journal.proofs.Fronts.{take_front}
use Rattle.journal.proofs.Pairs.{none_there, all_zeros}
use Rattle.journal.proofs.FileHeads.{head_same}

pub feed_from : (head : List ℕ) → length head ≡ 4096 → slice_index head 4095 ≡ 10
    → take 1 (drop 4095 head) ≡ 10 ∷ []
feed_from head size is =
    ap (take 1) (drop_more head 4095 0 (omega (arith, size)))
    ∙ ap (λ (b : ℕ). b ∷ []) is

pub feed_to : (head : List ℕ) → take 1 (drop 4095 head) ≡ 10 ∷ [] → slice_index head 4095 ≡ 10
feed_to head is =
    sym (get_or-take 1 (drop 4095 head) 0 0 (omega arith) ∙ get_or-drop 4095 head 0 0)
    ∙ ap (λ (t : List ℕ). get_or t 0 0) is

pub long_enough : (head : List ℕ) → take 1 (drop 4095 head) ≡ 10 ∷ [] → 4096 ≤ length head
long_enough head is =
    let size = ap length is in
    let some = length-take 1 (drop 4095 head) in
    let here = length-drop 4095 head in
    omega (arith, size, some, here)

no_line : (head line : List ℕ) → length line ≡ 17 → length head < 17
    → bytes_eq (take 17 head) line ≡ false
no_line head line long short = elim (cases_Bool (bytes_eq (take 17 head) line)) [
  | inl same ↦ absurd (omega (
    arith,
    short,
    long,
    ap length ((bytes_eq-Decides (take 17 head) line).0 same),
    length-take 17 head,
  ))
  | inr other ↦ other
]

pub no_first_line : (head : List ℕ) → length head < 17
    → bytes_eq (take 17 head) first_line ≡ false
no_first_line head short = no_line head first_line refl short

pub no_old_line : (head : List ℕ) → length head < 17
    → bytes_eq (take 17 head) old_line ≡ false
no_old_line head short = no_line head old_line refl short

-- the first bytes of a file
pub front_of : (file block : List ℕ) (size count : ℕ) → size ≡ length file → count ≡ min size 4096
    → block ≡ take count file → take 4096 block ≡ take 4096 file
front_of file block size count is less are =
    let rest : take 4096 (take count file) ≡ take 4096 file = elim (cases_lt 4096 size) [
      | inl more ↦ take-take 4096 count file (omega (arith, less, more))
      | inr few ↦ ap (take 4096) (take_all count file (omega (arith, is, less, few)))
    ] in
    ap (take 4096) are ∙ rest

pub is_first : (head : List ℕ) (found : Bool) → found ≡ is_first_line (take 17 head)
    → found ≡ true → is_first_line (take 17 head) ≡ true
is_first head found is same = sym is ∙ same

-- a byte behind the pairs that count
pub no_byte : (head : List ℕ) (size steps k : ℕ) (has : Bool) → k ≡ pairs (marks_of head)
    → has ≡ list_any is_there (drop (2 * k) (marks_of head)) → has ≡ true
    → IsHead head size steps → ⊥
no_byte head size steps k has count is there known =
    let same : k ≡ steps = count ∙ known.count in
    true≢false (sym there ∙ is
    ∙ ap (λ (n : ℕ). list_any is_there (drop (2 * n) (marks_of head))) same
    ∙ ap (list_any is_there) known.later ∙ none_there (4074 - 2 * steps))

-- more is counted than stands there
pub too_short : (head : List ℕ) (size steps k end : ℕ) → k ≡ pairs (marks_of head)
    → end ≡ 4096 + 1048576 * k → size < end → IsHead head size steps → ⊥
too_short head size steps k end count is past known =
    let same : k ≡ steps = count ∙ known.count in
    let fits = known.fits in
    omega (arith, same, fits, is, past)

later_zeros : (head : List ℕ) (k : ℕ) → length head ≡ 4096
    → list_any is_there (drop (2 * k) (marks_of head)) ≡ false
    → drop (2 * k) (marks_of head) ≡ replicate (4074 - 2 * k) 0
later_zeros head k size none =
    let marks = marks_of head in
    let back = length-drop 17 head in
    let long : length marks ≡ 4074 =
    length-take-le 4074 (drop 17 head) (omega (arith, back, size)) in
    all_zeros (drop (2 * k) marks) none
    ∙ ap (λ (n : ℕ). replicate {A = ℕ} n 0) (length-drop (2 * k) marks
    ∙ ap (λ (n : ℕ). n - 2 * k) long)

pub gap_from : (head : List ℕ) → length head ≡ 4096 → slice_index head 4094 ≡ 0
    → take 1 (drop 4094 head) ≡ 0 ∷ []
gap_from head size is =
    ap (take 1) (drop_more head 4094 0 (omega (arith, size)))
    ∙ ap (λ (b : ℕ). b ∷ []) is

pub gap_to : (head : List ℕ) → take 1 (drop 4094 head) ≡ 0 ∷ [] → slice_index head 4094 ≡ 0
gap_to head is =
    sym (get_or-take 1 (drop 4094 head) 0 0 (omega arith) ∙ get_or-drop 4094 head 0 0)
    ∙ ap (λ (t : List ℕ). get_or t 0 0) is

-- what was read of a head
pub record WasRead (head : List ℕ) (k : ℕ) : Type 0 where
  pub long : length head ≡ 4096
  pub line : is_first_line (take 17 head) ≡ true
  pub marks : list_any is_other (marks_of head) ≡ false
  pub selector : list_any is_other (selector_of head) ≡ false
  pub count : k ≡ pairs (marks_of head)
  pub later : list_any is_there (drop (2 * k) (marks_of head)) ≡ false
  pub gap : slice_index head 4094 ≡ 0
  pub feed : slice_index head 4095 ≡ 10

pub read_is_head : (head : List ℕ) (size k end : ℕ) → WasRead head k
    → end ≡ 4096 + 1048576 * k → end ≤ size → IsHead head size k
read_is_head head size k end read is fits =
    record {
      line = read.line;
      marks = read.marks;
      count = sym read.count;
      later = later_zeros head k read.long read.later;
      selector = read.selector;
      gap = gap_from head read.long read.gap;
      feed = feed_from head read.long read.feed;
      fits = omega (arith, is, fits);
    }

-- ---- the head that was read is that of the file

module _ (file block : List ℕ) (size count : ℕ) (is : size ≡ length file)
    (less : count ≡ min size 4096) (are : block ≡ take count file) where
  same_front : take 4096 block ≡ take 4096 file
  same_front = front_of file block size count is less are

  same_line : take 17 file ≡ take 17 block
  same_line = take_front file block 17 4096 (omega arith) (sym same_front)

  pub file_headed : (steps : ℕ) → IsHead block size steps → IsHeaded file steps
  file_headed steps head =
      head_same block file size (length file) steps same_front (omega (arith, is)) head

  pub file_damaged : (is_first_line (take 17 block) ≡ true)
      × ((steps : ℕ) → IsHead block size steps → ⊥)
      → (is_first_line (take 17 file) ≡ true) × ((steps : ℕ) → IsHeaded file steps → ⊥)
  file_damaged told = (
    ap is_first_line same_line ∙ told.0,
    λ steps head. told.1 steps
        (head_same file block (length file) size steps (sym same_front) (omega (arith, is)) head),
  )

  pub file_other : is_first_line (take 17 block) ≡ false
      → is_first_line (take 17 file) ≡ false
  file_other other = ap is_first_line same_line ∙ other

pub all_of : (file block : List ℕ) (size : ℕ) → size ≡ length file → block ≡ take size file
    → block ≡ file
all_of file block size is are = are ∙ take_all size file (omega (arith, is))

-- ---- results

pub found_some : {E : Type 0} (P : ℕ → Type 0) (result : Result (Option ℕ) E) (found : Option ℕ)
    (steps : ℕ) → result ≡ Ok found → found ≡ Some steps
    → IfOk result (λ found. IfSome found P) → P steps
found_some {E} P result found steps is some told =
    subst (λ (o : Option ℕ). IfSome o P) some
    (subst (λ (r : Result (Option ℕ) E). IfOk r (λ found. IfSome found P)) is told)

-- an error that was passed on
pub same_error : {T U E : Type 0} (inner : Result T E) (outer : Result U E) (error told : E)
    → inner ≡ Err error → IsErrAnd outer (λ other. other ≡ error) → outer ≡ Err told
    → inner ≡ Err told
same_error inner (Ok x) error told is passed out = absurd passed
same_error inner (Err other) error told is passed out =
    let same : other ≡ told = cc out in is ∙ ap Err (sym passed ∙ same)
