-- A file that grows by a step.
use Rattle.std.proofs.Common.{◌≡◌, ◌⊎◌, ◌∙◌, ap, sym, refl, subst, ℕ, ◌+◌, ◌-◌, ◌*◌, ◌<◌, ◌≤◌, List, [], ◌∷◌, ◌++◌, length, take, drop, replicate, slice_index, Bool, true, false, ◌||◌, inl, inr, arith, length-drop}
use Rattle.std.specs.List.{list_any}
use Rattle.std.proofs.lemmas.Bool.{cases_Bool}
use Rattle.std.proofs.lemmas.List.{length-take, length-replicate, take-append-drop, drop-drop, drop-replicate}
use Rattle.std.proofs.lemmas.List.Folds.{list_any-append}
use Rattle.std.proofs.Math.Seq.{take-add}
use Rattle.sqlite_disk.specs.Disk.{Holds, Torn}
use Rattle.journal.specs.Crashes.{written}
use Rattle.journal.proofs.TextLines.{or_false}
use Rattle.journal.specs.Head.{is_first_line, marks_of, is_other, is_pair, pairs, believed, IsHeaded}
use Rattle.journal.proofs.Fronts.{written_front, written_behind, written_within, written_after}
use Rattle.journal.proofs.Pairs.{pairs_zeros, pairs_put, pairs_stop}
use Rattle.journal.proofs.FileHeads.{believed_is, torn_behind}
use Rattle.journal.proofs.Writing.{is_written, length-middle, holds_take}

-- ---- the next pair of marks

module _ (file : List ℕ) (k : ℕ) (head : IsHeaded file k) (less : k < 2037) (a b : ℕ) where
  abbrev marked : List ℕ
  marked = written (17 + 2 * k) (a ∷ b ∷ []) file

  abbrev marks : List ℕ
  marks = marks_of file

  inside : 17 + 2 * k ≤ length file
  inside = let fits = head.fits in omega (arith, fits, less)

  room : 2 * k + 2 ≤ length marks
  room = let fits = head.fits in let some = length-take 4074 (drop 17 file) in let here =
      length-drop 17 file in omega (arith, fits, less, some, here)

  new_marks : marks_of marked ≡ written (2 * k) (a ∷ b ∷ []) marks
  new_marks = ap (take 4074) (written_behind 17 (2 * k) (a ∷ b ∷ []) file inside)
      ∙ written_within 4074 (2 * k) (a ∷ b ∷ []) (drop 17 file) room

  zeros_later : drop (2 * k + 2) marks ≡ replicate (4074 - 2 * k - 2) 0
  zeros_later = sym (drop-drop 2 (2 * k) marks) ∙ ap (drop 2) head.later
      ∙ drop-replicate 2 (4074 - 2 * k) 0

  pub one_more : is_pair a b ≡ true → pairs (marks_of marked) ≡ k + 1
  one_more is = ap pairs new_marks
      ∙ pairs_put k marks a b (drop (2 * k + 2) marks) head.count is
      (ap pairs zeros_later ∙ pairs_zeros (4074 - 2 * k - 2))

  pub no_more : is_pair a b ≡ false → pairs (marks_of marked) ≡ k
  no_more is = ap pairs new_marks
      ∙ pairs_stop k marks a b (drop (2 * k + 2) marks) head.count is

  pub same_behind : drop 4096 marked ≡ drop 4096 file
  same_behind = written_after (17 + 2 * k) 4096 (a ∷ b ∷ []) file inside (omega (arith, less))

  later_is : drop (2 * (k + 1)) (marks_of marked) ≡ replicate (4074 - 2 * (k + 1)) 0
  later_is =
      let next : 2 * (k + 1) ≡ 2 * k + 2 = omega arith in
      let left : 4074 - 2 * k - 2 ≡ 4074 - 2 * (k + 1) = omega arith in
      ap (drop (2 * (k + 1))) new_marks
      ∙ written_after (2 * k) (2 * (k + 1)) (a ∷ b ∷ []) marks
      (let fits = room in omega (arith, fits)) (omega arith)
      ∙ ap (λ (n : ℕ). drop n marks) next
      ∙ zeros_later
      ∙ ap (λ (n : ℕ). replicate n 0) left

  part_of : (n : ℕ) → (list_any is_other (take n marks) || list_any is_other (drop n marks)) ≡ false
  part_of n = sym (list_any-append is_other (take n marks) (drop n marks))
      ∙ ap (list_any is_other) (take-append-drop n marks) ∙ head.marks

  no_other : is_other a ≡ false → is_other b ≡ false
      → list_any is_other (written (2 * k) (a ∷ b ∷ []) marks) ≡ false
  no_other one other =
      let front = (or_false _ _ (part_of (2 * k))).0 in
      let back = (or_false _ _ (part_of (2 * k + 2))).1 in
      list_any-append is_other (take (2 * k) marks) (a ∷ b ∷ drop (2 * k + 2) marks)
      ∙ ap (λ (t : Bool). t || list_any is_other (a ∷ b ∷ drop (2 * k + 2) marks)) front
      ∙ ap (λ (t : Bool). t || list_any is_other (b ∷ drop (2 * k + 2) marks)) one
      ∙ ap (λ (t : Bool). t || list_any is_other (drop (2 * k + 2) marks)) other
      ∙ back

  later_part : (at count : ℕ) (new : List ℕ) → new ≡ marked → 4091 ≤ at
      → take count (drop at new) ≡ take count (drop at file)
  later_part at count new is behind = ap (λ (t : List ℕ). take count (drop at t)) is
      ∙ ap (take count) (written_after (17 + 2 * k) at (a ∷ b ∷ []) file inside
      (omega (arith, less, behind)))

  pub is_marked : (new : List ℕ) → new ≡ marked → length new ≡ length file
      → 4096 + 1048576 * (k + 1) ≤ length file → is_pair a b ≡ true
      → is_other a ≡ false → is_other b ≡ false → IsHeaded new (k + 1)
  is_marked new is size long pair one other = record {
    line = ap is_first_line (ap (take 17) is
        ∙ written_front 17 (17 + 2 * k) (a ∷ b ∷ []) file (omega arith) inside)
        ∙ head.line;
    marks = ap (list_any is_other) (ap marks_of is ∙ new_marks) ∙ no_other one other;
    count = ap (λ (t : List ℕ). pairs (marks_of t)) is ∙ one_more pair;
    later = ap (λ (t : List ℕ). drop (2 * (k + 1)) (marks_of t)) is ∙ later_is;
    selector = ap (list_any is_other) (later_part 4091 3 new is (omega arith)) ∙ head.selector;
    gap = later_part 4094 1 new is (omega arith) ∙ head.gap;
    feed = later_part 4095 1 new is (omega arith) ∙ head.feed;
    fits = omega (arith, size, long);
  }

-- ---- what a crash leaves of the marks

pair_of : (bytes : List ℕ) → length bytes ≡ 2 → (a : ℕ) × (b : ℕ) × (bytes ≡ a ∷ b ∷ [])
pair_of [] size = absurd (omega (arith, size))
pair_of (a ∷ []) size = absurd (omega (arith, size))
pair_of (a ∷ b ∷ []) size = (a, b, refl)
pair_of (a ∷ b ∷ c ∷ bytes) size = absurd (omega (arith, size))

pub marks_leave : (file c : List ℕ) (k : ℕ) → IsHeaded file k → k < 2037
    → Torn (17 + 2 * k) 2 file c
    → (believed c ≡ believed file)
    ⊎ (believed c ≡ take (1048576 * (k + 1)) (drop 4096 file))
marks_leave file c k head less torn =
    let fits = head.fits in
    let within : 17 + 2 * k + 2 ≤ length file = omega (arith, fits, less) in
    let two = pair_of (take 2 (drop (17 + 2 * k) c))
    (length-middle (17 + 2 * k) 2 file c torn within) in
    let a = two.0 in
    let b = two.1 in
    let is : c ≡ written (17 + 2 * k) (a ∷ b ∷ []) file =
    is_written (17 + 2 * k) 2 file c torn within
    ∙ ap (λ (t : List ℕ). written (17 + 2 * k) t file) two.2 in
    let behind : drop 4096 c ≡ drop 4096 file = ap (drop 4096) is
    ∙ same_behind file k head less a b in
    elim (cases_Bool (is_pair a b)) [
      | inl there ↦ inr (
          ap (λ (t : List ℕ). take (1048576 * pairs (marks_of c)) t) behind
          ∙ ap (λ (n : ℕ). take (1048576 * n) (drop 4096 file))
          (ap (λ (t : List ℕ). pairs (marks_of t)) is ∙ one_more file k head less a b there))
      | inr none ↦ inl (
          ap (λ (t : List ℕ). take (1048576 * pairs (marks_of c)) t) behind
          ∙ ap (λ (n : ℕ). take (1048576 * n) (drop 4096 file))
          (ap (λ (t : List ℕ). pairs (marks_of t)) is ∙ no_more file k head less a b none)
          ∙ sym (believed_is file k head))
    ]

-- ---- the zeros

module _ (file more : List ℕ) (k n at : ℕ) (head : IsHeaded file k)
    (is : at ≡ 4096 + 1048576 * k) (step : n ≡ 1048576) (torn : Torn at n file more)
    (there : Holds more at (replicate n 0)) where
  size : length (replicate {A = ℕ} n 0) ≡ n
  size = length-replicate n 0

  pub is_long : 4096 + 1048576 * (k + 1) ≤ length more
  is_long = let s = size in let within = there.within in omega (arith, s, step, is, within)

  pub is_grown : take (1048576 * (k + 1)) (drop 4096 more) ≡ believed file ++ replicate n 0
  is_grown =
      let kept = torn_behind file more k at n head is torn in
      let next : 1048576 * (k + 1) ≡ 1048576 * k + n = omega (arith, step) in
      ap (λ (m : ℕ). take m (drop 4096 more)) next
      ∙ take-add (1048576 * k) n (drop 4096 more)
      ∙ ap (λ (t : List ℕ). t ++ take n (drop (1048576 * k) (drop 4096 more)))
      (sym (believed_is more k kept.0) ∙ kept.1)
      ∙ ap (λ (t : List ℕ). believed file ++ take n t)
      (drop-drop (1048576 * k) 4096 more ∙ ap (λ (m : ℕ). drop m more) (sym is))
      ∙ ap (λ (m : ℕ). believed file ++ take m (drop at more)) (sym size)
      ∙ ap (λ (t : List ℕ). believed file ++ t) (sym (holds_take at more (replicate n 0) there))

-- ---- what the calls leave

pub torn_same : (at n : ℕ) (old new : List ℕ) → new ≡ old → Torn at n old new
torn_same at n old new same =
    let size = ap length same in
    record {
      no_shorter = omega (arith, size);
      no_longer = omega (arith, size);
      below = λ i less before. ap (λ (t : List ℕ). slice_index t i) same;
      above = λ i less behind. ap (λ (t : List ℕ). slice_index t i) same;
    }

pub torn_from : (at n : ℕ) (a b c : List ℕ) → b ≡ a → Torn at n b c → Torn at n a c
torn_from at n a b c same torn = subst (λ (t : List ℕ). Torn at n t c) same torn

pub torn_over : (at n : ℕ) (a b c d : List ℕ) → b ≡ a → Torn at n b c → d ≡ c → Torn at n a d
torn_over at n a b c d same torn then =
    subst (λ (t : List ℕ). Torn at n a t) (sym then) (torn_from at n a b c same torn)

pub holds_to : (at : ℕ) (bytes a b : List ℕ) → b ≡ a → Holds a at bytes → Holds b at bytes
holds_to at bytes a b same holds = subst (λ (t : List ℕ). Holds t at bytes) (sym same) holds

pub marks_put : (file new bytes : List ℕ) (k at : ℕ) → k < 2037 → at ≡ 17 + 2 * k
    → bytes ≡ 43 ∷ 43 ∷ [] → (at + length bytes ≤ length file → new ≡ written at bytes file)
    → (at + length bytes ≤ length file → length new ≡ length file)
    → IsHeaded file k → 4096 + 1048576 * (k + 1) ≤ length file
    → IsHeaded new (k + 1) × (drop 4096 new ≡ drop 4096 file)
marks_put file new bytes k at less is are put same head long =
    let two = ap length are in
    let fits = head.fits in
    let within : at + length bytes ≤ length file = omega (arith, two, is, less, fits) in
    let new_is : new ≡ written (17 + 2 * k) (43 ∷ 43 ∷ []) file = put within
    ∙ ap (λ (n : ℕ). written n bytes file) is
    ∙ ap (λ (b : List ℕ). written (17 + 2 * k) b file) are in (
      is_marked file k head less 43 43 new new_is (same within) long refl refl refl,
      ap (drop 4096) new_is ∙ same_behind file k head less 43 43,
    )

pub marks_left : (file d c : List ℕ) (k at n : ℕ) → k < 2037 → at ≡ 17 + 2 * k → n ≡ 2
    → d ≡ file → Torn at n d c → IsHeaded file k
    → (believed c ≡ believed file)
    ⊎ (believed c ≡ take (1048576 * (k + 1)) (drop 4096 file))
marks_left file d c k at n less is two same torn head =
    marks_leave file c k head less
    (subst (λ (m : ℕ). Torn (17 + 2 * k) m file c) two
    (subst (λ (m : ℕ). Torn m n file c) is (torn_from at n file d c same torn)))
