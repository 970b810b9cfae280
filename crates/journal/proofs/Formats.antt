-- The digit of format 2 in a first line.
use Rattle.std.proofs.Common.{◌≡◌, ◌⊎◌, ◌∙◌, ap, sym, refl, ℕ, ◌*◌, ◌≤◌, List, [], ◌∷◌, ◌++◌, length, take, drop, true, inl, inr, bytes_eq, arith}
use Rattle.std.specs.List.{list_any}
use Rattle.std.proofs.lemmas.Bool.{cases_Bool, cases_lt}
use Rattle.std.proofs.lemmas.List.{take-append-drop}
use Rattle.std.proofs.lemmas.Slice.Eq.{bytes_eq-Decides}
use Rattle.sqlite_disk.specs.Disk.{Mixed}
use Rattle.journal.specs.Crashes.{Mixes, written}
use Rattle.journal.specs.Head.{line_of, old_line, first_line, is_first_line, marks_of, is_other, pairs, believed, IsHeaded}
use Rattle.journal.specs.Selector.{tail_of, FormatLeft}
use Rattle.journal.proofs.FileHeads.{short_believed}
use Rattle.journal.proofs.Fronts.{written_after}
use Rattle.journal.proofs.Over.{size}
use Rattle.journal.proofs.Selectors.{end_long, with_tail}
use Rattle.journal.proofs.Writing.{put_mixed}

pub none_left : (file : List ℕ) → FormatLeft file file
none_left file = record {
  text = refl;
  head = λ steps head. head;
  selector = λ was has. has;
}

-- one byte of a mix
one_byte : (old mixed : List ℕ) → length mixed ≡ 1 → Mixes old (50 ∷ []) mixed
    → (byte : ℕ) × (mixed ≡ byte ∷ [])
    × ((mixed ≡ old) ⊎ (byte ≡ 50))
one_byte [] [] one mixes = absurd (omega (arith, one))
one_byte [] (c ∷ mixed) one mixes = absurd mixes
one_byte (a ∷ old) [] one mixes = absurd mixes
one_byte (a ∷ []) (c ∷ []) one mixes = (
  c,
  refl,
  (elim mixes.0 [
    | inl same ↦ inl (ap (λ (n : ℕ). n ∷ []) same)
    | inr new ↦ inr new
  ]),
)
one_byte (a ∷ b ∷ old) (c ∷ []) one mixes = absurd mixes.1
one_byte (a ∷ []) (c ∷ d ∷ mixed) one mixes = absurd mixes.1
one_byte (a ∷ b ∷ old) (c ∷ d ∷ mixed) one mixes = absurd mixes.1

-- a first line as the text behind it
line_is : (file : List ℕ) → is_first_line (take 17 file) ≡ true
    → (digit : ℕ) × (file ≡ line_of digit ++ drop 17 file) × ((digit ≡ 50) ⊎ (digit ≡ 49))
line_is file is = elim (cases_Bool (bytes_eq (take 17 file) first_line)) [
  | inl new ↦ (50, whole 50 ((bytes_eq-Decides (take 17 file) first_line).0 new), inl refl)
  | inr other ↦ (
    49,
    whole 49 ((bytes_eq-Decides (take 17 file) old_line).0 (rw other at is)),
    inr refl,
  )
]
  where
    whole : (digit : ℕ) → take 17 file ≡ line_of digit → file ≡ line_of digit ++ drop 17 file
    whole digit same = sym (take-append-drop 17 file)
        ∙ ap (λ (t : List ℕ). t ++ drop 17 file) same

-- where the digit stands
module _ (d c mixed : List ℕ) (within : 16 ≤ length d) (one : length mixed ≡ 1)
    (is : c ≡ written 15 mixed d) where
  behind : (n : ℕ) → 17 ≤ n → drop n c ≡ drop n d
  behind n le = ap (drop n) is
      ∙ written_after 15 n mixed d (omega (arith, within)) (omega (arith, one, le))

  same_marks : marks_of c ≡ marks_of d
  same_marks = ap (take 4074) (behind 17 (omega arith))

  same_text : believed c ≡ believed d
  same_text = ap (λ (m : List ℕ). take (1048576 * pairs m) (drop 4096 c)) same_marks
      ∙ ap (take (1048576 * pairs (marks_of d))) (behind 4096 (omega arith))

  same_tail : tail_of c ≡ tail_of d
  same_tail = ap (take 5) (behind 4091 (omega arith))

  same_size : length c ≡ length d
  same_size = ap length is ∙ size d mixed 15 1 one (omega (arith, within))

  -- the line is one of both
  new_line : Mixes (take 1 (drop 15 d)) (50 ∷ []) mixed → is_first_line (take 17 d) ≡ true
      → is_first_line (take 17 c) ≡ true
  new_line mixes first =
      let byte = one_byte (take 1 (drop 15 d)) mixed one mixes in
      let line = line_is d first in
      let now : take 17 c ≡ line_of byte.0 =
      ap (take 17) (is ∙ ap (λ (m : List ℕ). written 15 m d) byte.1
      ∙ ap (written 15 (byte.0 ∷ [])) line.1) in
      ap is_first_line now ∙ elim byte.2 [
        | inr new ↦ ap (λ (n : ℕ). is_first_line (line_of n)) new
        | inl was ↦
            let same : byte.0 ∷ [] ≡ line.0 ∷ [] = sym byte.1 ∙ was
            ∙ ap (λ (t : List ℕ). take 1 (drop 15 t)) line.1 in
            let digit : byte.0 ≡ line.0 = cc same in
            ap (λ (n : ℕ). is_first_line (line_of n)) digit ∙ elim line.2 [
              | inl new ↦ ap (λ (n : ℕ). is_first_line (line_of n)) new
              | inr old ↦ ap (λ (n : ℕ). is_first_line (line_of n)) old
            ]
      ]

  same_head : Mixes (take 1 (drop 15 d)) (50 ∷ []) mixed → (steps : ℕ) → IsHeaded d steps
      → IsHeaded c steps
  same_head mixes steps head = record {
    line = new_line mixes head.line;
    marks = ap (list_any is_other) same_marks ∙ head.marks;
    count = ap pairs same_marks ∙ head.count;
    later = ap (drop (2 * steps)) same_marks ∙ head.later;
    selector = ap (λ (t : List ℕ). list_any is_other (take 3 t)) (behind 4091 (omega arith))
        ∙ head.selector;
    gap = ap (take 1) (behind 4094 (omega arith)) ∙ head.gap;
    feed = ap (take 1) (behind 4095 (omega arith)) ∙ head.feed;
    fits = let fits = head.fits in let long = same_size in omega (arith, fits, long);
  }

  all_left : Mixes (take 1 (drop 15 d)) (50 ∷ []) mixed → FormatLeft d c
  all_left mixes = record {
    text = same_text;
    head = same_head mixes;
    selector = λ was has. with_tail was d c same_tail has;
  }

pub format_left : (d c : List ℕ) → Mixed 15 (50 ∷ []) d c → FormatLeft d c
format_left d c mixed = elim (cases_lt (length d) 16) [
  | inl short ↦
      let torn = mixed.torn in
      let most = torn.no_longer in record {
        text = short_believed c (omega (arith, short, most))
            ∙ sym (short_believed d (omega (arith, short)));
        head = λ steps head. absurd (let fits = head.fits in omega (arith, short, fits));
        selector = λ was has. absurd (let long = end_long d has.feed in
            omega (arith, short, long));
      }
  | inr within ↦
      let out = put_mixed 15 (50 ∷ []) d c within mixed in
      all_left d c out.0 within out.1 out.3 out.2
]
