-- Three bytes that are put over a head.
use Rattle.std.proofs.Common.{◌≡◌, ◌∙◌, ap, refl, ℕ, ◌+◌, ◌*◌, ◌≤◌, List, [], ◌∷◌, ◌++◌, length, take, drop, false, arith}
use Rattle.std.specs.List.{list_any}
use Rattle.std.proofs.lemmas.List.{length-take-le, drop-drop, drop_at, take_at}
use Rattle.std.proofs.Math.Seq.{take-add}
use Rattle.journal.specs.Crashes.{written}
use Rattle.journal.specs.Head.{is_first_line, marks_of, selector_of, is_other, pairs, believed, IsHeaded}
use Rattle.journal.specs.Selector.{tail_of}
use Rattle.journal.proofs.Fronts.{take_front, slice_front, written_front, written_after}

module _ (file new bytes : List ℕ) (long : 4094 ≤ length file) (three : length bytes ≡ 3)
    (is : new ≡ written 4091 bytes file) where
  front : take 4091 new ≡ take 4091 file
  front = ap (take 4091) is
      ∙ written_front 4091 4091 bytes file (omega arith) (omega (arith, long))

  behind : (n : ℕ) → 4094 ≤ n → drop n new ≡ drop n file
  behind n le = ap (drop n) is
      ∙ written_after 4091 n bytes file (omega (arith, long)) (omega (arith, three, le))

  same_marks : marks_of new ≡ marks_of file
  same_marks = slice_front new file 17 4074 front

  pub same_text : believed new ≡ believed file
  same_text = ap (λ (m : List ℕ). take (1048576 * pairs m) (drop 4096 new)) same_marks
      ∙ ap (take (1048576 * pairs (marks_of file))) (behind 4096 (omega arith))

  there : drop 4091 new ≡ bytes ++ drop 4094 file
  there =
      let past : 4091 + length bytes ≡ 4094 = omega (arith, three) in
      ap (drop 4091) is
      ∙ drop_at (take 4091 file) (bytes ++ drop (4091 + length bytes) file) 4091
      (length-take-le 4091 file (omega (arith, long)))
      ∙ ap (λ (n : ℕ). bytes ++ drop n file) past

  pub selector_put : selector_of new ≡ bytes
  selector_put = ap (take 3) there ∙ take_at bytes (drop 4094 file) 3 three

  pub same_head : (steps : ℕ) → length new ≡ length file → list_any is_other bytes ≡ false
      → IsHeaded file steps → IsHeaded new steps
  same_head steps size none head = record {
    line = ap is_first_line (take_front new file 17 4091 (omega arith) front) ∙ head.line;
    marks = ap (list_any is_other) same_marks ∙ head.marks;
    count = ap pairs same_marks ∙ head.count;
    later = ap (drop (2 * steps)) same_marks ∙ head.later;
    selector = ap (list_any is_other) selector_put ∙ none;
    gap = ap (take 1) (behind 4094 (omega arith)) ∙ head.gap;
    feed = ap (take 1) (behind 4095 (omega arith)) ∙ head.feed;
    fits = let fits = head.fits in omega (arith, fits, size);
  }

  pub tail_put : tail_of new ≡ bytes ++ take 2 (drop 4094 file)
  tail_put = ap (take 5) there ∙ front_two bytes (drop 4094 file) three
    where
      front_two : (bytes rest : List ℕ) → length bytes ≡ 3
          → take 5 (bytes ++ rest) ≡ bytes ++ take 2 rest
      front_two [] rest size = absurd (omega (arith, size))
      front_two (a ∷ []) rest size = absurd (omega (arith, size))
      front_two (a ∷ b ∷ []) rest size = absurd (omega (arith, size))
      front_two (a ∷ b ∷ c ∷ []) rest size = refl
      front_two (a ∷ b ∷ c ∷ d ∷ bytes) rest size = absurd (omega (arith, size))

-- the end of a head as three bytes and two
pub tail_parts : (file : List ℕ) → tail_of file ≡ selector_of file ++ take 2 (drop 4094 file)
tail_parts file = take-add 3 2 (drop 4091 file)
    ∙ ap (λ (t : List ℕ). selector_of file ++ take 2 t) (drop-drop 3 4091 file)
