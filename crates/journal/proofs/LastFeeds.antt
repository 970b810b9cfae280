-- Where the last line of a block ends.
use Rattle.std.proofs.Common.{◌≡◌, ◌⊎◌, ◌∙◌, ap, sym, refl, ℕ, ◌+◌, ◌-◌, ◌<◌, ◌≤◌, List, [], ◌∷◌, ◌++◌, take, drop, length, get_or, false, inl, inr, arith, append_assoc, length-append}
use Rattle.std.proofs.lemmas.Bool.{cases_Bool}
use Rattle.std.proofs.lemmas.List.{take-append-drop, take-take, drop-take, drop-drop, drop-append-le, drop_more, length-take, length-take-le, take_at}
use Rattle.std.specs.List.{list_any}
use Rattle.journal.specs.Text.{is_line_feed}
use Rattle.journal.specs.Reading.{onto_whole, whole_lines}
use Rattle.journal.specs.Reads.{IsCut}
use Rattle.journal.proofs.TextLines.{HasNoFeed, some_feed, some_lines, whole_lines-none}

-- ---- a text behind a line feed

onto_front : (byte : ℕ) (lines more : List (List ℕ)) → (lines ≡ [] → ⊥)
    → onto_whole byte (lines ++ more) ≡ onto_whole byte lines ++ more
onto_front byte [] more some = absurd (some refl)
onto_front byte (line ∷ lines) more some = refl

pub behind_feed : (front rest : List ℕ)
    → whole_lines ((front ++ 10 ∷ []) ++ rest) ≡ whole_lines (front ++ 10 ∷ []) ++ whole_lines rest
behind_feed [] rest = refl
behind_feed (b ∷ front) rest = elim (cases_Bool (is_line_feed b)) [
  | inl is ↦ rw is (ap (λ (ls : List (List ℕ)). [] ∷ ls) (behind_feed front rest))
  | inr other ↦ rw other
      (ap (onto_whole b) (behind_feed front rest)
      ∙ onto_front b (whole_lines (front ++ 10 ∷ [])) (whole_lines rest)
      (some_lines (front ++ 10 ∷ []) (some_feed front [])))
]

-- ---- the last line feed of a block

-- no line feed from here on
pub none_from : (block : List ℕ) (at : ℕ) → 0 < at → at ≤ length block
    → is_line_feed (get_or block (at - 1) 0) ≡ false → HasNoFeed (drop at block)
    → HasNoFeed (drop (at - 1) block)
none_from block at some within other none =
    let next : at - 1 + 1 ≡ at = omega (arith, some) in
    ap (list_any is_line_feed)
    (drop_more block (at - 1) 0 (omega (arith, some, within))
    ∙ ap (λ (n : ℕ). get_or block (at - 1) 0 ∷ drop n block) next)
    ∙ rw (other, none) refl

-- the block up to its last line feed
pub cut_at : (block : List ℕ) (at : ℕ) → at ≤ length block
    → (at ≡ 0) ⊎ ((0 < at) × (get_or block (at - 1) 0 ≡ 10)) → (rest : List ℕ)
    → whole_lines (block ++ rest)
    ≡ whole_lines (take at block) ++ whole_lines (drop at block ++ rest)
cut_at block at within which rest = elim which [
  | inl none ↦ rw none refl
  | inr feed ↦
      let next : at - 1 + 1 ≡ at = omega (arith, feed.0) in
      let front = take (at - 1) block in
      let block_is : block ≡ (front ++ 10 ∷ []) ++ drop at block =
      sym (take-append-drop (at - 1) block)
      ∙ ap (λ (t : List ℕ). front ++ t)
      (drop_more block (at - 1) 0 (omega (arith, feed.0, within))
      ∙ ap (λ (b : ℕ). b ∷ drop (at - 1 + 1) block) feed.1
      ∙ ap (λ (n : ℕ). 10 ∷ drop n block) next)
      ∙ sym (append_assoc front (10 ∷ []) (drop at block)) in
      let size : length (front ++ 10 ∷ []) ≡ at = let one =
      length-append front (10 ∷ []) in let count =
      length-take-le (at - 1) block (omega (arith, feed.0, within)) in
      omega (arith, one, count, feed.0) in
      let taken : take at block ≡ front ++ 10 ∷ [] = ap (take at) block_is
      ∙ take_at (front ++ 10 ∷ []) (drop at block) at size in
      ap (λ (t : List ℕ). whole_lines (t ++ rest)) block_is
      ∙ ap whole_lines (append_assoc (front ++ 10 ∷ []) (drop at block) rest)
      ∙ behind_feed front (drop at block ++ rest)
      ∙ ap (λ (t : List ℕ). whole_lines t ++ whole_lines (drop at block ++ rest)) (sym taken)
]

-- ---- a part of a file

module _ (text block lines : List ℕ) (at end count cut left : ℕ) (size : left ≡ end - at)
    (order : at ≤ end) (short : count ≤ left)
    (is : block ≡ take count (drop at text)) (c : IsCut block lines cut) where
  abbrev rest : List ℕ
  rest = drop count (take left (drop at text))

  all_is : take left (drop at text) ≡ block ++ rest
  all_is =
      sym (take-append-drop count (take left (drop at text)))
      ∙ ap (λ (t : List ℕ). t ++ rest) (take-take count left (drop at text) short ∙ sym is)

  cut_short : cut ≤ left
  cut_short = let here = ap length is
      ∙ length-take count (drop at text) in let within =
      c.within in omega (arith, here, within, short)

  rest_is : drop cut block ++ rest ≡ take (end - (at + cut)) (drop (at + cut) text)
  rest_is =
      let whole : cut + (left - cut) ≡ left = omega (arith, cut_short) in
      let less : left - cut ≡ end - (at + cut) = omega (arith, size) in
      sym (drop-append-le cut block rest c.within)
      ∙ ap (drop cut) (sym all_is)
      ∙ ap (λ (n : ℕ). drop cut (take n (drop at text))) (sym whole)
      ∙ drop-take cut (left - cut) (drop at text)
      ∙ ap (λ (n : ℕ). take n (drop cut (drop at text))) less
      ∙ ap (take (end - (at + cut))) (drop-drop cut at text)

  pub some_read : whole_lines (take (end - at) (drop at text))
      ≡ whole_lines lines ++ whole_lines (take (end - (at + cut)) (drop (at + cut) text))
  some_read =
      ap (λ (n : ℕ). whole_lines (take n (drop at text))) (sym size) ∙ ap whole_lines all_is
      ∙ c.splits rest
      ∙ ap (λ (t : List ℕ). whole_lines lines ++ whole_lines t) rest_is

  pub goes_to : 0 < cut → (at < at + cut) × (at + cut ≤ end)
  goes_to some = (omega (arith, some), let short = cut_short in omega (arith, short, size, order))

-- no line feed stands there
pub none_read : (text block lines : List ℕ) (at end cut left : ℕ) → left ≡ end - at
    → block ≡ take left (drop at text) → IsCut block lines cut → cut ≡ 0
    → whole_lines (take (end - at) (drop at text))
    ≡ whole_lines lines ++ whole_lines (take (end - end) (drop end text))
none_read text block lines at end cut left size is c at_none =
    let none = c.none at_none in
    let same : end - end ≡ 0 = omega arith in
    ap (λ (n : ℕ). whole_lines (take n (drop at text))) (sym size) ∙ ap whole_lines (sym is)
    ∙ whole_lines-none block none.0
    ∙ ap (λ (t : List ℕ). whole_lines t ++ whole_lines (take 0 (drop end text))) (sym none.1)
    ∙ ap (λ (n : ℕ). whole_lines lines ++ whole_lines (take n (drop end text))) (sym same)
