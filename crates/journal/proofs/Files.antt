-- A file is read block by block.
use Rattle.std.proofs.Common.{◌≡◌, ◌∙◌, ap, sym, subst, ℕ, ◌+◌, ◌≤◌, List, ◌++◌, take, drop, length, true, arith}
use Rattle.std.proofs.lemmas.List.{take-append-drop, drop-drop, take_all}
use Rattle.std.proofs.Math.Seq.{take-add}
use Rattle.journal.specs.Reading.{found}
use Rattle.journal.specs.Reads.{HasRead}
use Rattle.journal.specs.declared.reader.Reader.{Reader}

-- a block more
pub block_more : (first text block : List ℕ) (at count : ℕ) (old new : Reader)
    → block ≡ take count (drop at text)
    → (HasRead first (take at text) old → HasRead first (take at text ++ block) new)
    → HasRead first (take at text) old → HasRead first (take (at + count) text) new
block_more first text block at count old new is more r =
    subst (λ (t : List ℕ). HasRead first t new)
    (ap (λ (b : List ℕ). take at text ++ b) is ∙ sym (take-add at count text)) (more r)

-- a block, and what follows it
text_is : (text block : List ℕ) (at count : ℕ) → block ≡ take count (drop at text)
    → text ≡ take at text ++ (block ++ drop (at + count) text)
text_is text block at count is =
    sym (take-append-drop at text)
    ∙ ap (λ (t : List ℕ). take at text ++ t)
    (sym (take-append-drop count (drop at text))
    ∙ ap (λ (b : List ℕ). b ++ drop count (drop at text)) (sym is))
    ∙ ap (λ (t : List ℕ). take at text ++ (block ++ t)) (drop-drop count at text)

pub block_damage : (first text block : List ℕ) (at count : ℕ) → block ≡ take count (drop at text)
    → ((rest : List ℕ) → (found first (take at text ++ (block ++ rest))).is_damaged ≡ true)
    → (found first text).is_damaged ≡ true
block_damage first text block at count is damage =
    ap (λ (t : List ℕ). (found first t).is_damaged) (text_is text block at count is)
    ∙ damage (drop (at + count) text)

-- the whole file was read
pub all_of : (text : List ℕ) (at size : ℕ) → size ≡ length text → size ≤ at → take at text ≡ text
all_of text at size is reaches = take_all at text (omega (arith, is, reaches))
