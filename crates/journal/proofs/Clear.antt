-- Texts without a byte that no UTF-8 text has.
use Rattle.std.proofs.Common.{◌≡◌, ◌∙◌, ap, sym, refl, List, ℕ, zero, suc, [], ◌∷◌, ◌++◌, Bool, true, false, ◌||◌, replicate, inl, inr}
use Rattle.std.proofs.lemmas.List.Folds.{list_any-append}
use Rattle.journal.specs.Text.{is_noise, has_noise, lines_text, AreLines}
use Rattle.journal.specs.Reading.{Found, parsed, found, sound}
use Rattle.journal.specs.Crashes.{Holes}
use Rattle.journal.proofs.TextLines.{or_false}

-- ---- parts of a text

pub clear_both : (a b : List ℕ) → has_noise a ≡ false → has_noise b ≡ false
    → has_noise (a ++ b) ≡ false
clear_both a b one other = list_any-append is_noise a b ∙ rw (one, other) refl

pub clear_parts : (a b : List ℕ) → has_noise (a ++ b) ≡ false
    → (has_noise a ≡ false) × (has_noise b ≡ false)
clear_parts a b none =
    or_false (has_noise a) (has_noise b) (sym (list_any-append is_noise a b) ∙ none)

-- a line feed more
pub clear_feed : (text : List ℕ) → has_noise text ≡ false → has_noise (text ++ 10 ∷ []) ≡ false
clear_feed text none = clear_both text (10 ∷ []) none refl

-- the last of three parts
pub clear_last : (text a b c : List ℕ) → text ≡ a ++ (b ++ c) → has_noise text ≡ false
    → has_noise c ≡ false
clear_last text a b c is none =
    (clear_parts b c (clear_parts a (b ++ c) (ap has_noise (sym is) ∙ none)).1).1

pub zeros_are_clear : (n : ℕ) → has_noise (replicate n 0) ≡ false
zeros_are_clear zero = refl
zeros_are_clear (suc n) = zeros_are_clear n

pub left_is_clear : (text left : List ℕ) → has_noise text ≡ false → Holes text left
    → has_noise left ≡ false
left_is_clear [] [] none holes = refl
left_is_clear [] (c ∷ left) none holes = absurd holes
left_is_clear (b ∷ text) [] none holes = absurd holes
left_is_clear (b ∷ text) (c ∷ left) none holes =
    let both = or_false (is_noise b) (has_noise text) none in
    elim holes.0 [
      | inl lost ↦ rw (lost, left_is_clear text left both.1 holes.1) refl
      | inr same ↦ rw (same, both.0, left_is_clear text left both.1 holes.1) refl
    ]

-- lines that can stand in a group
pub lines_are_clear : (lines : List (List ℕ)) → AreLines lines
    → has_noise (lines_text lines) ≡ false
lines_are_clear [] all = refl
lines_are_clear (line ∷ lines) all =
    clear_both line (10 ∷ lines_text lines) all.0.clear (lines_are_clear lines all.1)

-- ---- what is found

-- no more damage
pub or_none : (a : Bool) → (a || false) ≡ a
or_none true = refl
or_none false = refl

or_else : (a b : Bool) → b ≡ true → (a || b) ≡ true
or_else true b is = refl
or_else false b is = is

-- damage of the lines is damage of the file
pub damage_is_found : (first text : List ℕ) → (parsed first text).is_damaged ≡ true
    → (found first text).is_damaged ≡ true
damage_is_found first text damaged = or_else (has_noise text) (parsed first text).is_damaged damaged

-- a text with a byte that no UTF-8 text has is found as damaged
pub noise_is_found : (first text : List ℕ) → has_noise text ≡ true
    → (found first text).is_damaged ≡ true
noise_is_found first text is = rw is refl

-- such a byte in the middle of a file
pub noise_within : (first front bytes back : List ℕ) → has_noise bytes ≡ true
    → (found first (front ++ (bytes ++ back))).is_damaged ≡ true
noise_within first front bytes back is =
    noise_is_found first (front ++ (bytes ++ back))
    (list_any-append is_noise front (bytes ++ back)
    ∙ or_else (has_noise front) (has_noise (bytes ++ back))
    (list_any-append is_noise bytes back ∙ rw is refl))

-- at the end of a block
pub noise_at_end : (first front taken bytes block back : List ℕ) → block ≡ taken ++ bytes
    → has_noise bytes ≡ true → (found first (front ++ (block ++ back))).is_damaged ≡ true
noise_at_end first front taken bytes block back cut is =
    noise_within first front block back
    (ap has_noise cut ∙ list_any-append is_noise taken bytes
    ∙ or_else (has_noise taken) (has_noise bytes) is)

pub sound_is_found : (first text : List ℕ) → has_noise text ≡ false
    → (parsed first text).is_damaged ≡ false → (found first text).is_damaged ≡ false
sound_is_found first text none whole = rw (none, whole) refl

pub sound_parts : (first text : List ℕ) → (found first text).is_damaged ≡ false
    → (has_noise text ≡ false) × ((parsed first text).is_damaged ≡ false)
sound_parts first text whole = or_false (has_noise text) (parsed first text).is_damaged whole

-- groups that the lines of a clear file are
pub groups_are_found : (first text : List ℕ) (groups : List (List (List ℕ)))
    → has_noise text ≡ false → parsed first text ≡ sound groups → found first text ≡ sound groups
groups_are_found first text groups none is =
    ap (λ (b : Bool). record {
      groups = (parsed first text).groups;
      is_damaged = b || (parsed first text).is_damaged;
    }) none
    ∙ is

-- two texts that are clear alike
pub found_alike : (first one other : List ℕ) → has_noise one ≡ has_noise other
    → parsed first one ≡ parsed first other → found first one ≡ found first other
found_alike first one other noise is =
    ap (λ (b : Bool). record {
      groups = (parsed first one).groups;
      is_damaged = b || (parsed first one).is_damaged;
    }) noise
    ∙ ap (λ (f : Found). record {
      groups = f.groups;
      is_damaged = has_noise other || f.is_damaged;
    }) is
