-- Files that never had a whole head.
use Rattle.std.proofs.Common.{◌≡◌, ◌∙◌, ap, sym, refl, ℕ, zero, suc, ◌+◌, ◌-◌, ◌*◌, ◌<◌, ◌≤◌, ◌==◌, List, [], ◌∷◌, length, take, drop, replicate, slice_index, get_or, Bool, true, false, ◌||◌, ◌&&◌, inl, inr, arith, get_or-take, get_or-drop}
use Rattle.std.proofs.lemmas.Bool.{cases_lt, cases_Bool, false≢true}
use Rattle.std.proofs.lemmas.List.{length-replicate, drop_more, drop_all, get_or_past}
use Rattle.sqlite_disk.specs.Disk.{Holds, Torn, Mixed}
use Rattle.journal.specs.Head.{marks_of, selector_of, believed, is_head_byte, is_blank, is_blank_from, IsHead}
use Rattle.journal.proofs.Pairs.{zero_is, pairs_none, zeros_at}
use Rattle.journal.specs.Selector.{selector_bytes, IsUnused}
use Rattle.journal.proofs.Selectors.{unselected, short_unused}
use Rattle.journal.proofs.Most.{both_are}

-- each byte is 0 or that of a new head
blank_at : (at : ℕ) (file : List ℕ) (i : ℕ) → is_blank_from at file ≡ true
    → ((get_or file i 0 == 0) || is_head_byte (at + i) (get_or file i 0)) ≡ true
blank_at at [] i is =
    ap (λ (b : ℕ). (b == 0) || is_head_byte (at + i) b) (get_or_past [] i 0 (omega arith))
blank_at at (byte ∷ file) zero is =
    let here : at + 0 ≡ at = omega arith in
    ap (λ (n : ℕ). (byte == 0) || is_head_byte n byte) here
    ∙ (both_are _ (is_blank_from (suc at) file) is).0
blank_at at (byte ∷ file) (suc i) is =
    let next : at + suc i ≡ suc at + i = omega arith in
    ap (λ (n : ℕ). (get_or file i 0 == 0) || is_head_byte n (get_or file i 0)) next
    ∙ blank_at (suc at) file i (both_are _ (is_blank_from (suc at) file) is).1

is_zero : (byte : ℕ) → ((byte == 0) || ((byte == 0) || false)) ≡ true → byte ≡ 0
is_zero byte is = elim (cases_Bool (byte == 0)) [
  | inl same ↦ zero_is byte same
  | inr other ↦ absurd (false≢true (rw other at is))
]

first_mark : (file : List ℕ) → is_blank file ≡ true → get_or file 17 0 ≡ 0
first_mark file blank = is_zero (get_or file 17 0) (blank_at 0 file 17 blank)

second_mark : (file : List ℕ) → is_blank file ≡ true → get_or file 18 0 ≡ 0
second_mark file blank = is_zero (get_or file 18 0) (blank_at 0 file 18 blank)

-- so nothing is believed
pub unmarked : (file : List ℕ) → get_or file 17 0 ≡ 0 → get_or file 18 0 ≡ 0
    → believed file ≡ []
unmarked file one other =
    ap (λ (n : ℕ). take (1048576 * n) (drop 4096 file))
    (pairs_none (marks_of file)
    (get_or-take 4074 (drop 17 file) 0 0 (omega arith) ∙ get_or-drop 17 file 0 0 ∙ one)
    (get_or-take 4074 (drop 17 file) 1 0 (omega arith) ∙ get_or-drop 17 file 1 0 ∙ other))

pub blank_believed : (file : List ℕ) → is_blank file ≡ true → believed file ≡ []
blank_believed file blank = unmarked file (first_mark file blank) (second_mark file blank)

first_selector : (file : List ℕ) → is_blank file ≡ true → get_or file 4091 0 ≡ 0
first_selector file blank = is_zero (get_or file 4091 0) (blank_at 0 file 4091 blank)

second_selector : (file : List ℕ) → is_blank file ≡ true → get_or file 4092 0 ≡ 0
second_selector file blank = is_zero (get_or file 4092 0) (blank_at 0 file 4092 blank)

pub blank_unused : (file : List ℕ) → is_blank file ≡ true → IsUnused file
blank_unused file blank = record {
  text = blank_believed file blank;
  selector = unselected file (first_selector file blank) (second_selector file blank);
}

-- ---- zeros

zeros_blank : (at : ℕ) (file : List ℕ) → ((i : ℕ) → get_or file i 0 ≡ 0)
    → is_blank_from at file ≡ true
zeros_blank at [] all = refl
zeros_blank at (byte ∷ file) all =
    ap (λ (b : ℕ). ((b == 0) || is_head_byte at b) && is_blank_from (suc at) file) (all 0)
    ∙ zeros_blank (suc at) file (λ i. all (suc i))

from_0 : (i : ℕ) → i ≡ 0 + i
from_0 i = omega arith

-- a file that was shorter than a head and is now as long, all zeros
pub long_zeros : (n : ℕ) (old new zeros : List ℕ) → zeros ≡ replicate n 0 → n ≡ 4095
    → length old < 4095 → Torn 0 (length zeros) old new
    → (0 < length zeros → Holds new 0 zeros)
    → (is_blank new ≡ true) × (4095 ≤ length new)
long_zeros n old new zeros are size short torn holds =
    let count : length zeros ≡ n = ap length are ∙ length-replicate n 0 in
    let there = holds (omega (arith, count, size)) in
    let within = there.within in
    let most = torn.no_longer in (
      zeros_blank 0 new (λ i. elim (cases_lt i (length zeros)) [
        | inl less ↦ ap (λ (k : ℕ). get_or new k 0) (from_0 i) ∙ there.each i less
            ∙ ap (λ (t : List ℕ). get_or t i 0) are ∙ zeros_at n i
        | inr past ↦ get_or_past new i 0 (omega (arith, past, most, count, size, short))
      ]),
      omega (arith, within, count, size),
    )

pub short_left : (n : ℕ) (old c : List ℕ) → n ≡ 4095 → length old < 4095 → Torn 0 n old c
    → IsUnused c
short_left n old c size short torn =
    let most = torn.no_longer in short_unused c (omega (arith, most, size, short))

-- ---- a new head over it

head_at : (head : List ℕ) (size : ℕ) → IsHead head size 0 → (i : ℕ) → i < 4074
    → get_or head (17 + i) 0 ≡ 0
head_at head size is i less =
    sym (get_or-take 4074 (drop 17 head) i 0 less ∙ get_or-drop 17 head i 0)
    ∙ ap (λ (t : List ℕ). get_or t i 0) is.later ∙ zeros_at (4074 - 2 * 0) i

selector_at : (head : List ℕ) (i : ℕ) → selector_of head ≡ selector_bytes false → i < 3
    → get_or head (4091 + i) 0 ≡ get_or (selector_bytes false) i 0
selector_at head i is less =
    sym (get_or-take 3 (drop 4091 head) i 0 less ∙ get_or-drop 4091 head i 0)
    ∙ ap (λ (t : List ℕ). get_or t i 0) is

module _ (file c head : List ℕ) (size : ℕ) (blank : is_blank file ≡ true)
    (long : 4095 ≤ length file) (is : IsHead head size 0) (count : length head ≡ 4096)
    (none : selector_of head ≡ selector_bytes false) (mixed : Mixed 0 head file c) where
  zero_at : (i : ℕ) → i < 4095 → get_or file i 0 ≡ 0 → get_or head i 0 ≡ 0 → get_or c i 0 ≡ 0
  zero_at i less before after =
      elim (mixed.each i (omega (arith, count, less)) (omega (arith, long, less))) [
        | inl same ↦ ap (λ (k : ℕ). get_or c k 0) (from_0 i) ∙ same
            ∙ ap (λ (k : ℕ). get_or file k 0) (sym (from_0 i)) ∙ before
        | inr new ↦ ap (λ (k : ℕ). get_or c k 0) (from_0 i) ∙ new ∙ after
      ]

  pub head_left : IsUnused c
  head_left = record {
    text = unmarked c
        (zero_at 17 (omega arith) (first_mark file blank) (head_at head size is 0 (omega arith)))
        (zero_at 18 (omega arith) (second_mark file blank) (head_at head size is 1 (omega arith)));
    selector = unselected c
        (zero_at 4091 (omega arith) (first_selector file blank)
        (selector_at head 0 none (omega arith)))
        (zero_at 4092 (omega arith) (second_selector file blank)
        (selector_at head 1 none (omega arith)));
  }

-- ---- reading one byte after the other

pub blank_more : (file : List ℕ) (at : ℕ) → at < length file
    → ((slice_index file at == 0) || is_head_byte at (slice_index file at)) ≡ true
    → is_blank_from at (drop at file) ≡ is_blank_from (at + 1) (drop (at + 1) file)
blank_more file at less is =
    let next : suc at ≡ at + 1 = omega arith in
    ap (is_blank_from at) (drop_more file at 0 less)
    ∙ ap (λ (b : Bool). b && is_blank_from (suc at) (drop (at + 1) file)) is
    ∙ ap (λ (n : ℕ). is_blank_from n (drop (at + 1) file)) next

pub blank_no_more : (file : List ℕ) (at : ℕ) → at < length file
    → ((slice_index file at == 0) || is_head_byte at (slice_index file at)) ≡ false
    → is_blank_from at (drop at file) ≡ false
blank_no_more file at less is =
    ap (is_blank_from at) (drop_more file at 0 less)
    ∙ ap (λ (b : Bool). b && is_blank_from (suc at) (drop (at + 1) file)) is

pub blank_end : (file : List ℕ) (at : ℕ) → length file ≤ at
    → is_blank_from at (drop at file) ≡ true
blank_end file at past = ap (is_blank_from at) (drop_all at file past)

-- ---- the front of a file

-- the front of a blank file is blank
blank_front : (at n : ℕ) (file : List ℕ) → is_blank_from at file ≡ true
    → is_blank_from at (take n file) ≡ true
blank_front at zero file is = refl
blank_front at (suc n) [] is = refl
blank_front at (suc n) (byte ∷ file) is =
    let both = both_are _ (is_blank_from (suc at) file) is in
    ap (λ (b : Bool). b && is_blank_from (suc at) (take n file)) both.0
    ∙ blank_front (suc at) n file both.1

-- so where the front isn't, the file isn't
pub front_other : (file front : List ℕ) (n : ℕ) → front ≡ take n file → is_blank front ≡ false
    → is_blank file ≡ false
front_other file front n are other = elim (cases_Bool (is_blank file)) [
  | inl blank ↦ absurd (false≢true (sym other ∙ ap is_blank are ∙ blank_front 0 n file blank))
  | inr none ↦ none
]
