-- The selector in a head.
use Rattle.std.proofs.Common.{◌≡◌, ◌⊎◌, ◌∙◌, ap, sym, subst, ℕ, ◌+◌, ◌<◌, ◌≤◌, ◌==◌, List, length, drop, slice_index, Bool, false, ◌&&◌, inl, inr, arith, length-drop, get_or-take, get_or-drop}
use Rattle.std.proofs.lemmas.Bool.{cases_lt}
use Rattle.std.proofs.lemmas.List.{length-take-le, ext_get_or, get_or_past}
use Rattle.sqlite_disk.specs.Disk.{Torn, Follows}
use Rattle.journal.specs.Crashes.{Only}
use Rattle.journal.specs.Head.{believed, IsHeaded}
use Rattle.journal.specs.Selector.{tail_of, tail_counts, is_most, other_counts, HasSelector, AllSelect, SameSelector, IsUnused}
use Rattle.journal.proofs.FileHeads.{short_believed}
use Rattle.journal.proofs.Most.{and_false}
use Rattle.journal.proofs.ReadHeads.{feed_to}

-- ---- reading

tail_at : (file : List ℕ) (i : ℕ) → i < 5
    → slice_index (tail_of file) i ≡ slice_index file (4091 + i)
tail_at file i less = get_or-take 5 (drop 4091 file) i 0 less ∙ get_or-drop 4091 file i 0

pub has_end : (file : List ℕ) (steps : ℕ) → IsHeaded file steps
    → slice_index (tail_of file) 4 ≡ 10
has_end file steps head = tail_at file 4 (omega arith) ∙ feed_to file head.feed

pub end_long : (file : List ℕ) → slice_index (tail_of file) 4 ≡ 10 → 4096 ≤ length file
end_long file feed = elim (cases_lt (length file) 4096) [
  | inl short ↦ absurd (let none : 0 ≡ 10 =
      sym (tail_at file 4 (omega arith) ∙ get_or_past file 4095 0 (omega (arith, short)))
      ∙ feed in omega (arith, none))
  | inr long ↦ long
]

-- ---- files that have no selector

-- where two of three bytes of selector are 0, the other file doesn't count
pub unselected : (file : List ℕ) → slice_index file 4091 ≡ 0 → slice_index file 4092 ≡ 0
    → other_counts file ≡ false
unselected file one two =
    let tail = tail_of file in
    let end = slice_index tail 4 == 10 in
    let third = slice_index tail 2 in
    ap (λ (a : ℕ). end && is_most a (slice_index tail 1) third) (tail_at file 0 (omega arith) ∙ one)
    ∙ ap (λ (b : ℕ). end && is_most 0 b third) (tail_at file 1 (omega arith) ∙ two)
    ∙ and_false end

unended : (file : List ℕ) → length file ≤ 4095 → other_counts file ≡ false
unended file short =
    let tail = tail_of file in
    ap (λ (f : ℕ). (f == 10)
    && is_most (slice_index tail 0) (slice_index tail 1) (slice_index tail 2))
    (tail_at file 4 (omega arith) ∙ get_or_past file 4095 0 short)

pub short_unused : (file : List ℕ) → length file ≤ 4095 → IsUnused file
short_unused file short = record {
  text = short_believed file (omega (arith, short));
  selector = unended file short;
}

-- ---- writes elsewhere

tail_same : (d c : List ℕ) → 4096 ≤ length d → length d ≤ length c
    → ((i : ℕ) → i < 5 → slice_index c (4091 + i) ≡ slice_index d (4091 + i))
    → tail_of c ≡ tail_of d
tail_same d c long longer each =
    let here : length (tail_of c) ≡ 5 = length-take-le 5 (drop 4091 c)
    (let n = length-drop 4091 c in omega (arith, n, long, longer)) in
    let there : length (tail_of d) ≡ 5 = length-take-le 5 (drop 4091 d)
    (let n = length-drop 4091 d in omega (arith, n, long)) in
    ext_get_or 0 (tail_of c) (tail_of d) (here ∙ sym there) (λ i lt.
    let less : i < 5 = omega (arith, lt, here) in
    tail_at c i less ∙ each i less ∙ sym (tail_at d i less))

pub with_tail : (is_standby : Bool) (d c : List ℕ) → tail_of c ≡ tail_of d
    → HasSelector is_standby d → HasSelector is_standby c
with_tail is_standby d c same has = record {
  feed = ap (λ (t : List ℕ). slice_index t 4) same ∙ has.feed;
  selector = ap tail_counts same ∙ has.selector;
}

-- where a write doesn't meet the end of the head
abbrev pub IsElsewhere : ℕ → ℕ → Type 0
IsElsewhere at n = (4096 ≤ at) ⊎ (at + n ≤ 4091)

pub torn_selector : (is_standby : Bool) (at n : ℕ) (d c : List ℕ) → IsElsewhere at n → Torn at n d c
    → HasSelector is_standby d → HasSelector is_standby c
torn_selector is_standby at n d c place torn has =
    let long = end_long d has.feed in
    let low = torn.no_shorter in
    with_tail is_standby d c (tail_same d c long low (λ i less. elim place [
      | inl behind ↦ torn.below (4091 + i) (omega (arith, less, long))
          (omega (arith, less, behind))
      | inr before ↦ torn.above (4091 + i) (omega (arith, less, long)) (omega (arith, before))
    ])) has

pub follows_selector : (is_standby : Bool) (at n : ℕ) (old new : List ℕ → Type 0) → IsElsewhere at n
    → Follows (Torn at n) old new → AllSelect is_standby old → AllSelect is_standby new
follows_selector is_standby at n old new place follows all c may =
    let from = follows c may in
    torn_selector is_standby at n from.0 c place from.2 (all from.0 from.1)

pub zeros_selector : (is_standby : Bool) (at n : ℕ) (file : List ℕ) (old new : List ℕ → Type 0)
    → old file → IsElsewhere at n → ((c : List ℕ) → new c → (old c) ⊎ Torn at n file c)
    → AllSelect is_standby old → AllSelect is_standby new
zeros_selector is_standby at n file old new stays place each all c may = elim (each c may) [
  | inl was ↦ all c was
  | inr torn ↦ torn_selector is_standby at n file c place torn (all file stays)
]

-- ---- a file that was opened

pub opened_selector : (file : List ℕ) (outcomes : List ℕ → Type 0) (steps : ℕ)
    (found is_standby : Bool) → IsHeaded file steps → found ≡ other_counts file → found ≡ is_standby
    → Only file outcomes → AllSelect is_standby outcomes
opened_selector file outcomes steps found is_standby head read is only c may =
    with_tail is_standby file c (ap tail_of (only c may)) (record {
      feed = has_end file steps head;
      selector = sym read ∙ is;
    })

-- ---- the same selector

pub unchanged : (old new : List ℕ) → new ≡ old → SameSelector old new
unchanged old new same = record {
  text = ap believed same;
  selector = ap other_counts same;
}

pub still_same : (old mid new : List ℕ) → SameSelector old mid → new ≡ mid → SameSelector old new
still_same old mid new same still = record {
  text = ap believed still ∙ same.text;
  selector = ap other_counts still ∙ same.selector;
}

pub from_same : (old mid c : List ℕ) → mid ≡ old → SameSelector mid c → SameSelector old c
from_same old mid c same then = subst (λ (t : List ℕ). SameSelector t c) same then
