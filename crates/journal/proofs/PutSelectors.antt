-- A selector that is put.
use Rattle.std.proofs.Common.{◌≡◌, ◌⊎◌, ◌∙◌, ap, sym, refl, ℕ, ◌≤◌, ◌==◌, List, [], ◌∷◌, ◌++◌, length, take, drop, slice_index, Bool, true, false, inl, inr, arith, length-drop}
use Rattle.std.proofs.lemmas.Bool.{cases_lt, eqb-true}
use Rattle.std.proofs.lemmas.List.{length-take-le}
use Rattle.sqlite_disk.specs.Disk.{Mixed}
use Rattle.journal.specs.Crashes.{Mixes, written}
use Rattle.journal.specs.Head.{selector_of}
use Rattle.journal.specs.Selector.{tail_of, tail_counts, is_most, selector_byte, selector_bytes, HasSelector, SelectorLeft}
use Rattle.journal.proofs.Selectors.{end_long}
use Rattle.journal.proofs.FileHeads.{short_believed}
use Rattle.journal.proofs.MixedBytes.{says, none_other, mixed_says, mixed_none}
use Rattle.journal.proofs.ThreeBytes.{same_text, selector_put, same_head, tail_put, tail_parts}
use Rattle.journal.proofs.Writing.{put_mixed}

-- ---- what a crash leaves

pub none_left : (w : Bool) (file : List ℕ) → SelectorLeft w file file
none_left w file = record {
  text = refl;
  head = λ steps head. head;
  selector = λ was has. inl has;
}

pub selector_left : (w : Bool) (d c : List ℕ) → Mixed 4091 (selector_bytes w) d c
    → SelectorLeft w d c
selector_left w d c mixed =
    elim (cases_lt (length d) 4094) [
      | inl short ↦
          let torn = mixed.torn in
          let most = torn.no_longer in record {
            text = short_believed c (omega (arith, short, most))
                ∙ sym (short_believed d (omega (arith, short)));
            head = λ steps head. absurd (let fits = head.fits in omega (arith, short, fits));
            selector = λ was has. absurd (let long = end_long d has.feed in
                omega (arith, short, long));
          }
      | inr within ↦
          let torn = mixed.torn in
          let out = put_mixed 4091 (selector_bytes w) d c within mixed in
          let three : length out.0 ≡ 3 = out.1 in record {
            text = same_text d c out.0 within three out.3;
            head = λ steps head. same_head d c out.0 within three out.3 steps
                (let low = torn.no_shorter in let high =
                torn.no_longer in omega (arith, low, high, within))
                (mixed_none (selector_of d) (selector_bytes w) out.0 out.2 head.selector
                (none_other w))
                head;
            selector = λ was has. one_of w was d c out.0 within three out.3 out.2 has;
          }
    ]
  where
    one_of : (w was : Bool) (d c mixed : List ℕ) → 4094 ≤ length d → length mixed ≡ 3
        → c ≡ written 4091 mixed d → Mixes (selector_of d) (selector_bytes w) mixed
        → HasSelector was d → HasSelector was c ⊎ HasSelector w c
    one_of w was d c mixed within three is mixes has =
        let rest = take 2 (drop 4094 d) in
        let before : tail_of d ≡ selector_of d ++ rest = tail_parts d in
        let after : tail_of c ≡ mixed ++ rest = tail_put d c mixed within three is in
        let said = mixed_says w (selector_of d) mixed rest mixes
        (ap (λ (t : List ℕ). slice_index t 4) (sym before) ∙ has.feed) in
        let feed : slice_index (tail_of c) 4 ≡ 10 =
        ap (λ (t : List ℕ). slice_index t 4) after ∙ said.0 in
        elim said.1 [
          | inl same ↦ inl (record {
            feed = feed;
            selector = ap tail_counts after ∙ same ∙ ap tail_counts (sym before) ∙ has.selector;
          })
          | inr new ↦ inr (record { feed = feed; selector = ap tail_counts after ∙ new })
        ]

-- ---- what was put whole

pub put_has : (w : Bool) (d c : List ℕ) → slice_index (tail_of d) 4 ≡ 10
    → c ≡ written 4091 (selector_bytes w) d → HasSelector w c
put_has w d c feed is =
    let long = end_long d feed in
    let rest = take 2 (drop 4094 d) in
    let before : tail_of d ≡ selector_of d ++ rest = tail_parts d in
    let after : tail_of c ≡ selector_bytes w ++ rest =
    tail_put d c (selector_bytes w) (omega (arith, long)) refl is in
    let here : slice_index (selector_bytes w ++ rest) 4 ≡ 10 =
    fifth (selector_of d) rest
    (length-take-le 3 (drop 4091 d) (let n = length-drop 4091 d in omega (arith, n, long)))
    (ap (λ (t : List ℕ). slice_index t 4) (sym before) ∙ feed) in record {
      feed = ap (λ (t : List ℕ). slice_index t 4) after ∙ here;
      selector = ap tail_counts after ∙ says (selector_bytes w ++ rest) here ∙ all_say w;
    }
  where
    fifth : (three rest : List ℕ) → length three ≡ 3 → slice_index (three ++ rest) 4 ≡ 10
        → slice_index rest 1 ≡ 10
    fifth [] rest size is = absurd (omega (arith, size))
    fifth (a ∷ []) rest size is = absurd (omega (arith, size))
    fifth (a ∷ b ∷ []) rest size is = absurd (omega (arith, size))
    fifth (a ∷ b ∷ c ∷ []) rest size is = is
    fifth (a ∷ b ∷ c ∷ d ∷ three) rest size is = absurd (omega (arith, size))

    all_say : (w : Bool) → is_most (selector_byte w) (selector_byte w) (selector_byte w) ≡ w
    all_say true = refl
    all_say false = refl

module _ (w end : Bool) (old read new : List ℕ) (same : read ≡ old)
    (says : end ≡ (slice_index (tail_of old) 4 == 10)) (is : end ≡ true)
    (put : 4096 ≤ length read → new ≡ written 4091 (selector_bytes w) read)
    (size : 4096 ≤ length read → length new ≡ length read) where
  feed : slice_index (tail_of old) 4 ≡ 10
  feed = eqb-true (slice_index (tail_of old) 4) 10 (sym says ∙ is)

  long : 4096 ≤ length old
  long = end_long old feed

  here : 4096 ≤ length read
  here = let e = ap length same in let enough = long in omega (arith, e, enough)

  new_is : new ≡ written 4091 (selector_bytes w) old
  new_is = put here ∙ ap (written 4091 (selector_bytes w)) same

  new_size : length new ≡ length old
  new_size = size here ∙ ap length same

  pub selected_now : HasSelector w new
  selected_now = put_has w old new feed new_is

  pub whole_now : selector_of new ≡ selector_bytes w
  whole_now = selector_put old new (selector_bytes w) (let enough = long in omega (arith, enough))
      refl new_is

  pub left_now : SelectorLeft w old new
  left_now = record {
    text = same_text old new (selector_bytes w) (let enough = long in omega (arith, enough)) refl
        new_is;
    head = λ steps head. same_head old new (selector_bytes w)
        (let enough = long in omega (arith, enough)) refl new_is steps new_size (none_other w)
        head;
    selector = λ was has. inr selected_now;
  }
