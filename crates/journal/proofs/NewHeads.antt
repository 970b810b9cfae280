-- The head of a new file.
use Rattle.std.proofs.Common.{◌≡◌, ◌∙◌, ap, sym, refl, ℕ, ◌+◌, ◌-◌, ◌*◌, ◌≤◌, List, [], ◌∷◌, ◌++◌, length, take, drop, replicate, false, Result, Ok, Err, arith, append_assoc, length-append}
use Rattle.std.specs.List.{list_any}
use Rattle.std.specs.Prelude.{IfOk}
use Rattle.std.proofs.lemmas.List.{length-replicate, replicate-append-replicate, drop-drop, take_at, drop_at, take_all}
use Rattle.sqlite_disk.specs.Disk.{Holds}
use Rattle.journal.specs.Head.{first_line, is_first_line, marks_of, selector_of, is_other, pairs, IsHead, IsHeaded}
use Rattle.journal.proofs.Pairs.{pairs_zeros, no_others}
use Rattle.journal.specs.Selector.{selector_bytes}
use Rattle.journal.proofs.FileHeads.{head_same}
use Rattle.journal.proofs.Writing.{holds_take}

module _ (head : List ℕ) (n : ℕ) (is : head ≡ first_line ++ (replicate n 0 ++ 10 ∷ []))
    (count : n ≡ 4078) where
  abbrev zeros : List ℕ
  zeros = replicate (n - 4) 0

  abbrev last : List ℕ
  last = 0 ∷ 0 ∷ 0 ∷ 0 ∷ 10 ∷ []

  -- the marks, and what stands behind them
  head_is : head ≡ first_line ++ (zeros ++ last)
  head_is =
      let all : n ≡ n - 4 + 4 = omega (arith, count) in
      is ∙ ap (λ (k : ℕ). first_line ++ (replicate k 0 ++ 10 ∷ [])) all
      ∙ ap (λ (t : List ℕ). first_line ++ (t ++ 10 ∷ []))
      (sym (replicate-append-replicate (n - 4) 4 0))
      ∙ ap (λ (t : List ℕ). first_line ++ t)
      (append_assoc zeros (0 ∷ 0 ∷ 0 ∷ 0 ∷ []) (10 ∷ []))

  zeros_long : length zeros ≡ 4074
  zeros_long = length-replicate (n - 4) 0 ∙ omega (arith, count)

  marks_are : marks_of head ≡ zeros
  marks_are = ap (λ (t : List ℕ). take 4074 (drop 17 t)) head_is
      ∙ ap (take 4074) (drop_at first_line (zeros ++ last) 17 refl)
      ∙ take_at zeros last 4074 zeros_long

  last_is : drop 4091 head ≡ last
  last_is = ap (drop 4091) (head_is ∙ sym (append_assoc first_line zeros last))
      ∙ drop_at (first_line ++ zeros) last 4091
      (length-append first_line zeros ∙ (let long = zeros_long in omega (arith, long)))

  behind_last : (k : ℕ) → drop (4091 + k) head ≡ drop k last
  behind_last k = sym (drop-drop k 4091 head) ∙ ap (drop k) last_is

  pub new_selector : selector_of head ≡ selector_bytes false
  new_selector = ap (take 3) last_is

  pub new_size : length head ≡ 4096
  new_size =
      let both = length-append first_line (zeros ++ last) in
      let rest = length-append zeros last in
      let long = zeros_long in
      ap length head_is ∙ omega (arith, both, rest, long)

  pub new_head_is : (size steps : ℕ) → steps ≡ 0 → 4096 ≤ size → IsHead head size steps
  new_head_is size steps none le = record {
    line = ap is_first_line (ap (take 17) head_is ∙ take_at first_line (zeros ++ last) 17 refl);
    marks = ap (list_any is_other) marks_are ∙ no_others (n - 4);
    count = ap pairs marks_are ∙ pairs_zeros (n - 4) ∙ sym none;
    later =
        let nothing : 2 * steps ≡ 0 = omega (arith, none) in
        let left : n - 4 ≡ 4074 - 2 * steps = omega (arith, none, count) in
        ap (λ (k : ℕ). drop k (marks_of head)) nothing
        ∙ marks_are ∙ ap (λ (k : ℕ). replicate k 0) left;
    selector = ap (λ (t : List ℕ). list_any is_other (take 3 t)) last_is;
    gap = ap (take 1) (behind_last 3);
    feed = ap (take 1) (behind_last 4);
    fits = omega (arith, none, le);
  }

-- put over the front of a file
pub put_new : (head new : List ℕ) (steps : ℕ) → IsHead head 4096 steps → length head ≡ 4096
    → Holds new 0 head → IsHeaded new steps
put_new head new steps is count there =
    head_same head new 4096 (length new) steps
    (take_all 4096 head (omega (arith, count)) ∙ holds_take 0 new head there
    ∙ ap (λ (n : ℕ). take n new) count)
    (let within = there.within in omega (arith, within, count)) is

-- ---- results

pub if_ok : {T E : Type 0} {P Q : T → Type 0} (result : Result T E) → ((x : T) → P x → Q x)
    → IfOk result P → IfOk result Q
if_ok (Ok x) f p = f x p
if_ok (Err e) f p = tt
