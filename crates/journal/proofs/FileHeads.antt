-- What the head of a file tells.
use Rattle.std.proofs.Common.{◌≡◌, ◌∙◌, ap, sym, refl, subst, ℕ, ◌+◌, ◌-◌, ◌*◌, ◌<◌, ◌≤◌, List, [], ◌∷◌, ◌++◌, length, take, drop, inl, inr, arith, length-drop}
use Rattle.std.specs.List.{list_any}
use Rattle.std.proofs.lemmas.Bool.{cases_lt}
use Rattle.std.proofs.lemmas.List.{length-take, length-take-le, take_all, drop_all, drop-drop}
use Rattle.sqlite_disk.specs.Disk.{Torn, Mixed}
use Rattle.journal.specs.Crashes.{Mixes, written}
use Rattle.journal.specs.Head.{is_first_line, marks_of, selector_of, is_other, pairs, believed, IsHead, IsHeaded}
use Rattle.journal.proofs.Fronts.{take_front, slice_front, torn_front, slice_within, written_front, written_behind, written_within}
use Rattle.journal.proofs.Writing.{put_mixed}

-- ---- the head is in the first 4,096 bytes

pub same_marks : (a b : List ℕ) → take 4096 a ≡ take 4096 b → marks_of a ≡ marks_of b
same_marks a b same = slice_front a b 17 4074 (take_front a b 4091 4096 (omega arith) same)

pub same_selector : (a b : List ℕ) → take 4096 a ≡ take 4096 b → selector_of a ≡ selector_of b
same_selector a b same = slice_front a b 4091 3 (take_front a b 4094 4096 (omega arith) same)

-- a file that begins by the same 4,096 bytes, and is no shorter, has the same head
pub head_same : (a b : List ℕ) (size more steps : ℕ) → take 4096 a ≡ take 4096 b → size ≤ more
    → IsHead a size steps → IsHead b more steps
head_same a b size more steps same le head =
    let marks = sym (same_marks a b same) in
    record {
      line = ap is_first_line (sym (take_front a b 17 4096 (omega arith) same)) ∙ head.line;
      marks = ap (list_any is_other) marks ∙ head.marks;
      count = ap pairs marks ∙ head.count;
      later = ap (drop (2 * steps)) marks ∙ head.later;
      selector = ap (list_any is_other) (sym (same_selector a b same)) ∙ head.selector;
      gap = sym (slice_front a b 4094 1 (take_front a b 4095 4096 (omega arith) same)) ∙ head.gap;
      feed = sym (slice_front a b 4095 1 same) ∙ head.feed;
      fits = let enough = head.fits in omega (arith, enough, le);
    }

-- ---- what is believed

module _ (file : List ℕ) (steps : ℕ) (head : IsHeaded file steps) where
  pub believed_is : believed file ≡ take (1048576 * steps) (drop 4096 file)
  believed_is = ap (λ (n : ℕ). take (1048576 * n) (drop 4096 file)) head.count

  -- as many bytes are believed as the steps of the head have
  pub size_is : length (believed file) ≡ 1048576 * steps
  size_is = ap length believed_is
      ∙ length-take-le (1048576 * steps) (drop 4096 file)
      (let here = length-drop 4096 file in let fits = head.fits in omega (arith, here, fits))

pub same_believed : (a b : List ℕ) (steps : ℕ) → pairs (marks_of b) ≡ steps
    → take (4096 + 1048576 * steps) a ≡ take (4096 + 1048576 * steps) b
    → believed a ≡ believed b
same_believed a b steps count same =
    let heads : take 4096 a ≡ take 4096 b =
    take_front a b 4096 (4096 + 1048576 * steps) (omega arith) same in
    let marks : pairs (marks_of a) ≡ steps = ap pairs (same_marks a b heads) ∙ count in
    ap (λ (n : ℕ). take (1048576 * n) (drop 4096 a)) marks
    ∙ slice_front a b 4096 (1048576 * steps) same
    ∙ ap (λ (n : ℕ). take (1048576 * n) (drop 4096 b)) (sym count)

-- a write behind what is believed
pub torn_behind : (file c : List ℕ) (steps at n : ℕ) → IsHeaded file steps
    → at ≡ 4096 + 1048576 * steps → Torn at n file c
    → IsHeaded c steps × (believed c ≡ believed file)
torn_behind file c steps at n head is torn =
    let fits = head.fits in
    let low = torn.no_shorter in
    let front : take at c ≡ take at file = torn_front at n file c torn (omega (arith, fits, is)) in
    let same : take (4096 + 1048576 * steps) c ≡ take (4096 + 1048576 * steps) file =
    subst (λ (k : ℕ). take k c ≡ take k file) is front in (
      head_same file c (length file) (length c) steps
          (sym (take_front c file 4096 at (omega (arith, is)) front)) low head,
      same_believed c file steps head.count same,
    )

-- ---- a write within what is believed

pub believed_length : (file : List ℕ) → length (believed file) ≤ length file - 4096
believed_length file =
    let some = length-take (1048576 * pairs (marks_of file)) (drop 4096 file) in
    let here = length-drop 4096 file in omega (arith, some, here)

-- bytes that are believed, where the file has them
pub read_within : (file : List ℕ) (steps at n : ℕ) → IsHeaded file steps → at + n ≤ 1048576 * steps
    → take n (drop (4096 + at) file) ≡ take n (drop at (believed file))
read_within file steps at n head le =
    sym (ap (λ (t : List ℕ). take n (drop at t)) (believed_is file steps head)
    ∙ slice_within (1048576 * steps) at n (drop 4096 file) le
    ∙ ap (take n) (drop-drop at 4096 file))

module _ (at : ℕ) (bytes file : List ℕ) (inside : 4096 + at ≤ length file)
    (fits : at + length bytes ≤ length (believed file)) where
  -- bytes that are put behind a head are put into what is believed
  pub put_believed : believed (written (4096 + at) bytes file) ≡ written at bytes (believed file)
  put_believed =
      let new = written (4096 + at) bytes file in
      let heads : take 4096 new ≡ take 4096 file =
      written_front 4096 (4096 + at) bytes file (omega arith) inside in
      ap (λ (m : List ℕ). take (1048576 * pairs m) (drop 4096 new)) (same_marks new file heads)
      ∙ ap (take (1048576 * pairs (marks_of file))) (written_behind 4096 at bytes file inside)
      ∙ written_within (1048576 * pairs (marks_of file)) at bytes (drop 4096 file) fits

-- and the head stays as it was
pub put_headed : (at : ℕ) (bytes file new : List ℕ) (steps : ℕ) → 4096 + at ≤ length file
    → new ≡ written (4096 + at) bytes file → length new ≡ length file
    → IsHeaded file steps → IsHeaded new steps
put_headed at bytes file new steps inside is size head =
    head_same file new (length file) (length new) steps
    (sym (ap (take 4096) is ∙ written_front 4096 (4096 + at) bytes file (omega arith) inside))
    (omega (arith, size)) head

take_none : (n : ℕ) → take {A = ℕ} n [] ≡ []
take_none n = take_all n [] (omega arith)

-- a file that is no longer than a head has nothing that is believed
pub short_believed : (file : List ℕ) → length file ≤ 4096 → believed file ≡ []
short_believed file short =
    ap (take (1048576 * pairs (marks_of file))) (drop_all 4096 file short)
    ∙ take_none (1048576 * pairs (marks_of file))

no_bytes : (bytes : List ℕ) → length bytes ≡ 0 → bytes ≡ []
no_bytes [] none = refl
no_bytes (b ∷ bytes) none = absurd (omega (arith, none))

-- a write of nothing, over a file that is no longer than a head
put_nothing : (at : ℕ) (bytes text d c : List ℕ) → believed d ≡ text → at ≡ 0
    → length bytes ≡ 0 → length d < 4096 + at → Mixed (4096 + at) bytes d c
    → (mixed : List ℕ) × Mixes (take (length bytes) (drop at text)) bytes mixed
    × (believed c ≡ written at mixed text)
put_nothing at bytes text d c is none empty short mixed =
    let torn = mixed.torn in
    let long = torn.no_longer in
    let no_text : text ≡ [] = sym is ∙ short_believed d (omega (arith, short, none)) in
    let no_left : believed c ≡ [] = short_believed c
    (omega (arith, short, none, empty, long)) in
    let nothing : bytes ≡ [] = no_bytes bytes empty in (
      [],
      subst (λ (b : List ℕ). Mixes (take (length b) (drop at text)) b []) (sym nothing) tt,
      no_left ∙ sym (ap (written at []) no_text ∙ written_none at none),
    )
  where
    written_none : (at : ℕ) → at ≡ 0 → written at [] [] ≡ []
    written_none at none = ap (λ (t : List ℕ). t ++ drop (at + 0) []) (take_none at)
        ∙ drop_all (at + 0) [] (omega arith)

-- what a crash leaves of it
pub put_leaves : (at : ℕ) (bytes text d c : List ℕ) → believed d ≡ text
    → at + length bytes ≤ length text → Mixed (4096 + at) bytes d c
    → (mixed : List ℕ) × Mixes (take (length bytes) (drop at text)) bytes mixed
    × (believed c ≡ written at mixed text)
put_leaves at bytes text d c is fits mixed =
    let size = ap length is in
    let most = believed_length d in
    let n = length bytes in
    elim (cases_lt (length d) (4096 + at + n)) [
      | inl beyond ↦
          let none : at ≡ 0 = omega (arith, beyond, fits, size, most) in
          let empty : n ≡ 0 = omega (arith, beyond, fits, size, most) in
          put_nothing at bytes text d c is none empty (omega (arith, beyond, fits, size, most))
          mixed
      | inr inside ↦
          let out = put_mixed (4096 + at) bytes d c inside mixed in
          let bound = length-take (1048576 * pairs (marks_of d)) (drop 4096 d) in
          let room : at + n ≤ 1048576 * pairs (marks_of d) = omega (arith, fits, size, bound) in
          let here : take n (drop (4096 + at) d) ≡ take n (drop at text) =
          sym (ap (λ (t : List ℕ). take n (drop at t)) (sym is)
          ∙ slice_within (1048576 * pairs (marks_of d)) at n (drop 4096 d) room
          ∙ ap (take n) (drop-drop at 4096 d)) in (
            out.0,
            subst (λ (old : List ℕ). Mixes old bytes out.0) here out.2,
            ap believed out.3 ∙ put_believed at out.0 d (omega (arith, inside))
                (let long = out.1 in omega (arith, fits, size, long))
                ∙ ap (written at out.0) is,
          )
    ]
