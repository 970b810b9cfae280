-- Files that have one front, and bytes written behind it.
use Rattle.std.proofs.Common.{◌≡◌, ◌∙◌, ap, sym, ℕ, ◌+◌, ◌-◌, ◌<◌, ◌≤◌, List, ◌++◌, length, take, drop, arith, append_assoc, length-append, get_or-take}
use Rattle.std.proofs.lemmas.List.{length-take, length-take-le, take-append-le, drop-append-le, drop-drop, drop-take, take-take, take_at, drop_at, ext_get_or}
use Rattle.std.proofs.Math.Seq.{take-add}
use Rattle.sqlite_disk.specs.Disk.{Torn}
use Rattle.journal.specs.Crashes.{written}

-- ---- one front

pub take_front : (a b : List ℕ) (m n : ℕ) → m ≤ n → take n a ≡ take n b → take m a ≡ take m b
take_front a b m n le same =
    sym (take-take m n a le) ∙ ap (take m) same ∙ take-take m n b le

-- two texts with one front have the same bytes in it
pub slice_front : (a b : List ℕ) (h s : ℕ) → take (h + s) a ≡ take (h + s) b
    → take s (drop h a) ≡ take s (drop h b)
slice_front a b h s same = sym (drop-take h s a) ∙ ap (drop h) same ∙ drop-take h s b

pub torn_front : (at n : ℕ) (old new : List ℕ) → Torn at n old new → at ≤ length old
    → take at new ≡ take at old
torn_front at n old new torn within =
    let low = torn.no_shorter in
    let here = length-take-le at new (omega (arith, low, within)) in
    let there = length-take-le at old within in
    ext_get_or 0 (take at new) (take at old) (here ∙ sym there) (λ i lt.
    let below : i < at = omega (arith, lt, here) in
    get_or-take at new i 0 below ∙ torn.below i (omega (arith, below, within)) below
    ∙ sym (get_or-take at old i 0 below))

-- ---- a part of a part

-- a part of a front is that part of the text
pub slice_within : (s at n : ℕ) (file : List ℕ) → at + n ≤ s
    → take n (drop at (take s file)) ≡ take n (drop at file)
slice_within s at n file le =
    let rest = s - at in
    let all : s ≡ at + rest = omega (arith, le) in
    ap (λ (k : ℕ). take n (drop at (take k file))) all
    ∙ ap (take n) (drop-take at rest file)
    ∙ take-take n rest (drop at file) (omega (arith, le))

-- ---- bytes written behind a front

pub written_front : (h at : ℕ) (bytes file : List ℕ) → h ≤ at → at ≤ length file
    → take h (written at bytes file) ≡ take h file
written_front h at bytes file le within =
    let size = length-take-le at file within in
    take-append-le h (take at file) (bytes ++ drop (at + length bytes) file)
    (omega (arith, le, size))
    ∙ take-take h at file le

pub written_behind : (h at : ℕ) (bytes file : List ℕ) → h + at ≤ length file
    → drop h (written (h + at) bytes file) ≡ written at bytes (drop h file)
written_behind h at bytes file within =
    let size = length-take-le (h + at) file within in
    let k = at + length bytes in
    let place : h + at + length bytes ≡ h + k = omega arith in
    drop-append-le h (take (h + at) file) (bytes ++ drop (h + at + length bytes) file)
    (omega (arith, size))
    ∙ ap (λ (t : List ℕ). t ++ (bytes ++ drop (h + at + length bytes) file)) (drop-take h at file)
    ∙ ap (λ (n : ℕ). take at (drop h file) ++ (bytes ++ drop n file)) place
    ∙ ap (λ (t : List ℕ). take at (drop h file) ++ (bytes ++ t)) (sym (drop-drop k h file))

pub written_within : (s at : ℕ) (bytes file : List ℕ) → at + length bytes ≤ length (take s file)
    → take s (written at bytes file) ≡ written at bytes (take s file)
written_within s at bytes file fits =
    let short = length-take s file in
    let k = at + length bytes in
    let rest = s - k in
    let front = take at file in
    let back = drop k file in
    let long : length front ≡ at = length-take-le at file (omega (arith, fits, short)) in
    let both : length (front ++ bytes) ≡ k = length-append front bytes
    ∙ ap (λ (n : ℕ). n + length bytes) long in
    let all : s ≡ k + rest = omega (arith, fits, short) in
    ap (take s) (sym (append_assoc front bytes back))
    ∙ ap (λ (n : ℕ). take n ((front ++ bytes) ++ back)) all
    ∙ take-add k rest ((front ++ bytes) ++ back)
    ∙ ap (λ (t : List ℕ). t ++ take rest (drop k ((front ++ bytes) ++ back)))
    (take_at (front ++ bytes) back k both)
    ∙ ap (λ (t : List ℕ). (front ++ bytes) ++ take rest t)
    (drop_at (front ++ bytes) back k both)
    ∙ ap (λ (t : List ℕ). (front ++ bytes) ++ t) (sym (drop-take k rest file))
    ∙ ap (λ (n : ℕ). (front ++ bytes) ++ drop k (take n file)) (sym all)
    ∙ append_assoc front bytes (drop k (take s file))
    ∙ ap (λ (t : List ℕ). t ++ (bytes ++ drop k (take s file)))
    (sym (take-take at s file (omega (arith, fits, short))))

-- bytes that are written leave what stands behind them
pub written_after : (at n : ℕ) (bytes file : List ℕ) → at ≤ length file → at + length bytes ≤ n
    → drop n (written at bytes file) ≡ drop n file
written_after at n bytes file within le =
    let k = at + length bytes in
    let rest = n - k in
    let front = take at file in
    let back = drop k file in
    let both : length (front ++ bytes) ≡ k = length-append front bytes
    ∙ ap (λ (m : ℕ). m + length bytes) (length-take-le at file within) in
    let all : k + rest ≡ n = omega (arith, le) in
    ap (drop n) (sym (append_assoc front bytes back))
    ∙ ap (λ (m : ℕ). drop m ((front ++ bytes) ++ back)) (sym all)
    ∙ sym (drop-drop rest k ((front ++ bytes) ++ back))
    ∙ ap (drop rest) (drop_at (front ++ bytes) back k both)
    ∙ drop-drop rest k file
    ∙ ap (λ (m : ℕ). drop m file) all
