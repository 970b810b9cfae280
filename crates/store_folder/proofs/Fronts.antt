-- Bytes behind a front. (As in journal's proofs.)
use Rattle.std.proofs.Common.{◌≡◌, ◌∙◌, ap, sym, ℕ, ◌+◌, ◌-◌, ◌≤◌, List, ◌++◌, length, take, drop, arith}
use Rattle.std.proofs.lemmas.List.{length-take-le, take-append-le, drop-append-le, drop-drop, drop-take, take-take}
use Rattle.journal.specs.Crashes.{written}

pub take_front : (a b : List ℕ) (m n : ℕ) → m ≤ n → take n a ≡ take n b → take m a ≡ take m b
take_front a b m n le same =
    sym (take-take m n a le) ∙ ap (take m) same ∙ take-take m n b le

pub slice_within : (s at n : ℕ) (file : List ℕ) → at + n ≤ s
    → take n (drop at (take s file)) ≡ take n (drop at file)
slice_within s at n file le =
    let rest = s - at in
    let all : s ≡ at + rest = omega (arith, le) in
    ap (λ (k : ℕ). take n (drop at (take k file))) all
    ∙ ap (take n) (drop-take at rest file)
    ∙ take-take n rest (drop at file) (omega (arith, le))

pub written_front : (h at : ℕ) (bytes file : List ℕ) → h ≤ at → at ≤ length file
    → take h (written at bytes file) ≡ take h file
written_front h at bytes file le within =
    let size = length-take-le at file within in
    take-append-le h (take at file) (bytes ++ drop (at + length bytes) file)
    (omega (arith, le, size))
    ∙ take-take h at file le

pub written_behind : (h at : ℕ) (bytes file : List ℕ) → h + at ≤ length file
    → drop h (written (h + at) bytes file) ≡ written at bytes (drop h file)
written_behind h at bytes file within =
    let size = length-take-le (h + at) file within in
    let k = at + length bytes in
    let place : h + at + length bytes ≡ h + k = omega arith in
    drop-append-le h (take (h + at) file) (bytes ++ drop (h + at + length bytes) file)
    (omega (arith, size))
    ∙ ap (λ (t : List ℕ). t ++ (bytes ++ drop (h + at + length bytes) file)) (drop-take h at file)
    ∙ ap (λ (n : ℕ). take at (drop h file) ++ (bytes ++ drop n file)) place
    ∙ ap (λ (t : List ℕ). take at (drop h file) ++ (bytes ++ t)) (sym (drop-drop k h file))
