-- A file that gets its first head.
use Rattle.std.proofs.Common.{◌≡◌, ◌∙◌, ap, sym, subst, ℕ, ◌<◌, ◌≤◌, List, length, replicate, true, false, arith}
use Rattle.std.proofs.lemmas.List.{length-replicate}
use Rattle.sqlite_disk.specs.Disk.{Torn, Mixed}
use Rattle.journal.specs.Crashes.{Only}
use Rattle.journal.specs.Head.{selector_of, is_blank, IsHead}
use Rattle.journal.specs.Selector.{selector_bytes, SameSelector, IsUnused}
use Rattle.journal.proofs.Blanks.{blank_unused, short_left, head_left}

pub blank_left : (file c : List ℕ) → is_blank file ≡ true → c ≡ file → IsUnused c
blank_left file c blank same = subst IsUnused (sym same) (blank_unused file blank)

pub long_left : (zeros file d c : List ℕ) (n size : ℕ) → zeros ≡ replicate n 0 → n ≡ 4095
    → size < 4095 → size ≡ length file → d ≡ file → Torn 0 (length zeros) d c → IsUnused c
long_left zeros file d c n size are count less is same torn =
    let long = ap length are ∙ length-replicate n 0 in
    short_left (length zeros) d c (long ∙ count)
    (let e = ap length same in omega (arith, less, is, e)) torn

pub new_left : (file d c head : List ℕ) (size : ℕ) → is_blank file ≡ true → 4095 ≤ length file
    → IsHead head size 0 → length head ≡ 4096 → selector_of head ≡ selector_bytes false → d ≡ file
    → Mixed 0 head d c → IsUnused c
new_left file d c head size blank long is count none same mixed =
    head_left file c head size blank long is count none
    (subst (λ (t : List ℕ). Mixed 0 head t c) same mixed)

pub unused_then_unused : (old new : List ℕ) → is_blank old ≡ true → IsUnused new
    → SameSelector old new
unused_then_unused old new blank none =
    let before = blank_unused old blank in record {
      text = none.text ∙ sym before.text;
      selector = none.selector ∙ sym before.selector;
    }

-- a file that was synced, was found to have no head, and got one or a part of it
pub opened_left : (old synced found : List ℕ) (rest kept new : List ℕ → Type 0) (size count : ℕ)
    → synced ≡ old → found ≡ synced → Only synced rest → ((c : List ℕ) → kept c → rest c)
    → (is_blank synced ≡ true) × (count ≡ length synced) → size ≡ count
    → (size ≡ length found → is_blank found ≡ true → Only found kept
    → (c : List ℕ) → new c → IsUnused c)
    → (c : List ℕ) → new c → SameSelector old c
opened_left old synced found rest kept new size count same still durable fewer blank long crash c
    may =
    unused_then_unused old c (ap is_blank (sym same) ∙ blank.0)
    (crash (long ∙ blank.1 ∙ ap length (sym still)) (ap is_blank still ∙ blank.0)
    (λ d left. durable d (fewer d left) ∙ sym still) c may)
