-- A file with a head, as what is believed of it. (As in journal's proofs.)
use Rattle.std.proofs.Common.{◌≡◌, ◌∙◌, ap, sym, refl, subst, ℕ, ◌+◌, ◌-◌, ◌*◌, ◌<◌, ◌≤◌, ◌^◌, List, length, take, drop, arith, get_or-take}
use Rattle.std.proofs.lemmas.List.{length-take, length-take-le, ext_get_or}
use Rattle.sqlite_disk.specs.Disk.{Holds, Torn, Mixed, Follows}
use Rattle.journal.specs.Crashes.{Only, written, PutCrash}
use Rattle.journal.specs.Head.{believed, Texts, IsHeaded}
use Rattle.journal.proofs.FileHeads.{size_is, read_within, put_believed, put_headed, put_leaves}
use Rattle.store_folder.proofs.OpeningReads.{put_done, same_size}

module _ (file : List ℕ) (steps size : ℕ) (head : IsHeaded file steps)
    (is : size ≡ 1048576 * steps) where
  pub text_size : size ≡ length (believed file)
  text_size = is ∙ sym (size_is file steps head)

  pub read_text : (at count place : ℕ) (block : List ℕ) → count ≤ size → at ≤ size - count
      → place ≡ 4096 + at → block ≡ take count (drop place file)
      → block ≡ take count (drop at (believed file))
  read_text at count place block less before there are =
      are ∙ ap (λ (n : ℕ). take count (drop n file)) there
      ∙ read_within file steps at count head (omega (arith, is, less, before))

  module _ (at place : ℕ) (bytes : List ℕ) (less : length bytes ≤ size)
      (before : at ≤ size - length bytes) (there : place ≡ 4096 + at) where
    pub put_fits : at + length bytes ≤ length (believed file)
    put_fits = let long = text_size in omega (arith, less, before, long)

    inside : place + length bytes ≤ length file
    inside = let fits = head.fits in omega (arith, fits, is, less, before, there)

    module _ (new : List ℕ) (torn : Torn place (length bytes) file new)
        (holds : 0 < length bytes → Holds new place bytes) where
      done : new ≡ written (4096 + at) bytes file
      done = put_done place bytes file new torn holds inside
          ∙ ap (λ (n : ℕ). written n bytes file) there

      pub put_text : believed new ≡ written at bytes (believed file)
      put_text =
          let fits = inside in
          ap believed done ∙ put_believed at bytes file (omega (arith, fits, there)) put_fits

      pub put_keeps : IsHeaded new steps
      put_keeps =
          let fits = inside in
          put_headed at bytes file new steps (omega (arith, fits, there)) done
          (same_size place (length bytes) file new torn inside) head

    pub put_crash : (old left : List ℕ → Type 0) → Only (believed file) (Texts old)
        → (place + length bytes < 2 ^ 64 → Follows (Mixed place bytes) old left)
        → steps ≤ 2037 → PutCrash (believed file) at bytes (Texts left)
    put_crash old left only mixes bound c may =
        let from = mixes (omega (arith, is, less, before, there, bound)) may.0 may.1 in
        let mixed : Mixed (4096 + at) bytes from.0 may.0 =
        subst (λ (n : ℕ). Mixed n bytes from.0 may.0) there from.2 in
        let out = put_leaves at bytes (believed file) from.0 may.0
        (only (believed from.0) (from.0, from.1, refl)) put_fits mixed in
        (out.0, out.1, may.2 ∙ out.2)

-- ---- the head of each file that a crash may leave

torn_before : (h at n : ℕ) (old new : List ℕ) → Torn at n old new → h ≤ at → h ≤ length old
    → take h new ≡ take h old
torn_before h at n old new torn le within =
    let low = torn.no_shorter in
    let here = length-take-le h new (omega (arith, low, within)) in
    let there = length-take-le h old within in
    ext_get_or 0 (take h new) (take h old) (here ∙ sym there) (λ i lt.
    let below : i < h = omega (arith, lt, here) in
    get_or-take h new i 0 below
    ∙ torn.below i (omega (arith, below, within)) (omega (arith, below, le))
    ∙ sym (get_or-take h old i 0 below))

-- a file with a head is longer than that
pub head_long : (file front : List ℕ) (steps : ℕ) → IsHeaded file steps → take 4096 file ≡ front
    → length front ≡ 4096
head_long file front steps head is =
    let fits = head.fits in
    ap length (sym is) ∙ length-take-le 4096 file (omega (arith, fits))

-- bytes are written behind it
pub head_stays : (front : List ℕ) (at place n : ℕ) (old left : List ℕ → Type 0)
    → length front ≡ 4096 → place ≡ 4096 + at
    → ((file : List ℕ) → old file → take 4096 file ≡ front)
    → Follows (Torn place n) old left → (file : List ℕ) → left file → take 4096 file ≡ front
head_stays front at place n old left long there fronts torn file may =
    let from = torn file may in
    let same = fronts from.0 from.1 in
    let size = ap length same in
    let least = length-take 4096 from.0 in
    torn_before 4096 place n from.0 file from.2 (omega (arith, there))
    (omega (arith, size, least, long)) ∙ same

-- ---- at rest

pub rests_from : (file : List ℕ) (outcomes : List ℕ → Type 0) → Only file outcomes
    → Only (believed file) (Texts outcomes)
rests_from file outcomes only c may = may.2 ∙ ap believed (only may.0 may.1)

pub still_rests : (file now : List ℕ) (outcomes left : List ℕ → Type 0) → now ≡ file
    → ((c : List ℕ) → left c → outcomes c) → Only (believed file) (Texts outcomes)
    → Only (believed now) (Texts left)
still_rests file now outcomes left same fewer only c may =
    only c (may.0, fewer may.0 may.1, may.2) ∙ ap believed (sym same)

pub fewer_texts : (outcomes left : List ℕ → Type 0) → ((c : List ℕ) → left c → outcomes c)
    → (c : List ℕ) → Texts left c → Texts outcomes c
fewer_texts outcomes left fewer c may = (may.0, fewer may.0 may.1, may.2)
