-- A file as what is believed of it.
use Rattle.std.proofs.Common.{◌≡◌, ◌⊎◌, ◌∙◌, ap, sym, refl, subst, ℕ, ◌+◌, ◌-◌, ◌*◌, ◌<◌, ◌≤◌, ◌^◌, List, ◌++◌, length, take, drop, replicate, inl, inr, Result, Ok, Err, arith}
use Rattle.std.specs.Prelude.{IfErr}
use Rattle.sqlite_disk.specs.Disk.{Holds, Torn, Mixed, Follows}
use Rattle.journal.specs.Crashes.{Only, written, PutCrash}
use Rattle.journal.specs.Growth.{Longer}
use Rattle.std.proofs.lemmas.List.{append-nil}
use Rattle.journal.specs.Head.{believed, Texts, IsHeaded}
use Rattle.journal.proofs.FileHeads.{believed_is, size_is, read_within, put_believed, put_headed, put_leaves, torn_behind}
use Rattle.journal.proofs.Growth.{is_long, is_grown}

module _ (file : List ℕ) (steps size : ℕ) (head : IsHeaded file steps)
    (is : size ≡ 1048576 * steps) where
  pub text_size : size ≡ length (believed file)
  text_size = is ∙ sym (size_is file steps head)

  pub read_text : (at count place : ℕ) (block : List ℕ) → count ≤ size → at ≤ size - count
      → place ≡ 4096 + at → block ≡ take count (drop place file)
      → block ≡ take count (drop at (believed file))
  read_text at count place block less before there are =
      are ∙ ap (λ (n : ℕ). take count (drop n file)) there
      ∙ read_within file steps at count head (omega (arith, is, less, before))

  module _ (at place : ℕ) (bytes new : List ℕ) (less : length bytes ≤ size)
      (before : at ≤ size - length bytes) (there : place ≡ 4096 + at) where
    pub put_fits : at + length bytes ≤ length (believed file)
    put_fits = let long = text_size in omega (arith, less, before, long)

    inside : place + length bytes ≤ length file
    inside = let fits = head.fits in omega (arith, fits, is, less, before, there)

    pub put_text : (place + length bytes ≤ length file → new ≡ written place bytes file)
        → believed new ≡ written at bytes (believed file)
    put_text put =
        let fits = inside in
        ap believed (put fits ∙ ap (λ (n : ℕ). written n bytes file) there)
        ∙ put_believed at bytes file (omega (arith, fits, there)) put_fits

    pub put_keeps : (place + length bytes ≤ length file → new ≡ written place bytes file)
        → (place + length bytes ≤ length file → length new ≡ length file) → IsHeaded new steps
    put_keeps put same =
        let fits = inside in
        put_headed at bytes file new steps (omega (arith, fits, there))
        (put fits ∙ ap (λ (n : ℕ). written n bytes file) there) (same fits) head

    pub put_crash : (old left : List ℕ → Type 0) → Only (believed file) (Texts old)
        → (place + length bytes < 2 ^ 64 → Follows (Mixed place bytes) old left)
        → steps ≤ 2037 → PutCrash (believed file) at bytes (Texts left)
    put_crash old left only mixes bound c may =
        let from = mixes (omega (arith, is, less, before, there, bound)) may.0 may.1 in
        let mixed : Mixed (4096 + at) bytes from.0 may.0 =
        subst (λ (n : ℕ). Mixed n bytes from.0 may.0) there from.2 in
        let out = put_leaves at bytes (believed file) from.0 may.0
        (only (believed from.0) (from.0, from.1, refl)) put_fits mixed in
        (out.0, out.1, may.2 ∙ out.2)

-- ---- growth

module _ (file : List ℕ) (k at n : ℕ) (head : IsHeaded file k)
    (is : at ≡ 4096 + 1048576 * k) where
  pub behind : (c : List ℕ) → Torn at n file c → IsHeaded c k × (believed c ≡ believed file)
  behind c torn = torn_behind file c k at n head is torn

  -- nothing is seen of the zeros before the marks
  pub unmarked_text : (old left : List ℕ → Type 0) → old file
      → ((c : List ℕ) → left c → (old c) ⊎ Torn at n file c)
      → (c : List ℕ) → Texts left c → Texts old c
  unmarked_text old left stays each c may = elim (each may.0 may.1) [
    | inl was ↦ (may.0, was, may.2)
    | inr torn ↦ (file, stays, may.2 ∙ (behind may.0 torn).1)
  ]

  same_longer : (c : List ℕ) → c ≡ believed file → Longer (believed file) c
  same_longer c same = (0, same ∙ sym (append-nil (believed file)))

  module _ (step : n ≡ 1048576) (more : List ℕ) (torn : Torn at n file more)
      (holds : Holds more at (replicate n 0)) where
    pub more_headed : IsHeaded more k
    more_headed = (behind more torn).0

    pub more_long : 4096 + 1048576 * (k + 1) ≤ length more
    more_long = is_long file more k n at head is step torn holds

    pub grown_text : (new : List ℕ) → IsHeaded new (k + 1) → drop 4096 new ≡ drop 4096 more
        → believed new ≡ believed file ++ replicate n 0
    grown_text new now same = believed_is new (k + 1) now
        ∙ ap (take (1048576 * (k + 1))) same
        ∙ is_grown file more k n at head is step torn holds

    pub marked_text : (c : List ℕ)
        → (believed c ≡ believed more)
        ⊎ (believed c ≡ take (1048576 * (k + 1)) (drop 4096 more))
        → Longer (believed file) (believed c)
    marked_text c which = elim which [
      | inl before ↦ same_longer (believed c) (before ∙ (behind more torn).1)
      | inr after ↦ (n, after ∙ is_grown file more k n at head is step torn holds)
    ]

    -- what a crash leaves of the marks
    pub grown_left : (kept new : List ℕ → Type 0) → Only more kept
        → (IsHeaded more k → 4096 + 1048576 * (k + 1) ≤ length more → Only more kept
        → (c : List ℕ) → new c → (believed c ≡ believed more)
        ⊎ (believed c ≡ take (1048576 * (k + 1)) (drop 4096 more)))
        → (c : List ℕ) → Texts new c → Longer (believed file) c
    grown_left kept new only crash c may =
        subst (λ (t : List ℕ). Longer (believed file) t) (sym may.2)
        (marked_text may.0 (crash more_headed more_long only may.0 may.1))

-- ---- at rest

pub longer_same : (text c : List ℕ) → c ≡ text → Longer text c
longer_same text c same = (0, same ∙ sym (append-nil text))

pub at_any_error : {T E : Type 0} {P : E → Type 0} (result : Result T E) → ((e : E) → P e)
    → IfErr result P
at_any_error (Ok x) f = tt
at_any_error (Err e) f = f e

pub rests_from : (file : List ℕ) (outcomes : List ℕ → Type 0) → Only file outcomes
    → Only (believed file) (Texts outcomes)
rests_from file outcomes only c may = may.2 ∙ ap believed (only may.0 may.1)

pub still_rests : (file now : List ℕ) (outcomes left : List ℕ → Type 0) → now ≡ file
    → ((c : List ℕ) → left c → outcomes c) → Only (believed file) (Texts outcomes)
    → Only (believed now) (Texts left)
still_rests file now outcomes left same fewer only c may =
    only c (may.0, fewer may.0 may.1, may.2) ∙ ap believed (sym same)

pub fewer_texts : (outcomes left : List ℕ → Type 0) → ((c : List ℕ) → left c → outcomes c)
    → (c : List ℕ) → Texts left c → Texts outcomes c
fewer_texts outcomes left fewer c may = (may.0, fewer may.0 may.1, may.2)
