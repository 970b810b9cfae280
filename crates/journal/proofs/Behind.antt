-- What stands behind a page.
use Rattle.std.proofs.Common.{◌≡◌, ◌⊎◌, ◌∙◌, ap, sym, refl, subst, ℕ, ◌+◌, ◌≤◌, List, ◌++◌, length, take, drop, replicate, min, inl, inr, Option, Some, None, arith, length-drop}
use Rattle.std.proofs.lemmas.Bool.{cases_lt}
use Rattle.std.proofs.lemmas.List.{take-append-drop, take_all, drop-append-le, drop-drop}
use Rattle.journal.specs.Crashes.{Only, Mixes, PutCrash, written}
use Rattle.journal.specs.Growth.{Longer, Behind}
use Rattle.journal.specs.Notes.{Reads}
use Rattle.journal.specs.declared.page.note.Note.{Note}
use Rattle.journal.proofs.Fronts.{slice_within, written_behind}

-- ---- files that a crash may leave

pub fewer_behind : (from : ℕ) (outcomes left : List ℕ → Type 0)
    → ((c : List ℕ) → left c → outcomes c) → (c : List ℕ) → Behind from left c
    → Behind from outcomes c
fewer_behind from outcomes left fewer c may = (may.0, fewer may.0 may.1, may.2)

pub behind_rests : (from : ℕ) (text now : List ℕ) (outcomes left : List ℕ → Type 0) → now ≡ text
    → ((c : List ℕ) → left c → outcomes c) → Only (drop from text) (Behind from outcomes)
    → Only (drop from now) (Behind from left)
behind_rests from text now outcomes left same fewer only c may =
    only c (fewer_behind from outcomes left fewer c may) ∙ ap (drop from) (sym same)

-- where one file alone may be left, so what stands behind a place of it
pub behind_only : (from : ℕ) (text : List ℕ) (outcomes : List ℕ → Type 0) → Only text outcomes
    → Only (drop from text) (Behind from outcomes)
behind_only from text outcomes only c may = may.2 ∙ ap (drop from) (only may.0 may.1)

-- the page rests, and so does what is behind it
pub whole_only : (from : ℕ) (text : List ℕ) (outcomes : List ℕ → Type 0)
    → ((file : List ℕ) → outcomes file → take from file ≡ take from text)
    → Only (drop from text) (Behind from outcomes) → Only text outcomes
whole_only from text outcomes page only c may =
    let back : drop from c ≡ drop from text = only (drop from c) (c, may, refl) in
    sym (take-append-drop from c) ∙ ap (λ (t : List ℕ). t ++ drop from c) (page c may)
    ∙ ap (λ (t : List ℕ). take from text ++ t) back ∙ take-append-drop from text

-- ---- a write

module _ (from at place : ℕ) (text bytes : List ℕ) (there : place ≡ from + at) where
  pub put_behind : (new : List ℕ) → place + length bytes ≤ length text
      → new ≡ written place bytes text → drop from new ≡ written at bytes (drop from text)
  put_behind new fits is =
      ap (drop from) (is ∙ ap (λ (n : ℕ). written n bytes text) there)
      ∙ written_behind from at bytes text (omega (arith, fits, there))

  pub fits_behind : place + length bytes ≤ length text
      → at + length bytes ≤ length (drop from text)
  fits_behind fits = let back = length-drop from text in omega (arith, fits, there, back)

  pub crash_behind : (old new : List ℕ → Type 0)
      → ((c : List ℕ) → new c → old c)
      ⊎ ((place + length bytes ≤ length text) × PutCrash text place bytes new)
      → ((c : List ℕ) → Behind from new c → Behind from old c)
      ⊎ ((at + length bytes ≤ length (drop from text))
      × PutCrash (drop from text) at bytes (Behind from new))
  crash_behind old new crash = elim crash [
    | inl fewer ↦ inl (fewer_behind from old new fewer)
    | inr cut ↦ inr (fits_behind cut.0, λ c may. left cut.0 c may (cut.1 may.0 may.1))
  ]
    where
      left : place + length bytes ≤ length text → (c : List ℕ) → (may : Behind from new c)
          → (mixed : List ℕ) × Mixes (take (length bytes) (drop place text)) bytes mixed
          × (may.0 ≡ written place mixed text)
          → (mixed : List ℕ) × Mixes (take (length bytes) (drop at (drop from text))) bytes mixed
          × (c ≡ written at mixed (drop from text))
      left fits c may out =
          let here : drop place text ≡ drop at (drop from text) =
          ap (λ (n : ℕ). drop n text) there ∙ sym (drop-drop at from text) in (
            out.0,
            subst (λ (t : List ℕ). Mixes (take (length bytes) t) bytes out.0) here out.1,
            may.2 ∙ ap (drop from) (out.2 ∙ ap (λ (n : ℕ). written n out.0 text) there)
                ∙ written_behind from at out.0 text (omega (arith, fits, there)),
          )

-- ---- growth

pub grown_behind : (from : ℕ) (text new : List ℕ) → from ≤ length text → Longer text new
    → Longer (drop from text) (drop from new)
grown_behind from text new room more = (
  more.0,
  ap (drop from) more.1 ∙ drop-append-le from text (replicate more.0 0) room,
)

pub longer_behind : (from : ℕ) (text : List ℕ) (left : List ℕ → Type 0) → from ≤ length text
    → ((c : List ℕ) → left c → Longer text c) → (c : List ℕ) → Behind from left c
    → Longer (drop from text) c
longer_behind from text left room each c may =
    subst (Longer (drop from text)) (sym may.2)
    (grown_behind from text may.0 room (each may.0 may.1))

-- ---- notes

-- the first bytes of a file have the notes of all of it
pub same_note : (text block : List ℕ) (size count at : ℕ) → size ≡ length text
    → count ≡ min size 4096 → block ≡ take count (drop 0 text) → at ≤ 512
    → take 197 (drop at block) ≡ take 197 (drop at text)
same_note text block size count at is less are near =
    ap (λ (t : List ℕ). take 197 (drop at t)) are
    ∙ elim (cases_lt size 4096) [
      | inl few ↦ ap (λ (t : List ℕ). take 197 (drop at t))
          (take_all count text (omega (arith, is, less, few)))
      | inr more ↦ slice_within count at 197 text (omega (arith, near, less, more))
    ]

-- what is read of a note depends on the bytes at its place alone
pub reads_from : (at : ℕ) (a b : List ℕ) (found : Option Note)
    → take 197 (drop at a) ≡ take 197 (drop at b) → Reads at a found → Reads at b found
reads_from at a b (Some note) same reads = (reads.0, sym same ∙ reads.1)
reads_from at a b None same none = λ note its stands. none note its (same ∙ stands)
