-- The page of a file, by the first bytes of it.
use Rattle.std.proofs.Common.{◌≡◌, ◌∙◌, ap, sym, refl, ℕ, suc, ◌*◌, ◌≤◌, List, [], ◌∷◌, length, take, drop, true, false, Option, Some, None, arith}
use Rattle.std.proofs.lemmas.Bool.{false≢true}
use Rattle.std.proofs.lemmas.List.{take-take, drop-take}
use Rattle.journal.specs.Head.{marks_of, pairs, believed, IsHead, IsHeaded}
use Rattle.journal.specs.Notes.{Reads}
use Rattle.journal.specs.declared.page.note.Note.{Note}
use Rattle.journal.proofs.Behind.{reads_from}
use Rattle.journal.proofs.FileHeads.{head_same}
use Rattle.journal.proofs.Fronts.{slice_within}
use Rattle.store_folder.specs.Openings.{has_step}

-- ---- the first pair of marks

none_pairs : (n : ℕ) (marks : List ℕ) → has_step marks ≡ false
    → pairs (take (suc (suc n)) marks) ≡ 0
none_pairs n [] not_so = refl
none_pairs n (one ∷ []) not_so = refl
none_pairs n (one ∷ other ∷ marks) not_so = rw not_so refl

some_pairs : (n : ℕ) (marks : List ℕ) → has_step marks ≡ true
    → (k : ℕ) × (pairs (take (suc (suc n)) marks) ≡ suc k)
some_pairs n [] is_so = absurd (false≢true is_so)
some_pairs n (one ∷ []) is_so = absurd (false≢true is_so)
some_pairs n (one ∷ other ∷ marks) is_so = (pairs (take n marks), rw is_so refl)

module _ (file front : List ℕ) (is : front ≡ take 8192 file) where
  marks_are : marks_of file ≡ take (suc (suc 4072)) (drop 17 front)
  marks_are = sym (slice_within 8192 17 4074 file (omega arith))
      ∙ ap (λ (t : List ℕ). take 4074 (drop 17 t)) (sym is)

  pub page_none : has_step (drop 17 front) ≡ false → [] ≡ take 4096 (believed file)
  page_none not_so =
      let none : pairs (marks_of file) ≡ 0 =
      ap pairs marks_are ∙ none_pairs 4072 (drop 17 front) not_so in
      sym (ap (λ (n : ℕ). take 4096 (take (1048576 * n) (drop 4096 file))) none)

  pub page_some : has_step (drop 17 front) ≡ true → drop 4096 front ≡ take 4096 (believed file)
  page_some is_so =
      let some = some_pairs 4072 (drop 17 front) is_so in
      let count : pairs (marks_of file) ≡ suc some.0 = ap pairs marks_are ∙ some.1 in
      ap (drop 4096) is ∙ drop-take 4096 4096 file
      ∙ sym (ap (λ (n : ℕ). take 4096 (take (1048576 * n) (drop 4096 file))) count
      ∙ take-take 4096 (1048576 * suc some.0) (drop 4096 file) (omega arith))

-- ---- notes

-- a page has the notes of its file
pub reads_whole : (at : ℕ) (file page : List ℕ) (note : Option Note) → at ≤ 512
    → page ≡ take 4096 file → Reads at page note → Reads at file note
reads_whole at file page note near is =
    reads_from at page file note (ap (λ (t : List ℕ). take 197 (drop at t)) is
    ∙ slice_within 4096 at 197 file (omega (arith, near)))

-- what stands behind a place of a page
pub reads_behind : (at : ℕ) (page rest : List ℕ) (note : Option Note) → rest ≡ drop at page
    → Reads 0 rest note → Reads at page note
reads_behind at page rest (Some note) is reads = (reads.0, ap (take 197) (sym is) ∙ reads.1)
reads_behind at page rest None is none = λ note its stands.
    none note its (ap (take 197) is ∙ stands)

-- ---- a head

pub front_headed : (file head : List ℕ) (size steps : ℕ) → head ≡ take 4096 file
    → size ≡ length file → IsHead head size steps → IsHeaded file steps
front_headed file head size steps is all has =
    head_same head file size (length file) steps
    (ap (take 4096) is ∙ take-take 4096 4096 file (omega arith)) (omega (arith, all)) has
