-- Notes that stand where a text of format 1 would begin.
use Rattle.std.proofs.Common.{◌≡◌, ◌∙◌, ap, sym, refl, ℕ, ◌<◌, ◌≤◌, List, length, take, drop, true, false, ◌||◌, inl, inr, Option, Some, None, arith, length-drop}
use Rattle.std.proofs.lemmas.Bool.{false≢true, true≢false}
use Rattle.std.proofs.lemmas.List.{drop-drop}
use Rattle.journal.specs.Head.{has_page, is_blank, believed, IsHeaded}
use Rattle.journal.specs.Misnamed.{is_read, HasNote, IsMisnamed}
use Rattle.journal.specs.Notes.{IsNote, StandsAt, Reads}
use Rattle.journal.specs.declared.page.note.Note.{Note}
use Rattle.journal.proofs.Fronts.{slice_within}
use Rattle.journal.proofs.FileHeads.{size_is, read_within}
use Rattle.journal.proofs.NoteTexts.{long_enough}
use Rattle.journal.proofs.Openings.{blank_left}

-- ---- what was read of a page

pub any_note : (page : List ℕ) (card witness : Option Note) → Reads 0 page card
    → Reads 512 page witness → (is_read card || is_read witness) ≡ true → HasNote page
any_note page (Some note) witness one other is = (note, one.0, inl one.1)
any_note page None (Some note) one other is = (note, other.0, inr other.1)
any_note page None None one other is = absurd (false≢true is)

pub none_note : (page : List ℕ) (card witness : Option Note) → Reads 0 page card
    → Reads 512 page witness → (is_read card || is_read witness) ≡ false → HasNote page → ⊥
none_note page (Some note) witness one other is has = true≢false is
none_note page None (Some note) one other is has = true≢false is
none_note page None None one other is has = elim has.2 [
  | inl card ↦ one has.0 has.1 card
  | inr witness ↦ other has.0 has.1 witness
]

-- ---- a page that is too short

short_note : (page : List ℕ) (at : ℕ) (note : Note) → length page ≡ 0 → IsNote note
    → StandsAt at page note → ⊥
short_note page at note none is stands =
    let long = long_enough note is (drop at page) stands in
    let here = length-drop at page in
    omega (arith, none, long, here)

pub no_page : (page : List ℕ) → length page ≡ 0 → HasNote page → ⊥
no_page page none has = elim has.2 [
  | inl card ↦ short_note page 0 has.0 none has.1 card
  | inr witness ↦ short_note page 512 has.0 none has.1 witness
]

-- ---- the front of what is believed

pub page_note : (file block : List ℕ) (steps at : ℕ) → IsHeaded file steps → 0 < steps
    → block ≡ take 4096 (drop 4096 file) → at ≤ 512
    → take 197 (drop at block) ≡ take 197 (drop at (believed file))
page_note file block steps at head some are near =
    ap (λ (t : List ℕ). take 197 (drop at t)) are
    ∙ slice_within 4096 at 197 (drop 4096 file) (omega (arith, near))
    ∙ ap (take 197) (drop-drop at 4096 file)
    ∙ read_within file steps at 197 head (omega (arith, near, some))

pub none_believed : (file : List ℕ) (steps : ℕ) → IsHeaded file steps → steps ≡ 0
    → HasNote (believed file) → ⊥
none_believed file steps head none =
    no_page (believed file) (let size = size_is file steps head in omega (arith, size, none))

-- nothing is believed of a file that never had a head
pub blank_named : (file : List ℕ) → is_blank file ≡ true → IsMisnamed file → ⊥
blank_named file blank is =
    no_page (believed file) (ap length (blank_left file file blank refl).text) is.1

-- a file of format 2 isn't misnamed
pub has_its_name : (file : List ℕ) → has_page file ≡ true → IsMisnamed file → ⊥
has_its_name file has is = true≢false (sym has ∙ is.0)
