-- A witness that is put into the page of the file that doesn't count.
use Rattle.std.proofs.Common.{◌≡◌, ◌∙◌, ap, sym, refl, subst, Bool, inr, ℕ, ◌+◌, ◌≤◌, List, ◌++◌, length, take, drop, inl, arith}
use Rattle.std.proofs.lemmas.List.{append-nil, length-take-le, take_at, drop_at}
use Rattle.std.specs.Prelude.{IsTrue}
use Rattle.sqlite_disk.specs.Disk.{Follows}
use Rattle.journal.specs.Crashes.{Only, written}
use Rattle.journal.specs.Head.{believed, Texts}
use Rattle.journal.specs.Selector.{AllSelect, SameSelector, LeavesSelector}
use Rattle.journal.specs.Growth.{Longer}
use Rattle.journal.specs.Notes.{note_text, IsNote, StandsAt}
use Rattle.journal.specs.declared.page.note.Note.{Note}
use Rattle.journal.proofs.NoteTexts.{length-note_text}
use Rattle.store_folder.specs.Spares.{WitnessLeft, WitnessIn}

-- nothing was put
pub as_it_was : (text left : List ℕ) → left ≡ text → Longer text left
as_it_was text left same = (0, same ∙ sym (append-nil text))

-- a page was made at most
pub only_longer : (put : Note) (old left : List ℕ) → Longer old left → WitnessLeft put old left
only_longer put old left more = (
  left,
  more,
  record {
    before = refl;
    behind = refl;
    size = refl;
    note = λ note is stands. inl stands;
  },
)

-- the note stands where it was put
pub stands_there : (at : ℕ) (put : Note) (old new : List ℕ) → IsNote put → at + 197 ≤ length old
    → new ≡ written at (note_text put) old → StandsAt at new put
stands_there at put old new is fits same =
    let front = take at old in
    let text = note_text put in
    let back = drop (at + length text) old in
    let long : length front ≡ at = length-take-le at old (omega (arith, fits)) in
    ap (λ (t : List ℕ). take 197 (drop at t)) same
    ∙ ap (take 197) (drop_at front (text ++ back) at long)
    ∙ take_at text back 197 (length-note_text put is)

-- ---- a file is opened

pub clean_as : {D : Type 0} (is_clean : D → Bool) (a b : D) → a ≡ b → IsTrue (is_clean a)
    → IsTrue (is_clean b)
clean_as is_clean a b same clean = subst (λ d. IsTrue (is_clean d)) same clean

-- a file that wasn't changed
pub alike : (old new : List ℕ → Type 0) → ((c : List ℕ) → new c → old c)
    → Follows SameSelector old new
alike old new fewer c left = (c, fewer c left, record { text = refl; selector = refl })

-- one whose head was read
pub head_read : (seen : List ℕ) (old mid new : List ℕ → Type 0) → ((c : List ℕ) → mid c → old c)
    → mid seen → LeavesSelector seen mid new → Follows SameSelector old new
head_read seen old mid new fewer stays crash c left = elim (crash c left) [
  | inl was ↦ (c, fewer c was, record { text = refl; selector = refl })
  | inr same ↦ (seen, fewer seen stays, same)
]

-- ---- a file takes a witness

pub none_put : (put : Note) (leaves : List ℕ → Type 0) → Follows (WitnessIn put) leaves leaves
none_put put leaves c left = (
  c,
  left,
  record {
    text = only_longer put (believed c) (believed c) (as_it_was (believed c) (believed c) refl);
    selector = refl;
  },
)

pub put_in : (put : Note) (standby : Bool) (seen : List ℕ) (old new : List ℕ → Type 0) → old seen
    → AllSelect standby old → AllSelect standby new
    → ((t : List ℕ) → Texts new t → WitnessLeft put (believed seen) t)
    → Follows (WitnessIn put) old new
put_in put standby seen old new stays selected selects crash c left = (
  seen,
  stays,
  record {
    text = crash (believed c) (c, left, refl);
    selector = (selects c left).selector ∙ sym (selected seen stays).selector;
  },
)

-- the note stands in each file that is left
pub stands_each : (put : Note) (text : List ℕ) (leaves : List ℕ → Type 0)
    → Only text (Texts leaves) → StandsAt 512 text put → (c : List ℕ) → leaves c
    → StandsAt 512 (believed c) put
stands_each put text leaves only stands c left =
    subst (λ (t : List ℕ). StandsAt 512 t put) (sym (only (believed c) (c, left, refl))) stands

-- ---- one disk under two names

pub leaves_as : {D : Type 0} (leaves : D → List ℕ → Type 0) (a b : D) → a ≡ b → (c : List ℕ)
    → leaves a c → leaves b c
leaves_as leaves a b same c left = subst (λ d. leaves d c) same left

pub seen_as : {D : Type 0} (seen : D → List ℕ) (a b : D) → a ≡ b → seen a ≡ seen b
seen_as seen a b same = ap seen same
