-- Two files of a store, whatever a crash left of their pages.
use Rattle.std.proofs.Common.{◌≡◌, ◌∙◌, ap, sym, refl, subst, ℕ, zero, suc, ◌+◌, ◌≤◌, List, [], ◌∷◌, take, drop, Bool, false, not, inl, inr, bytes_eq, Option, Some, None, arith}
use Rattle.std.proofs.lemmas.Bool.Decides.{nat_tests}
use Rattle.std.proofs.lemmas.Bool.{false≢true}
use Rattle.std.proofs.lemmas.List.{take_all, drop-drop}
use Rattle.journal.specs.Text.{is_torn}
use Rattle.journal.specs.Crashes.{Holes}
use Rattle.journal.specs.Notes.{note_text, IsNote, StandsAt, Reads, NoteLeft}
use Rattle.journal.specs.Bonds.{is_strange, is_later, is_far, is_told, bond_of, IsUpTo, IsNext, AreOne}
use Rattle.journal.specs.declared.page.note.Note.{Note}
use Rattle.journal.specs.declared.page.Notes.{Notes}
use Rattle.journal.specs.declared.page.bond.Bond.TheVariants.{Fits}
use Rattle.journal.proofs.Fronts.{take_front}
use Rattle.journal.proofs.Groups.{same_bytes}
use Rattle.journal.proofs.NoteTexts.{length-note_text, note_is_marked, identity_read, generation_read}
use Rattle.journal.proofs.Sums.{one_place}
use Rattle.journal.proofs.Tearing.{whole_or_torn}

-- ---- one text is one note

-- where one text is that of two notes, they have one store and one generation
pub one_note : (a b : Note) → IsNote a → IsNote b → note_text a ≡ note_text b
    → (a.identity ≡ b.identity) × (a.generation ≡ b.generation)
one_note a b is its same =
    let size = length-note_text b its in
    let whole : take 197 (note_text b) ≡ note_text b =
    take_all 197 (note_text b) (omega (arith, size)) in
    let other : take 197 (note_text b) ≡ note_text a = whole ∙ sym same in (
      sym (identity_read a is (note_text b) other) ∙ identity_read b its (note_text b) whole,
      one_place a.generation b.generation is.generation its.generation
          (sym (generation_read a is (note_text b) other)
          ∙ generation_read b its (note_text b) whole),
    )

-- what was known of a note that was put, is known of the one that is read
pub up_to_put : (identity : List ℕ) (generation : ℕ) (note put : Note) → IsNote note → IsNote put
    → note_text note ≡ note_text put → IsUpTo identity generation put
    → IsUpTo identity generation note
up_to_put identity generation note put its is same up =
    let one = one_note note put its is same in record {
      store = one.0 ∙ up.store;
      before = let n = one.1 in let le = up.before in omega (arith, n, le);
    }

pub next_put : (identity : List ℕ) (generation : ℕ) (note put : Note) → IsNote note → IsNote put
    → note_text note ≡ note_text put → IsNext identity generation put
    → IsNext identity generation note
next_put identity generation note put its is same next =
    let one = one_note note put its is same in record {
      store = one.0 ∙ next.store;
      near = elim next.near [
        | inl before ↦ inl (ap (λ (n : ℕ). n + 1) one.1 ∙ before)
        | inr after ↦ inr (after ∙ sym one.1)
      ];
    }

-- ---- the notes that a page keeps

-- the card, where a witness is put
pub kept_card : (old left : List ℕ) (note : Note) → take 512 left ≡ take 512 old
    → StandsAt 0 left note → StandsAt 0 old note
kept_card old left note same stands =
    sym (take_front left old 197 512 (omega arith) same) ∙ stands

-- the witness, where a card is put
pub kept_witness : (old left : List ℕ) (note : Note) → drop 197 left ≡ drop 197 old
    → StandsAt 512 left note → StandsAt 512 old note
kept_witness old left note same stands =
    ap (take 197) (sym (drop-drop 315 197 old) ∙ ap (drop 315) (sym same)
    ∙ drop-drop 315 197 left) ∙ stands

-- whatever a crash left of a witness that was put, the two files are of one store still
pub witness_leaves : (identity : List ℕ) (generation : ℕ) (counting other left : List ℕ)
    (put : Note) → IsNote put → IsUpTo identity generation put
    → AreOne identity generation counting other
    → (NoteLeft 512 put other left → AreOne identity generation counting left)
    × (NoteLeft 512 put counting left → AreOne identity generation left other)
witness_leaves identity generation counting other left put is up one = (
  λ out. record {
    counts = one.counts;
    own = one.own;
    card = λ note its stands. one.card note its (kept_card other left note out.before stands);
    witness = λ note its stands. elim (out.note note its stands) [
      | inl was ↦ one.witness note its was
      | inr new ↦ up_to_put identity generation note put its is new up
    ];
  },
  λ out. record {
    counts = λ note its stands. one.counts note its
        (kept_card counting left note out.before stands);
    own = λ note its stands. elim (out.note note its stands) [
      | inl was ↦ one.own note its was
      | inr new ↦ up_to_put identity generation note put its is new up
    ];
    card = one.card;
    witness = one.witness;
  },
)

-- whatever a crash left of the next file's card, the two files are of one store still
pub card_leaves : (identity : List ℕ) (generation : ℕ) (counting other left : List ℕ)
    (put : Note) → IsNote put → IsNext identity generation put
    → AreOne identity generation counting other → NoteLeft 0 put other left
    → AreOne identity generation counting left
card_leaves identity generation counting other left put is next one out = record {
  counts = one.counts;
  own = one.own;
  card = λ note its stands. elim (out.note note its stands) [
    | inl was ↦ one.card note its was
    | inr new ↦ next_put identity generation note put its is new next
  ];
  witness = λ note its stands. one.witness note its
      (kept_witness other left note out.behind stands);
}

-- ---- bytes are lost

pub holes_behind : (n : ℕ) (old left : List ℕ) → Holes old left → Holes (drop n old) (drop n left)
holes_behind zero old left holes = holes
holes_behind (suc n) [] [] holes = holes
holes_behind (suc n) [] (c ∷ left) holes = absurd holes
holes_behind (suc n) (b ∷ old) [] holes = absurd holes
holes_behind (suc n) (b ∷ old) (c ∷ left) holes = holes_behind n old left holes.1

pub holes_before : (n : ℕ) (old left : List ℕ) → Holes old left → Holes (take n old) (take n left)
holes_before zero old left holes = tt
holes_before (suc n) [] [] holes = holes
holes_before (suc n) [] (c ∷ left) holes = absurd holes
holes_before (suc n) (b ∷ old) [] holes = absurd holes
holes_before (suc n) (b ∷ old) (c ∷ left) holes = (holes.0, holes_before n old left holes.1)

-- a note that can be read lost none
pub still_stands : (at : ℕ) (old left : List ℕ) (note : Note) → IsNote note → Holes old left
    → StandsAt at left note → StandsAt at old note
still_stands at old left note is holes stands =
    elim (whole_or_torn (take 197 (drop at old)) (take 197 (drop at left))
    (holes_before 197 (drop at old) (drop at left) (holes_behind at old left holes))) [
      | inl whole ↦ sym whole ∙ stands
      | inr torn ↦ absurd (false≢true (sym (note_is_marked note is) ∙ ap is_torn (sym stands)
          ∙ torn))
    ]

-- two files are of one store still if notes of the other one are lost
pub lost_leaves : (identity : List ℕ) (generation : ℕ) (counting other left : List ℕ)
    → AreOne identity generation counting other → Holes other left
    → AreOne identity generation counting left
lost_leaves identity generation counting other left one holes = record {
  counts = one.counts;
  own = one.own;
  card = λ note its stands. one.card note its
      (still_stands 0 other left note its holes stands);
  witness = λ note its stands. one.witness note its
      (still_stands 512 other left note its holes stands);
}

-- ---- the other file counts

-- once the other file counts, which has the next card, the two files are of one store still
pub choice_turns : (identity : List ℕ) (generation : ℕ) (counting other : List ℕ) (card : Note)
    → IsNote card → card.identity ≡ identity → card.generation ≡ generation + 1
    → StandsAt 0 other card → AreOne identity generation counting other
    → AreOne identity (generation + 1) other counting
choice_turns identity generation counting other card is same next there one = record {
  counts = λ note its stands.
      let it = one_note note card its is (sym stands ∙ there) in
      (it.0 ∙ same, it.1 ∙ next);
  own = λ note its stands. more (one.witness note its stands);
  card = λ note its stands.
      let it = one.counts note its stands in
      record { store = it.0; near = inl (ap (λ (n : ℕ). n + 1) it.1) };
  witness = λ note its stands. more (one.own note its stands);
}
  where
    more : {note : Note} → IsUpTo identity generation note
        → IsUpTo identity (generation + 1) note
    more up = record {
      store = up.store;
      before = let le = up.before in omega (arith, le);
    }

-- ---- what the notes say

not_strange : (identity : List ℕ) (note : Note) → note.identity ≡ identity
    → is_strange identity note ≡ false
not_strange identity note same =
    ap (λ (t : List ℕ). not (bytes_eq t identity)) same
    ∙ ap not (same_bytes identity)

not_later : (generation : ℕ) (note : Note) → note.generation ≤ generation
    → is_later generation note ≡ false
not_later generation note le = grind (arith, nat_tests, le)

not_far : (identity : List ℕ) (generation : ℕ) (note : Note) → IsNext identity generation note
    → is_far generation note ≡ false
not_far identity generation note next = elim next.near [
  | inl before ↦ grind (arith, nat_tests, before)
  | inr after ↦ grind (arith, nat_tests, after)
]

-- a fact of each note that can be read
told_none : (at : ℕ) (page : List ℕ) (test : Note → Bool) (found : Option Note)
    → Reads at page found → ((note : Note) → IsNote note → StandsAt at page note
    → test note ≡ false) → is_told test found ≡ false
told_none at page test None reads each = refl
told_none at page test (Some note) reads each = each note reads.0 reads.1

-- whatever notes are read from two files of one store after a crash, the files fit
pub crash_fits : (identity : List ℕ) (generation : ℕ) (counting other : List ℕ) (card : Note)
    (own : Option Note) (notes : Notes)
    → AreOne identity generation counting other → IsNote card
    → StandsAt 0 counting card → Reads 512 counting own → Reads 0 other notes.card
    → Reads 512 other notes.witness
    → bond_of card own notes ≡ Fits
crash_fits identity generation counting other card own notes one is there its cards witnesses =
    let mine = one.counts card is there in
    let id = sym mine.0 in
    let n = mine.1 in
    let strange1 = told_none 512 counting (is_strange card.identity) own its
    (λ note it stands. not_strange card.identity note
    ((one.own note it stands).store ∙ id)) in
    let strange2 = told_none 0 other (is_strange card.identity) notes.card cards
    (λ note it stands. not_strange card.identity note
    ((one.card note it stands).store ∙ id)) in
    let strange3 = told_none 512 other (is_strange card.identity) notes.witness witnesses
    (λ note it stands. not_strange card.identity note
    ((one.witness note it stands).store ∙ id)) in
    let later1 = told_none 512 counting (is_later card.generation) own its
    (λ note it stands. not_later card.generation note
    (let le = (one.own note it stands).before in omega (arith, le, n))) in
    let later2 = told_none 512 other (is_later card.generation) notes.witness witnesses
    (λ note it stands. not_later card.generation note
    (let le = (one.witness note it stands).before in omega (arith, le, n))) in
    let far = told_none 0 other (is_far card.generation) notes.card cards
    (λ note it stands. not_far card.identity card.generation note
    (subst (λ (k : ℕ). IsNext card.identity k note) (sym n)
    (subst (λ (t : List ℕ). IsNext t generation note) id (one.card note it stands)))) in
    rw (strange1, strange2, strange3, later1, later2, far) refl
