-- Notes that were read of two files, and what they say of the file that counts.
use Rattle.std.proofs.Common.{◌≡◌, ◌⊎◌, ◌∙◌, ap, sym, refl, subst, ℕ, ◌+◌, ◌≤◌, ◌==◌, List, take, Bool, true, false, not, ◌&&◌, ◌||◌, if◌then◌else◌, inl, inr, bytes_eq, Option, Some, None, arith}
use Rattle.std.specs.Option.{option_map_or}
use Rattle.std.proofs.lemmas.Bool.Decides.{nat_tests}
use Rattle.std.proofs.lemmas.Bool.{cases_Bool, true≢false}
use Rattle.std.proofs.lemmas.Slice.Eq.{bytes_eq-Decides}
use Rattle.std.proofs.lemmas.List.{take_all}
use Rattle.journal.specs.Notes.{note_text, IsNote, StandsAt, Reads}
use Rattle.journal.specs.Bonds.{is_strange, is_later, is_far, is_told, has_strange, has_later, bond_of, AreOne}
use Rattle.journal.specs.declared.page.note.Note.{Note}
use Rattle.journal.specs.declared.page.Notes.{Notes}
use Rattle.journal.specs.declared.page.bond.Bond.{Bond}
use Rattle.journal.specs.declared.page.bond.Bond.TheVariants.{Fits, OtherStore, OtherMoment, Stale}
use Rattle.journal.proofs.Bonding.{one_note, crash_fits}
use Rattle.journal.proofs.Behind.{reads_from}
use Rattle.journal.proofs.Fronts.{slice_within}
use Rattle.journal.proofs.NoteTexts.{length-note_text, end_read, sum_read}
use Rattle.journal.proofs.Sums.{one_place}
use Rattle.store_folder.specs.Folders.{IsRead, IsKept, Belongs, FindsOf}
use Rattle.store_folder.specs.declared.opening.error.OpenError.{OpenError}
use Rattle.store_folder.specs.declared.opening.error.OpenError.TheVariants.{NoCard}
use Rattle.store_folder.specs.Openings.{unfit_by, unfit_in, IsKeptIf, AreKept, HasCard}

-- ---- one text is one note

pub same_note : (a b : Note) → IsNote a → IsNote b → note_text a ≡ note_text b → a ≡ b
same_note a b is its same =
    let size = length-note_text b its in
    let whole : take 197 (note_text b) ≡ note_text b =
    take_all 197 (note_text b) (omega (arith, size)) in
    let other : take 197 (note_text b) ≡ note_text a = whole ∙ sym same in
    let names = one_note a b is its same in
    let ends : a.end ≡ b.end = one_place a.end b.end is.end its.end
    (sym (end_read a is (note_text b) other) ∙ end_read b its (note_text b) whole) in
    let sums : a.sum ≡ b.sum =
    sym (sum_read a is (note_text b) other) ∙ sum_read b its (note_text b) whole in
    λ i. record {
      identity = names.0 i;
      generation = names.1 i;
      end = ends i;
      sum = sums i;
    }

-- one note stands at a place
pub only_note : (at : ℕ) (page : List ℕ) (a b : Note) → IsNote a → IsNote b → StandsAt at page a
    → StandsAt at page b → a ≡ b
only_note at page a b is its here there = same_note a b is its (sym here ∙ there)

-- the one that was read
pub read_is : (at : ℕ) (page : List ℕ) (read : Option Note) (note : Note) → Reads at page read
    → IsNote note → StandsAt at page note → read ≡ Some note
read_is at page (Some other) note reads is here =
    ap (λ (n : Note). Some n) (only_note at page other note reads.0 is reads.1 here)
read_is at page None note none is here = absurd (none note is here)

-- ---- a page and the file that it begins

pub reads_front : (at : ℕ) (file : List ℕ) (read : Option Note) → at ≤ 512 → Reads at file read
    → Reads at (take 4096 file) read
reads_front at file read near reads =
    reads_from at file (take 4096 file) read
    (sym (slice_within 4096 at 197 file (omega (arith, near)))) reads

pub stands_front : (at : ℕ) (file : List ℕ) (note : Note) → at ≤ 512 → StandsAt at file note
    → StandsAt at (take 4096 file) note
stands_front at file note near here = slice_within 4096 at 197 file (omega (arith, near)) ∙ here

pub stands_whole : (at : ℕ) (file : List ℕ) (note : Note) → at ≤ 512
    → StandsAt at (take 4096 file) note → StandsAt at file note
stands_whole at file note near here =
    sym (slice_within 4096 at 197 file (omega (arith, near))) ∙ here

-- ---- what notes that fit say

or_none : (a b : Bool) → (a || b) ≡ false → (a ≡ false) × (b ≡ false)
or_none true b both = absurd (true≢false both)
or_none false b both = (refl, both)

and_none : (a b : Bool) → (a && b) ≡ false → (a ≡ false) ⊎ (b ≡ false)
and_none true b both = inr both
and_none false b both = inl refl

-- none of three tests holds
chosen_fits : (strange later far : Bool)
    → (if strange then OtherStore else if later then Stale else if far then OtherMoment else Fits)
    ≡ Fits
    → (strange ≡ false) × (later ≡ false) × (far ≡ false)
chosen_fits true later far is = absurd (cc is)
chosen_fits false true far is = absurd (cc is)
chosen_fits false false true is = absurd (cc is)
chosen_fits false false false is = (refl, refl, refl)

same_name : (identity : List ℕ) (note : Note) → is_strange identity note ≡ false
    → note.identity ≡ identity
same_name identity note not_so = elim (cases_Bool (bytes_eq note.identity identity)) [
  | inl same ↦ (bytes_eq-Decides note.identity identity).0 same
  | inr other ↦ absurd (true≢false (sym (ap not other) ∙ not_so))
]

not_after : (generation : ℕ) (note : Note) → is_later generation note ≡ false
    → note.generation ≤ generation
not_after generation note not_so = grind (arith, nat_tests, not_so)

near_one : (generation : ℕ) (note : Note) → is_far generation note ≡ false
    → (note.generation + 1 ≡ generation) ⊎ (generation + 1 ≡ note.generation)
near_one generation note not_so = elim (cases_Bool (note.generation + 1 == generation)) [
  | inl before ↦ inl (grind (arith, nat_tests, before))
  | inr some ↦ elim (cases_Bool (generation + 1 == note.generation)) [
    | inl after ↦ inr (grind (arith, nat_tests, after))
    | inr other ↦ absurd (true≢false (sym (rw (some, other) refl) ∙ not_so))
  ]
]

told_so : (test : Note → Bool) (read : Option Note) (note : Note) → read ≡ Some note
    → is_told test read ≡ false → test note ≡ false
told_so test read note is not_so = sym (ap (is_told test) is) ∙ not_so

fits_none : (bond : Bond) → unfit_by bond ≡ None → bond ≡ Fits
fits_none Fits none = refl
fits_none OtherStore none = absurd (cc none)
fits_none OtherMoment none = absurd (cc none)
fits_none Stale none = absurd (cc none)

-- a card that was read, where the other notes fit
pub has_card : (page : List ℕ) (own other : Notes) (card : Note) → Reads 0 page own.card
    → Reads 512 page own.witness → own.card ≡ Some card → unfit_in own other ≡ None
    → HasCard page other own.witness card
has_card page own other card cards witnesses is fits =
    let read : IsNote card × StandsAt 0 page card = subst (Reads 0 page) is cards in
    let bond : unfit_by (bond_of card own.witness other) ≡ None =
    sym (ap (λ (n : Option Note). option_map_or
    (λ m. unfit_by (bond_of m own.witness other)) n (Some NoCard)) is) ∙ fits in
    record {
      is = read.0;
      stands = read.1;
      witness = witnesses;
      fits = fits_none (bond_of card own.witness other) bond;
    }

module _ (page standby : List ℕ) (own : Option Note) (other : Notes) (card : Note)
    (has : HasCard page other own card) (cards : Reads 0 standby other.card)
    (witnesses : Reads 512 standby other.witness) where
  tests : (has_strange card own other ≡ false) × (has_later card own other ≡ false)
      × (is_told (is_far card.generation) other.card ≡ false)
  tests = chosen_fits (has_strange card own other) (has_later card own other)
      (is_told (is_far card.generation) other.card) has.fits

  names : (is_told (is_strange card.identity) own ≡ false)
      × (is_told (is_strange card.identity) other.card ≡ false)
      × (is_told (is_strange card.identity) other.witness ≡ false)
  names =
      let one = or_none _ _ tests.0 in
      let two = or_none _ _ one.1 in
      (one.0, two.0, two.1)

  later : (is_told (is_later card.generation) own ≡ false)
      × (is_told (is_later card.generation) other.witness ≡ false)
  later = or_none _ _ tests.1

  -- such files are of one store
  pub fits_one : AreOne card.identity card.generation page standby
  fits_one = record {
    counts = λ note is here.
        let same = only_note 0 page note card is has.is here has.stands in
        (ap (λ (n : Note). n.identity) same, ap (λ (n : Note). n.generation) same);
    own = λ note is here.
        let read = read_is 512 page own note has.witness is here in
        record {
          store = same_name card.identity note
              (told_so (is_strange card.identity) own note read names.0);
          before = not_after card.generation note
              (told_so (is_later card.generation) own note read later.0);
        };
    card = λ note is here.
        let read = read_is 0 standby other.card note cards is here in
        record {
          store = same_name card.identity note
              (told_so (is_strange card.identity) other.card note read names.1);
          near = near_one card.generation note
              (told_so (is_far card.generation) other.card note read tests.2);
        };
    witness = λ note is here.
        let read = read_is 512 standby other.witness note witnesses is here in
        record {
          store = same_name card.identity note
              (told_so (is_strange card.identity) other.witness note read names.2);
          before = not_after card.generation note
              (told_so (is_later card.generation) other.witness note read later.1);
        };
  }

  -- a note that stands there is found as well as the one that was read
  kept_so : (groups : List (List (List ℕ))) (read : Option Note) (note : Note)
      → read ≡ Some note → IsKeptIf card groups read → IsKept card groups note
  kept_so groups read note is kept = subst (IsKeptIf card groups) is kept

  -- the groups under the card belong to them, if they lack nothing
  pub fits_belongs : (groups : List (List (List ℕ))) → AreKept card own other.witness groups
      → Belongs page standby card groups
  fits_belongs groups kept = record {
    is = has.is;
    stands = has.stands;
    one = fits_one;
    kept = λ note read. elim read.1 [
      | inl here ↦ subst (IsKept card groups)
          (only_note 0 page card note has.is read.0 has.stands here) kept.part
      | inr there ↦ elim there [
        | inl mine ↦ kept_so groups own note
            (read_is 512 page own note has.witness read.0 mine) kept.kept_own
        | inr other_one ↦ kept_so groups other.witness note
            (read_is 512 standby other.witness note witnesses read.0 other_one) kept.kept_other
      ]
    ];
  }

-- ---- what a start finds is what was read

-- what was read is kept
kept_read : (page standby : List ℕ) (card : Note) (groups : List (List (List ℕ)))
    (read : Option Note) → ((note : Note) → read ≡ Some note → IsRead page standby note)
    → Belongs page standby card groups → IsKeptIf card groups read
kept_read page standby card groups (Some note) is belongs = belongs.kept note (is note refl)
kept_read page standby card groups None is belongs = tt

module _ (file standby : List ℕ) (lines : List (List ℕ)) (finds : FindsOf file standby lines) where
  -- its card
  pub found_card : (card : Note) → IsNote card → StandsAt 0 file card → finds.card ≡ card
  found_card card is here =
      only_note 0 (take 4096 file) finds.card card finds.belongs.is is finds.belongs.stands
      (stands_front 0 file card (omega arith) here)

  pub found_read : (read : Option Note) → Reads 0 file read → read ≡ Some finds.card
  found_read read reads = read_is 0 file read finds.card reads finds.belongs.is
      (stands_whole 0 file finds.card (omega arith) finds.belongs.stands)

  -- notes that are read of these files fit
  pub found_fits : (own : Option Note) (other : Notes) → Reads 512 file own
      → Reads 0 standby other.card → Reads 512 standby other.witness
      → bond_of finds.card own other ≡ Fits
  found_fits own other mine cards witnesses =
      crash_fits finds.card.identity finds.card.generation (take 4096 file) standby finds.card own
      other finds.belongs.one finds.belongs.is finds.belongs.stands
      (reads_front 512 file own (omega arith) mine) cards witnesses

  -- so no start refuses them
  pub never_unfit : (own other : Notes) (error : OpenError) → Reads 0 file own.card
      → Reads 512 file own.witness → Reads 0 standby other.card → Reads 512 standby other.witness
      → unfit_in own other ≡ Some error → ⊥
  never_unfit own other error mine witness cards witnesses unfit =
      let fits = found_fits own.witness other witness cards witnesses in
      let none : unfit_in own other ≡ None =
      ap (λ (n : Option Note). option_map_or
      (λ m. unfit_by (bond_of m own.witness other)) n (Some NoCard)) (found_read own.card mine)
      ∙ ap unfit_by fits in
      cc (sym none ∙ unfit)

  read_note : (at : ℕ) (page : List ℕ) (read : Option Note) (note : Note) → Reads at page read
      → read ≡ Some note → IsNote note × StandsAt at page note
  read_note at page read note reads is = subst (Reads at page) is reads

  -- and they are kept
  pub found_kept : (own other : Option Note) → Reads 512 file own → Reads 512 standby other
      → AreKept finds.card own other finds.groups
  found_kept own other mine theirs = record {
    part = finds.belongs.kept finds.card (finds.belongs.is, inl finds.belongs.stands);
    kept_own = kept_read (take 4096 file) standby finds.card finds.groups own
        (λ note is. let it = read_note 512 file own note mine is in
        (it.0, inr (inl (stands_front 512 file note (omega arith) it.1)))) finds.belongs;
    kept_other = kept_read (take 4096 file) standby finds.card finds.groups other
        (λ note is. let it = read_note 512 standby other note theirs is in
        (it.0, inr (inr it.1))) finds.belongs;
  }
