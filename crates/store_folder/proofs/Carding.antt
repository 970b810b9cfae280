-- The card of a checkpoint in the page of the file that doesn't count.
use Rattle.std.proofs.Common.{◌≡◌, ◌∙◌, ap, sym, refl, subst, ℕ, ◌+◌, ◌≤◌, ◌^◌, ◌<◌, List, [], ◌++◌, length, replicate, take, drop, Bool, true, false, if◌then◌else◌, inl, inr, arith, length-drop}
use Rattle.std.proofs.lemmas.List.{length-take}
use Rattle.std.specs.Prelude.{IsTrue}
use Rattle.journal.specs.Crashes.{Only, written}
use Rattle.journal.specs.Text.{sum_after, journal_text, journal_end}
use Rattle.journal.specs.Growth.{Behind}
use Rattle.journal.specs.Notes.{first_sum, note_text, IsNote, StandsAt, NoteLeft}
use Rattle.journal.specs.Bonds.{IsNext}
use Rattle.journal.specs.declared.page.note.Note.{Note}
use Rattle.journal.proofs.Behind.{behind_only, whole_only}
use Rattle.journal.proofs.Fronts.{written_after}
use Rattle.journal.proofs.NoteTexts.{length-note_text, long_enough}
use Rattle.journal.proofs.Bonding.{card_leaves, kept_witness}
use Rattle.line_loop.specs.JournalLines.{lines_of}
use Rattle.store_folder.specs.Folders.{Belongs}
use Rattle.store_folder.specs.Spares.{witness_of}
use Rattle.store_folder.specs.Takings.{Comes, CardLeft, HasWritten, HasCheckpoint}
use Rattle.store_folder.proofs.Notes.{stands_whole, stands_front}
use Rattle.store_folder.proofs.Puts.{stands_there}
use Rattle.store_folder.proofs.Standing.{is_witness}

-- ---- the other file still belongs to the one that counts

-- a note of one page is one of the other
front_moved : (at : ℕ) (old left : List ℕ) (note : Note) → at ≤ 512
    → take 4096 left ≡ take 4096 old → StandsAt at left note → StandsAt at old note
front_moved at old left note le same stands =
    stands_whole at old note le
    (subst (λ (t : List ℕ). StandsAt at t note) same (stands_front at left note le stands))

module _ (page : List ℕ) (card : Note) (groups : List (List (List ℕ))) where
  -- if its page is the same
  pub belongs_paged : (old left : List ℕ) → Belongs page old card groups
      → take 4096 left ≡ take 4096 old → Belongs page left card groups
  belongs_paged old left belongs same = record {
    is = belongs.is;
    stands = belongs.stands;
    one = record {
      counts = belongs.one.counts;
      own = belongs.one.own;
      card = λ note is stands. belongs.one.card note is
          (front_moved 0 old left note (omega arith) same stands);
      witness = λ note is stands. belongs.one.witness note is
          (front_moved 512 old left note (omega arith) same stands);
    };
    kept = λ note read now. elim read.1 [
      | inl card ↦ belongs.kept note (read.0, inl card) now
      | inr witness ↦ elim witness [
        | inl own ↦ belongs.kept note (read.0, inr (inl own)) now
        | inr there ↦ belongs.kept note
            (read.0, inr (inr (front_moved 512 old left note (omega arith) same there))) now
      ]
    ];
  }

  -- where the next card was put
  pub belongs_put : (put : Note) (old left : List ℕ) → Belongs page old card groups → IsNote put
      → IsNext card.identity card.generation put → NoteLeft 0 put old left
      → Belongs page left card groups
  belongs_put put old left belongs is next out = record {
    is = belongs.is;
    stands = belongs.stands;
    one = card_leaves card.identity card.generation page old left put is next belongs.one out;
    kept = λ note read now. elim read.1 [
      | inl card ↦ belongs.kept note (read.0, inl card) now
      | inr witness ↦ elim witness [
        | inl own ↦ belongs.kept note (read.0, inr (inl own)) now
        | inr there ↦ belongs.kept note
            (read.0, inr (inr (kept_witness old left note out.behind there))) now
      ]
    ];
  }

  -- if nothing stands there
  pub belongs_none : (old left : List ℕ) → Belongs page old card groups → length left ≡ 0
      → Belongs page left card groups
  belongs_none old left belongs none = record {
    is = belongs.is;
    stands = belongs.stands;
    one = record {
      counts = belongs.one.counts;
      own = belongs.one.own;
      card = λ note is stands. absurd (no_note 0 note is stands);
      witness = λ note is stands. absurd (no_note 512 note is stands);
    };
    kept = λ note read now. elim read.1 [
      | inl card ↦ belongs.kept note (read.0, inl card) now
      | inr witness ↦ elim witness [
        | inl own ↦ belongs.kept note (read.0, inr (inl own)) now
        | inr there ↦ absurd (no_note 512 note read.0 there)
      ]
    ];
  }
    where
      no_note : (at : ℕ) (note : Note) → IsNote note → StandsAt at left note → ⊥
      no_note at note is stands =
          let long = long_enough note is (drop at left) stands in
          let here = length-drop at left in
          omega (arith, none, long, here)

  -- what is left of the page of a blank file into which a card is put
  pub belongs_carded : (start : Bool) (front text any left : List ℕ)
      → (start ≡ true → Belongs page text card groups) → Belongs page any card groups
      → front ≡ (if start then take 4096 text else []) → CardLeft card front left
      → Belongs page left card groups
  belongs_carded true front text any left known other is out = elim out [
    | inl same ↦ belongs_paged text left (known refl) (same ∙ is)
    | inr put ↦ belongs_put put.put put.before left
        (belongs_paged text put.before (known refl) (put.same ∙ is)) put.is put.next put.note
  ]
  belongs_carded false front text any left known other is out = elim out [
    | inl same ↦ belongs_none any left other (nothing left (same ∙ is))
    | inr put ↦ belongs_none any left other (put.note.size ∙ nothing put.before (put.same ∙ is))
  ]
    where
      nothing : (t : List ℕ) → take 4096 t ≡ [] → length t ≡ 0
      nothing t none =
          let e : length (take 4096 t) ≡ 0 = ap length none in
          let size = length-take 4096 t in
          omega (arith, e, size)

-- ---- the next card

next_is_note : (card next : Note) → Comes card next → IsNote next
next_is_note card next comes = subst IsNote (sym comes.next_one) (record {
  identity = comes.is.identity;
  marked = comes.is.marked;
  generation = comes.fits;
  end = comes.is.end;
  sum = comes.is.sum;
  there = comes.is.there;
})

module _ (card next : Note) (comes : Comes card next) (makes : List (List ℕ) → Type 0)
    (page first text last : List ℕ) (end : ℕ) (outcomes : List ℕ → Type 0)
    (begins : first ≡ first_sum next) (fits : end < 2 ^ 64) (stays : outcomes text)
    (paged : (f : List ℕ) → outcomes f → take 4096 f ≡ page)
    (has : HasWritten makes first (drop 4096 text) (Behind 4096 outcomes) last end) where
  -- all of the file is on the disk
  pub rests : Only text outcomes
  rests = whole_only 4096 text outcomes (λ f left. paged f left ∙ sym (paged text stays))
      has.has.durable

  pub card_is_note : IsNote (witness_of next end last)
  card_is_note = is_witness next first last end has.groups begins has.has.sum has.has.ends
      (next_is_note card next comes) fits

  store_is : next.identity ≡ card.identity
  store_is = ap (λ (n : Note). n.identity) comes.next_one

  file_is : next.generation ≡ card.generation + 1
  file_is = ap (λ (n : Note). n.generation) comes.next_one

  -- the card was cut short
  pub card_left : (put : Note) → put ≡ witness_of next end last → (c : List ℕ)
      → NoteLeft 0 put text c → CardLeft card page c
  card_left put is c out = inr (record {
    put = witness_of next end last;
    is = card_is_note;
    next = record { store = store_is; near = inr (sym file_is) };
    before = text;
    same = paged text stays;
    note = subst (λ (n : Note). NoteLeft 0 n text c) is out;
  })

  -- it stands there
  pub card_there : (put : Note) → put ≡ witness_of next end last → (new : List ℕ)
      (leaves : List ℕ → Type 0) (clean : Bool) → IsTrue clean → 0 + 197 ≤ length text
      → new ≡ written 0 (note_text put) text → Only new leaves
      → (more : List (List ℕ)) × makes more × HasCheckpoint card put clean new leaves more
  card_there put is new leaves clean reads room same only =
      let note : IsNote put = subst IsNote (sym is) card_is_note in
      let size = length-note_text put note in
      let behind : drop 4096 new ≡ drop 4096 text =
      ap (drop 4096) same
      ∙ written_after 0 4096 (note_text put) text (omega arith) (omega (arith, size)) in (
        lines_of has.groups,
        has.made,
        record {
          reads = reads;
          is = note;
          store = ap (λ (n : Note). n.identity) is ∙ store_is;
          comes = ap (λ (n : Note). n.generation) is ∙ file_is;
          stands = stands_there 0 put text new note room same;
          durable = only;
          groups = has.groups;
          has = record {
            room = has.has.room;
            each = has.has.each;
            file = behind ∙ has.has.file
                ∙ ap (λ (s : List ℕ). journal_text s has.groups ++ replicate has.has.room 0)
                first_is;
            sum = ap (λ (n : Note). n.sum) is ∙ has.has.sum
                ∙ ap (λ (s : List ℕ). sum_after s has.groups) first_is;
            ends = ap (λ (n : Note). n.end) is ∙ has.has.ends
                ∙ ap (λ (s : List ℕ). journal_end s has.groups) first_is;
            durable = behind_only 4096 new leaves only;
          };
          are = refl;
        },
      )
    where
      first_is : first ≡ first_sum put
      first_is = begins ∙ ap (λ (n : Note). first_sum n) (sym is)
