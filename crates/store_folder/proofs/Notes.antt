-- Notes that are put into the pages of a folder's files.
use Rattle.std.proofs.Common.{◌≡◌, ◌∙◌, ap, sym, subst, ℕ, ◌+◌, ◌≤◌, List, take, drop, inl, inr, arith}
use Rattle.std.proofs.lemmas.List.{drop-drop}
use Rattle.journal.specs.Reading.{found}
use Rattle.journal.specs.Notes.{first_sum, IsNote, StandsAt, NoteLeft}
use Rattle.journal.specs.Bonds.{AreOne, IsUpTo, IsNext, AWitnessLeavesThemOne, ACardLeavesThemOne, AChoiceTurnsThem}
use Rattle.journal.specs.declared.page.note.Note.{Note}
use Rattle.store_folder.specs.Folders.{IsKept, FindsOf}
use Rattle.store_folder.specs.Laws.{IsTrueOf, IsCheckpoint}
use Rattle.store_folder.proofs.Fronts.{take_front, slice_within}

-- ---- the page of a file has its notes

pub stands_whole : (at : ℕ) (text : List ℕ) (note : Note) → at ≤ 512
    → StandsAt at (take 4096 text) note → StandsAt at text note
stands_whole at text note le stands =
    sym (slice_within 4096 at 197 text (omega (arith, le))) ∙ stands

pub stands_front : (at : ℕ) (text : List ℕ) (note : Note) → at ≤ 512 → StandsAt at text note
    → StandsAt at (take 4096 text) note
stands_front at text note le stands = slice_within 4096 at 197 text (omega (arith, le)) ∙ stands

module _ (identity : List ℕ) (generation : ℕ) (a b : List ℕ) where
  pub whole_one : AreOne identity generation (take 4096 a) b → AreOne identity generation a b
  whole_one one = record {
    counts = λ note is stands. one.counts note is (stands_front 0 a note (omega arith) stands);
    own = λ note is stands. one.own note is (stands_front 512 a note (omega arith) stands);
    card = one.card;
    witness = one.witness;
  }

  pub paged_one : AreOne identity generation a b → AreOne identity generation (take 4096 a) b
  paged_one one = record {
    counts = λ note is stands. one.counts note is (stands_whole 0 a note (omega arith) stands);
    own = λ note is stands. one.own note is (stands_whole 512 a note (omega arith) stands);
    card = one.card;
    witness = one.witness;
  }

  pub other_whole : AreOne identity generation a (take 4096 b) → AreOne identity generation a b
  other_whole one = record {
    counts = one.counts;
    own = one.own;
    card = λ note is stands. one.card note is (stands_front 0 b note (omega arith) stands);
    witness = λ note is stands. one.witness note is (stands_front 512 b note (omega arith) stands);
  }

-- ---- a note is put

-- the card, where a witness is put
card_before : (old left : List ℕ) (note : Note) → take 512 left ≡ take 512 old
    → StandsAt 0 old note → StandsAt 0 left note
card_before old left note same stands = take_front left old 197 512 (omega arith) same ∙ stands

-- the witness, where a card is put
witness_behind : (old left : List ℕ) (note : Note) → drop 197 left ≡ drop 197 old
    → StandsAt 512 left note → StandsAt 512 old note
witness_behind old left note same stands =
    ap (take 197) (sym (drop-drop 315 197 old) ∙ ap (drop 315) (sym same)
    ∙ drop-drop 315 197 left) ∙ stands

-- what stands behind the page, where a witness is put
text_behind : (old left : List ℕ) → drop 709 left ≡ drop 709 old → drop 4096 left ≡ drop 4096 old
text_behind old left same =
    sym (drop-drop 3387 709 left) ∙ ap (drop 3387) same ∙ drop-drop 3387 709 old

module _ (counts other left : List ℕ) (lines : List (List ℕ)) (put : Note)
    (finds : FindsOf counts other lines) (is : IsNote put) where
  -- a witness in the other file
  pub witness_left : AWitnessLeavesThemOne
      → IsUpTo finds.card.identity finds.card.generation put
      → IsTrueOf finds.card finds.groups put → NoteLeft 512 put other left
      → FindsOf counts left lines
  witness_left law up true_of out = record {
    card = finds.card;
    groups = finds.groups;
    belongs = record {
      is = finds.belongs.is;
      stands = finds.belongs.stands;
      one = (law finds.card.identity finds.card.generation (take 4096 counts) other left put is up
          finds.belongs.one).0 out;
      kept = λ note read now. elim read.1 [
        | inl card ↦ finds.belongs.kept note (read.0, inl card) now
        | inr witness ↦ elim witness [
          | inl own ↦ finds.belongs.kept note (read.0, inr (inl own)) now
          | inr there ↦ elim (out.note note read.0 there) [
            | inl was ↦ finds.belongs.kept note (read.0, inr (inr was)) now
            | inr same ↦ true_of note read.0 same now
          ]
        ]
      ];
    };
    sound = finds.sound;
    has = finds.has;
  }

  -- a witness in the file that counts
  pub own_left : AWitnessLeavesThemOne → IsUpTo finds.card.identity finds.card.generation put
      → IsTrueOf finds.card finds.groups put → NoteLeft 512 put counts left
      → FindsOf left other lines
  own_left law up true_of out =
      let store = finds.card.identity in
      let file = finds.card.generation in
      let was = stands_whole 0 counts finds.card (omega arith) finds.belongs.stands in
      record {
        card = finds.card;
        groups = finds.groups;
        belongs = record {
          is = finds.belongs.is;
          stands = stands_front 0 left finds.card (omega arith)
              (card_before counts left finds.card out.before was);
          one = paged_one store file left other
              ((law store file counts other left put is up
              (whole_one store file counts other finds.belongs.one)).1 out);
          kept = λ note read now. elim read.1 [
            | inl card ↦ finds.belongs.kept note (
              read.0,
              inl (stands_front 0 counts note (omega arith)
                  (card_before left counts note (sym out.before)
                  (stands_whole 0 left note (omega arith) card))),
            ) now
            | inr witness ↦ elim witness [
              | inl own ↦ elim (out.note note read.0
                  (stands_whole 512 left note (omega arith) own)) [
                    | inl was ↦ finds.belongs.kept note
                        (read.0, inr (inl (stands_front 512 counts note (omega arith) was))) now
                    | inr same ↦ true_of note read.0 same now
                  ]
              | inr there ↦ finds.belongs.kept note (read.0, inr (inr there)) now
            ]
          ];
        };
        sound = ap (found (first_sum finds.card)) (text_behind counts left out.behind)
            ∙ finds.sound;
        has = finds.has;
      }

  -- the card of a checkpoint in the other file
  pub card_left : ACardLeavesThemOne → IsNext finds.card.identity finds.card.generation put
      → NoteLeft 0 put other left → FindsOf counts left lines
  card_left law next out = record {
    card = finds.card;
    groups = finds.groups;
    belongs = record {
      is = finds.belongs.is;
      stands = finds.belongs.stands;
      one = law finds.card.identity finds.card.generation (take 4096 counts) other left put is next
          finds.belongs.one out;
      kept = λ note read now. elim read.1 [
        | inl card ↦ finds.belongs.kept note (read.0, inl card) now
        | inr witness ↦ elim witness [
          | inl own ↦ finds.belongs.kept note (read.0, inr (inl own)) now
          | inr there ↦ finds.belongs.kept note
              (read.0, inr (inr (witness_behind other left note out.behind there))) now
        ]
      ];
    };
    sound = finds.sound;
    has = finds.has;
  }

-- ---- the other file counts

-- a note of an earlier generation asks for nothing of the next file
earlier : (card note : Note) (groups : List (List (List ℕ))) (identity : List ℕ) (generation : ℕ)
    → card.generation ≡ generation + 1 → IsUpTo identity generation note → IsKept card groups note
earlier card note groups identity generation next up now =
    let before = up.before in absurd (omega (arith, next, before, now))

-- the other file counts, which has a checkpoint
pub turned : (counts other : List ℕ) (lines more : List (List ℕ)) → AChoiceTurnsThem
    → (finds : FindsOf counts other lines)
    → IsCheckpoint finds.card.identity finds.card.generation other more → FindsOf other counts more
turned counts other lines more law finds has =
    let store = finds.card.identity in
    let file = finds.card.generation in
    let one : AreOne store (file + 1) other (take 4096 counts) =
    law store file (take 4096 counts) other has.card has.is has.store has.next has.stands
    finds.belongs.one in
    let named : AreOne has.card.identity (file + 1) other (take 4096 counts) =
    subst (λ (id : List ℕ). AreOne id (file + 1) other (take 4096 counts)) (sym has.store) one in
    let both : AreOne has.card.identity has.card.generation other (take 4096 counts) =
    subst (λ (n : ℕ). AreOne has.card.identity n other (take 4096 counts)) (sym has.next) named in
    record {
      card = has.card;
      groups = has.groups;
      belongs = record {
        is = has.is;
        stands = stands_front 0 other has.card (omega arith) has.stands;
        one = paged_one has.card.identity has.card.generation other counts
            (other_whole has.card.identity has.card.generation other counts both);
        kept = λ note read now. elim read.1 [
          | inl card ↦ has.kept note read.0 (stands_whole 0 other note (omega arith) card) now
          | inr witness ↦ elim witness [
            | inl own ↦ earlier has.card note has.groups store file has.next
                (finds.belongs.one.witness note read.0
                (stands_whole 512 other note (omega arith) own)) now
            | inr there ↦ earlier has.card note has.groups store file has.next
                (finds.belongs.one.own note read.0
                (stands_front 512 counts note (omega arith) there)) now
          ]
        ];
      };
      sound = has.sound;
      has = has.has;
    }
