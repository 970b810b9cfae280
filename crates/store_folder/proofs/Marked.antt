-- A witness in the page of the file that counts.
use Rattle.std.proofs.Common.{◌≡◌, ◌∙◌, ap, sym, refl, subst, ℕ, ◌^◌, ◌<◌, List, [], take, drop, Bool, false, inl, inr, arith}
use Rattle.std.proofs.lemmas.List.{drop-drop}
use Rattle.std.specs.Prelude.{IsTrue}
use Rattle.journal.specs.Crashes.{Only}
use Rattle.journal.specs.Reading.{found}
use Rattle.journal.specs.Growth.{Behind}
use Rattle.journal.specs.Head.{believed}
use Rattle.journal.specs.Selector.{HasSelector}
use Rattle.journal.specs.Notes.{IsNote, NoteLeft}
use Rattle.journal.specs.Bonds.{IsUpTo}
use Rattle.journal.specs.declared.page.note.Note.{Note}
use Rattle.journal.proofs.Behind.{behind_only, whole_only}
use Rattle.journal.proofs.Bonding.{witness_leaves}
use Rattle.line_loop.specs.Runs.{FindsOnly}
use Rattle.line_loop.proofs.JournalLines.{read_so}
use Rattle.store_folder.specs.Folders.{Belongs, FindsOf, MayTell}
use Rattle.store_folder.specs.Laws.{IsTrueOf}
use Rattle.store_folder.specs.Logs.{HoldsFolder}
use Rattle.store_folder.specs.Spares.{witness_of}
use Rattle.store_folder.proofs.Folders.{has_folder}
use Rattle.store_folder.proofs.Fronts.{take_front}
use Rattle.store_folder.proofs.Notes.{stands_whole, stands_front, whole_one, paged_one, own_left}
use Rattle.store_folder.proofs.Standing.{is_witness, witness_is_true}
use Rattle.store_folder.proofs.Telling.{tells_these, in_order}

-- ---- the other file still belongs to the one that counts

belongs_own : (text other left : List ℕ) (card : Note) (groups : List (List (List ℕ))) (put : Note)
    → IsNote put → IsUpTo card.identity card.generation put → IsTrueOf card groups put
    → Belongs (take 4096 text) other card groups → NoteLeft 512 put text left
    → Belongs (take 4096 left) other card groups
belongs_own text other left card groups put is up true_of belongs out =
    let store = card.identity in
    let file = card.generation in
    let was = stands_whole 0 text card (omega arith) belongs.stands in record {
      is = belongs.is;
      stands = stands_front 0 left card (omega arith)
          (take_front left text 197 512 (omega arith) out.before ∙ was);
      one = paged_one store file left other
          ((witness_leaves store file text other left put is up
          (whole_one store file text other belongs.one)).1 out);
      kept = λ note read now. elim read.1 [
        | inl card ↦ belongs.kept note (
          read.0,
          inl (stands_front 0 text note (omega arith)
              (take_front text left 197 512 (omega arith) (sym out.before)
              ∙ stands_whole 0 left note (omega arith) card)),
        ) now
        | inr witness ↦ elim witness [
          | inl own ↦ elim (out.note note read.0 (stands_whole 512 left note (omega arith) own)) [
            | inl was ↦ belongs.kept note
                (read.0, inr (inl (stands_front 512 text note (omega arith) was))) now
            | inr same ↦ true_of note read.0 same now
          ]
          | inr there ↦ belongs.kept note (read.0, inr (inr there)) now
        ]
      ];
    }

module _ (card : Note) (is_second : Bool) (first : List ℕ) (clean : Bool) (text : List ℕ)
    (outcomes counts other : List ℕ → Type 0) (last : List ℕ) (end : ℕ) (kept : List (List ℕ))
    (stays : outcomes text)
    (holds : HoldsFolder card is_second first clean text outcomes counts other last end kept [])
    (put : Note) (is_put : put ≡ witness_of card end last) (fits : end < 2 ^ 64) where
  -- all of the file is on the disk
  pub all_rests : Only text outcomes
  all_rests = whole_only 4096 text outcomes
      (λ f left. holds.paged f left ∙ sym (holds.paged text stays)) holds.log.has.has.durable

  page_is : (b : List ℕ) → other b
      → Belongs (take 4096 text) (believed b) card holds.log.has.groups
  page_is b there = subst (λ (p : List ℕ). Belongs p (believed b) card holds.log.has.groups)
      (sym (holds.paged text stays)) (holds.log.belongs b there)

  note_is : IsNote card → IsNote put
  note_is is = subst IsNote (sym is_put) (is_witness card first last end holds.log.has.groups
      holds.log.begins holds.log.has.has.sum holds.log.has.has.ends is fits)

  up_is : IsUpTo card.identity card.generation put
  up_is = record {
    store = ap (λ (n : Note). n.identity) is_put;
    before = let same = ap (λ (n : Note). n.generation) is_put in omega (arith, same);
  }

  true_is : IsNote card → IsTrueOf card holds.log.has.groups put
  true_is is = subst (λ (n : Note). IsTrueOf card holds.log.has.groups n) (sym is_put)
      (witness_is_true card first last end holds.log.has.groups holds.log.begins
      holds.log.has.has.sum holds.log.has.has.ends is fits)

  -- the witness was cut short
  pub still_finds : (new : List ℕ → Type 0)
      → ((a : List ℕ) → new a → NoteLeft 512 put text (believed a))
      → ((a : List ℕ) → new a → HasSelector false a)
      → FindsOnly kept (MayTell is_second new other)
  still_finds new left active told may =
      tells_these may.0 may.1 kept
      (in_order is_second new other kept (λ a here is. (active a here).selector) holds.log.chosen
      may.0 may.1 may.2
      (λ a b here there.
      let belongs = page_is b there in
      let finds : FindsOf text (believed b) kept = record {
        card = card;
        groups = holds.log.has.groups;
        belongs = belongs;
        sound = ap (λ (s : List ℕ). found s (drop 4096 text)) (sym holds.log.begins)
            ∙ read_so first (drop 4096 text) last (Behind 4096 outcomes) end
            holds.log.has.groups holds.log.has.has (drop 4096 text) (text, stays, refl);
        has = holds.log.has.is;
      } in
      own_left text (believed b) (believed a) kept put finds (note_is belongs.is) witness_leaves
      up_is (true_is belongs.is) (left a here))) told may.3

  -- it stands there
  pub still_holds : (now : Bool) (new : List ℕ) (leaves files : List ℕ → Type 0) → IsTrue now
      → NoteLeft 512 put text new → Only new leaves
      → ((a : List ℕ) → files a → leaves (believed a))
      → ((a : List ℕ) → files a → HasSelector false a)
      → HoldsFolder card is_second first now new leaves files other last end kept []
  still_holds now new leaves files reads out only believes active =
      let log = holds.log in
      let behind : drop 4096 new ≡ drop 4096 text =
      sym (drop-drop 3387 709 new) ∙ ap (drop 3387) out.behind ∙ drop-drop 3387 709 text in
      record {
        page = take 4096 new;
        paged = λ f left. ap (take 4096) (only f left);
        log = has_folder (take 4096 new) card is_second (Behind 4096 leaves) files other
            (λ a here. ap (take 4096) (only (believed a) (believes a here)))
            (λ a here is. (active a here).selector)
            (λ a here. (believed a, believes a here, refl)) log.chosen first log.begins now
            (drop 4096 new) last end [] log.has.groups kept [] reads
            (record {
              room = log.has.has.room;
              each = log.has.has.each;
              file = behind ∙ log.has.has.file;
              sum = log.has.has.sum;
              ends = log.has.has.ends;
              durable = behind_only 4096 new leaves only;
            }) log.has.is tt refl
            (λ b at.
            let belongs = page_is b at in
            belongs_own text (believed b) new card log.has.groups put (note_is belongs.is) up_is
            (true_is belongs.is) belongs out);
      }
