-- What holds of a folder whose other file was changed.
use Rattle.std.proofs.Common.{◌≡◌, ◌∙◌, ap, sym, refl, subst, ℕ, zero, suc, ◌^◌, ◌<◌, ◌==◌, ◌&&◌, List, [], ◌∷◌, ◌++◌, length, take, drop, replicate, slice_index, Bool, true, false, inl, inr, arith}
use Rattle.std.proofs.lemmas.Bool.Decides.{nat_tests}
use Rattle.std.proofs.lemmas.Bool.{false≢true}
use Rattle.std.proofs.lemmas.List.{append-nil, take_all}
use Rattle.std.specs.Prelude.{IsTrue}
use Rattle.sqlite_disk.specs.Disk.{Follows}
use Rattle.journal.specs.Text.{is_torn, sum_of, place_text, group_sum, sum_after, journal_text, journal_end, lines_text}
use Rattle.journal.specs.Growth.{Longer, Behind}
use Rattle.journal.specs.Head.{believed}
use Rattle.journal.specs.Selector.{tail_of, is_most, other_counts, HasSelector, AllSelect, SameSelector}
use Rattle.journal.specs.Notes.{first_sum, note_text, is_found, IsNote, StandsAt, NoteLeft}
use Rattle.journal.specs.Bonds.{IsUpTo}
use Rattle.journal.specs.declared.page.note.Note.{Note}
use Rattle.journal.proofs.Sums.{length-sum_of, sum_is_marked, one_place}
use Rattle.journal.proofs.NoteTexts.{length-note_text, note_is_marked, end_read, sum_read}
use Rattle.journal.proofs.Tearing.{torn_by}
use Rattle.journal.proofs.Bonding.{witness_leaves}
use Rattle.journal.proofs.Witnesses.{witness_found}
use Rattle.line_loop.proofs.JournalLines.{read_so}
use Rattle.store_folder.specs.Folders.{Belongs}
use Rattle.store_folder.specs.Laws.{IsTrueOf}
use Rattle.store_folder.specs.Logs.{HoldsFolder}
use Rattle.store_folder.specs.Spares.{witness_of, WitnessIn}
use Rattle.store_folder.proofs.Folders.{folder_only}

-- ---- which file counts

pub both_of : (a b : Bool) → (a && b) ≡ true → (a ≡ true) × (b ≡ true)
both_of true b both = (refl, both)
both_of false b both = absurd (false≢true both)

is_feed : (byte : ℕ) → (byte == 10) ≡ true → byte ≡ 10
is_feed byte is = grind (arith, nat_tests, is)

-- a head that says that the other file counts is whole
pub counts_feed : (file : List ℕ) → other_counts file ≡ true → HasSelector true file
counts_feed file counts =
    let said = both_of (slice_index (tail_of file) 4 == 10)
    (is_most (slice_index (tail_of file) 0) (slice_index (tail_of file) 1)
    (slice_index (tail_of file) 2)) counts in record {
      feed = is_feed (slice_index (tail_of file) 4) said.0;
      selector = counts;
    }

-- what one file says, two can't
pub one_selector : (one two : Bool) (file : List ℕ) → HasSelector one file → HasSelector two file
    → two ≡ one
one_selector one two file has other = sym other.selector ∙ has.selector

-- ---- the folder

module _ (card : Note) (is_second : Bool) (first : List ℕ) (clean : Bool) (text : List ℕ)
    (outcomes counts other new : List ℕ → Type 0) (last : List ℕ) (end : ℕ)
    (kept waiting : List (List ℕ))
    (believes : (a : List ℕ) → counts a → outcomes (believed a))
    (active : IsTrue clean → (a : List ℕ) → counts a → HasSelector false a)
    (holds : HoldsFolder card is_second first clean text outcomes counts other last end kept
    waiting) where
  -- with another file beside the one that counts
  pub holds_beside : (is_second ≡ true → AllSelect true new)
      → ((b : List ℕ) → new b → Belongs holds.page (believed b) card holds.log.has.groups)
      → HoldsFolder card is_second first clean text outcomes counts new last end kept waiting
  holds_beside chosen belongs =
      let log = holds.log in
      let has = log.has in record {
        page = holds.page;
        paged = holds.paged;
        log = record {
          has = has;
          begins = log.begins;
          chosen = chosen;
          belongs = belongs;
          only = folder_only holds.page card is_second (Behind 4096 outcomes) counts new
              (λ a here. holds.paged (believed a) (believes a here))
              (λ a here is. (active has.reads a here).selector)
              (λ a here. (believed a, believes a here, refl)) chosen first log.begins has.groups
              kept belongs
              (read_so first (drop 4096 text) last (Behind 4096 outcomes) end has.groups has.has)
              has.is;
        };
      }

  -- with one that reads as it did
  pub holds_moved : Follows SameSelector other new
      → HoldsFolder card is_second first clean text outcomes counts new last end kept waiting
  holds_moved each = holds_beside
      (λ second b there.
      let was = each b there in
      counts_feed b (was.2.selector ∙ (holds.log.chosen second was.0 was.1).selector))
      (λ b there.
      let was = each b there in
      subst (λ (t : List ℕ). Belongs holds.page t card holds.log.has.groups) (sym was.2.text)
      (holds.log.belongs was.0 was.1))

-- ---- notes in a text that grew by zeros

zeros_behind : (n k : ℕ) → (j : ℕ) × (drop {A = ℕ} n (replicate k 0) ≡ replicate j 0)
zeros_behind zero k = (k, refl)
zeros_behind (suc n) zero = (0, refl)
zeros_behind (suc n) (suc k) = zeros_behind n k

zeros_before : (n k : ℕ) → (j : ℕ) × (take {A = ℕ} n (replicate k 0) ≡ replicate j 0)
zeros_before zero k = (0, refl)
zeros_before (suc n) zero = (0, refl)
zeros_before (suc n) (suc k) =
    let rest = zeros_before n k in (suc rest.0, ap (λ (t : List ℕ). 0 ∷ t) rest.1)

grown_behind : (n : ℕ) (a : List ℕ) (k : ℕ)
    → (j : ℕ) × (drop n (a ++ replicate k 0) ≡ drop n a ++ replicate j 0)
grown_behind zero a k = (k, refl)
grown_behind (suc n) [] k = zeros_behind (suc n) k
grown_behind (suc n) (x ∷ a) k = grown_behind n a k

grown_before : (n : ℕ) (a : List ℕ) (k : ℕ)
    → (j : ℕ) × (take n (a ++ replicate k 0) ≡ take n a ++ replicate j 0)
grown_before zero a k = (0, refl)
grown_before (suc n) [] k = zeros_before (suc n) k
grown_before (suc n) (x ∷ a) k =
    let rest = grown_before n a k in (rest.0, ap (λ (t : List ℕ). x ∷ t) rest.1)

-- bytes of which none is 0 end before the zeros
none_more : (a b : List ℕ) (n : ℕ) → is_torn b ≡ false → b ≡ a ++ replicate n 0 → a ≡ b
none_more a b zero whole same = sym (same ∙ append-nil a)
none_more a b (suc n) whole same =
    absurd (false≢true (sym whole ∙ ap is_torn same ∙ torn_by a (replicate n 0)))

-- the note stood there before
pub stood_before : (at : ℕ) (old new : List ℕ) (note : Note) → IsNote note → Longer old new
    → StandsAt at new note → StandsAt at old note
stood_before at old new note is more stands =
    let behind = grown_behind at old more.0 in
    let before = grown_before 197 (drop at old) behind.0 in
    none_more (take 197 (drop at old)) (take 197 (drop at new)) before.0
    (ap is_torn stands ∙ note_is_marked note is)
    (ap (take 197) (ap (drop at) more.1 ∙ behind.1) ∙ before.1)
    ∙ stands

-- ---- the other file still belongs to the one that counts

module _ (page : List ℕ) (card : Note) (groups : List (List (List ℕ))) where
  -- where it grew
  pub belongs_longer : (old new : List ℕ) → Belongs page old card groups → Longer old new
      → Belongs page new card groups
  belongs_longer old new belongs more = record {
    is = belongs.is;
    stands = belongs.stands;
    one = record {
      counts = belongs.one.counts;
      own = belongs.one.own;
      card = λ note is stands. belongs.one.card note is
          (stood_before 0 old new note is more stands);
      witness = λ note is stands. belongs.one.witness note is
          (stood_before 512 old new note is more stands);
    };
    kept = λ note read now. elim read.1 [
      | inl card ↦ belongs.kept note (read.0, inl card) now
      | inr witness ↦ elim witness [
        | inl own ↦ belongs.kept note (read.0, inr (inl own)) now
        | inr there ↦ belongs.kept note
            (read.0, inr (inr (stood_before 512 old new note read.0 more there))) now
      ]
    ];
  }

  -- where a witness was put
  pub belongs_witnessed : (put : Note) (old left : List ℕ) → IsNote put
      → IsUpTo card.identity card.generation put → IsTrueOf card groups put
      → Belongs page old card groups → NoteLeft 512 put old left
      → Belongs page left card groups
  belongs_witnessed put old left is up true_of belongs out = record {
    is = belongs.is;
    stands = belongs.stands;
    one = (witness_leaves card.identity card.generation page old left put is up belongs.one).0 out;
    kept = λ note read now. elim read.1 [
      | inl card ↦ belongs.kept note (read.0, inl card) now
      | inr witness ↦ elim witness [
        | inl own ↦ belongs.kept note (read.0, inr (inl own)) now
        | inr there ↦ elim (out.note note read.0 there) [
          | inl was ↦ belongs.kept note (read.0, inr (inr was)) now
          | inr same ↦ true_of note read.0 same now
        ]
      ]
    ];
  }

-- ---- the witness of the file that counts

-- a sum behind a sum is one
sum_behind : (before first : List ℕ) (groups : List (List (List ℕ))) → first ≡ sum_of before
    → (text : List ℕ) × (sum_after first groups ≡ sum_of text)
sum_behind before first [] is = (before, is)
sum_behind before first (group ∷ groups) is =
    sum_behind (first ++ lines_text group) (group_sum first group) groups refl

-- where one text is two notes, they say the same
pub same_end : (a b : Note) → IsNote a → IsNote b → note_text a ≡ note_text b
    → (a.end ≡ b.end) × (a.sum ≡ b.sum)
same_end a b is its same =
    let size = length-note_text b its in
    let whole : take 197 (note_text b) ≡ note_text b =
    take_all 197 (note_text b) (omega (arith, size)) in
    let other : take 197 (note_text b) ≡ note_text a = whole ∙ sym same in (
      one_place a.end b.end is.end its.end
          (sym (end_read a is (note_text b) other) ∙ end_read b its (note_text b) whole),
      sym (sum_read a is (note_text b) other) ∙ sum_read b its (note_text b) whole,
    )

module _ (card : Note) (first last : List ℕ) (end : ℕ) (groups : List (List (List ℕ)))
    (begins : first ≡ first_sum card) (sum : last ≡ sum_after first groups)
    (ends : end ≡ journal_end first groups) where
  pub is_witness : IsNote card → end < 2 ^ 64 → IsNote (witness_of card end last)
  is_witness is fits =
      let text = sum_behind (card.identity ++ place_text card.generation) first groups begins in
      record {
        identity = is.identity;
        marked = is.marked;
        generation = is.generation;
        end = fits;
        sum = ap length (sum ∙ text.1) ∙ length-sum_of text.0;
        there = ap is_torn (sum ∙ text.1) ∙ sum_is_marked text.0;
      }

  -- what it says is found
  pub witness_is_true : IsNote card → end < 2 ^ 64 → IsTrueOf card groups (witness_of card end last)
  witness_is_true is fits note its same now =
      let both = same_end note (witness_of card end last) its (is_witness is fits) same in
      let all = append-nil groups in
      let read = witness_found first [] groups [] note (both.0 ∙ ends) (both.1 ∙ sum) in
      ap (λ (s : List ℕ). is_found note (journal_text s groups) (journal_end s groups))
      (sym begins)
      ∙ ap (λ (gs : List (List (List ℕ))). is_found note (journal_text first gs)
      (journal_end first gs)) (sym all)
      ∙ ap (λ (t : List ℕ). is_found note t (journal_end first (groups ++ [])))
      (sym (append-nil (journal_text first (groups ++ []))))
      ∙ read

-- ---- the folder whose other file was given a witness

module _ (card : Note) (is_second : Bool) (first : List ℕ) (clean : Bool) (text : List ℕ)
    (outcomes counts other new : List ℕ → Type 0) (last : List ℕ) (end : ℕ)
    (kept waiting : List (List ℕ))
    (believes : (a : List ℕ) → counts a → outcomes (believed a))
    (active : IsTrue clean → (a : List ℕ) → counts a → HasSelector false a)
    (holds : HoldsFolder card is_second first clean text outcomes counts other last end kept
    waiting) where
  pub holds_witnessed : (put : Note) → put ≡ witness_of card end last → end < 2 ^ 64
      → Follows (WitnessIn put) other new
      → HoldsFolder card is_second first clean text outcomes counts new last end kept waiting
  holds_witnessed put is fits follows =
      let each = subst (λ (p : Note). Follows (WitnessIn p) other new) is follows in
      let log = holds.log in
      let has = log.has.has in
      holds_beside card is_second first clean text outcomes counts other new last end kept waiting
      believes active holds
      (λ second b there.
      let was = each b there in
      counts_feed b (was.2.selector ∙ (log.chosen second was.0 was.1).selector))
      (λ b there.
      let was = each b there in
      let before = log.belongs was.0 was.1 in
      let out = was.2.text in
      let page = belongs_longer holds.page card log.has.groups (believed was.0) out.0 before
      out.1 in
      belongs_witnessed holds.page card log.has.groups (witness_of card end last) out.0
      (believed b)
      (is_witness card first last end log.has.groups log.begins has.sum has.ends before.is fits)
      (record { store = refl; before = omega arith })
      (witness_is_true card first last end log.has.groups log.begins has.sum has.ends before.is
      fits) page out.2)
