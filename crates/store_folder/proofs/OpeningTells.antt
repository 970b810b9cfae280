-- What a start finds in two files while they are opened.
use Rattle.std.proofs.Common.{◌≡◌, ◌⊎◌, ◌∙◌, ap, sym, refl, subst, ℕ, ◌==◌, ◌&&◌, List, [], take, drop, slice_index, Bool, true, false, inl, inr, Option, arith}
use Rattle.std.specs.Prelude.{IsTrue}
use Rattle.std.proofs.lemmas.Bool.Decides.{nat_tests}
use Rattle.std.proofs.lemmas.Bool.{false≢true}
use Rattle.journal.specs.Reading.{Found, found, sound}
use Rattle.journal.specs.Crashes.{Only}
use Rattle.journal.specs.Growth.{Behind}
use Rattle.journal.specs.Groups.{HasGroups}
use Rattle.journal.specs.Head.{believed, Texts}
use Rattle.journal.specs.Selector.{tail_of, is_most, other_counts, HasSelector, AllSelect, SameSelector}
use Rattle.journal.specs.Notes.{first_sum, IsNote, StandsAt, Reads}
use Rattle.journal.specs.declared.page.note.Note.{Note}
use Rattle.journal.specs.declared.page.Notes.{Notes}
use Rattle.journal.proofs.Fronts.{slice_front}
use Rattle.line_loop.specs.Runs.{FindsOnly}
use Rattle.line_loop.specs.JournalLines.{lines_of}
use Rattle.store_folder.specs.Folders.{Belongs, FindsOf, Finds, MayTell}
use Rattle.store_folder.specs.Logs.{HoldsFolder}
use Rattle.store_folder.specs.Openings.{HasCard, groups_under, OpensUnder, CountsAs, LeavesText}
use Rattle.store_folder.proofs.Telling.{tells_only}
use Rattle.store_folder.proofs.Folders.{has_folder}
use Rattle.store_folder.proofs.OpeningNotes.{reads_front, stands_front, stands_whole, fits_belongs, found_card}

-- ---- a file that is read as it was

-- its page, what stands behind that, and which file counts
pub record ReadsAs (file left : List ℕ) : Type 0 where
  pub page : take 4096 (believed left) ≡ take 4096 (believed file)
  pub text : (card : Note) → IsNote card → StandsAt 0 (believed file) card
      → found (first_sum card) (drop 4096 (believed left))
      ≡ found (first_sum card) (drop 4096 (believed file))
  pub selector : other_counts left ≡ other_counts file

abbrev tail_counts_of : (tail : List ℕ) → Bool
tail_counts_of tail =
    (slice_index tail 4 == 10)
    && is_most (slice_index tail 0) (slice_index tail 1) (slice_index tail 2)

-- one that was left with its head
pub left_reads : (file left : List ℕ) → LeavesText file left → ReadsAs file left
left_reads file left is = record {
  page = is.page;
  text = is.text;
  selector = ap tail_counts_of (slice_front left file 4091 5 is.head);
}

-- one whose text and selector are those of such a file
pub same_reads : (file now left : List ℕ) → ReadsAs file now → SameSelector now left
    → ReadsAs file left
same_reads file now left is same = record {
  page = ap (take 4096) same.text ∙ is.page;
  text = λ card note stands.
      ap (λ (t : List ℕ). found (first_sum card) (drop 4096 t)) same.text
      ∙ is.text card note stands;
  selector = same.selector ∙ is.selector;
}

-- so each file that may be left once a head is looked at again
pub opened_reads : (file now : List ℕ) (before left : List ℕ → Type 0)
    → ((a : List ℕ) → before a → LeavesText file a) → before now
    → ((a : List ℕ) → left a → before a ⊎ SameSelector now a) → (a : List ℕ) → left a
    → ReadsAs file a
opened_reads file now before left leaves stays each a here = elim (each a here) [
  | inl was ↦ left_reads file a (leaves a was)
  | inr same ↦ same_reads file now a (left_reads file now (leaves now stays)) same
]

-- ---- which file counts

and_first : (a b : Bool) → (a && b) ≡ true → a ≡ true
and_first true b both = refl
and_first false b both = absurd (false≢true both)

is_ten : (n : ℕ) → (n == 10) ≡ true → n ≡ 10
is_ten n is = grind (arith, nat_tests, is)

counts_true : (file : List ℕ) → other_counts file ≡ true → HasSelector true file
counts_true file is = record {
  feed = is_ten (slice_index (tail_of file) 4) (and_first (slice_index (tail_of file) 4 == 10)
      (is_most (slice_index (tail_of file) 0) (slice_index (tail_of file) 1)
      (slice_index (tail_of file) 2)) is);
  selector = is;
}

pub first_counts : (is_second : Bool) (counts other : List ℕ) → CountsAs is_second counts other
    → is_second ≡ false → other_counts counts ≡ false
first_counts true counts other which is = absurd (false≢true (sym is))
first_counts false counts other which is = which

pub second_counts : (is_second : Bool) (counts other : List ℕ) → CountsAs is_second counts other
    → is_second ≡ true → other_counts other ≡ true
second_counts true counts other which is = which
second_counts false counts other which is = absurd (false≢true is)

-- ---- what a start finds

module _ (is_second : Bool) (counts spare : List ℕ) (leaves others : List ℕ → Type 0)
    (which : CountsAs is_second counts spare) (reads : (a : List ℕ) → leaves a → ReadsAs counts a)
    (rests : Only spare others) (lines : List (List ℕ))
    (finds : FindsOf (believed counts) (believed spare) lines) where
  pub active : (a : List ℕ) → leaves a → is_second ≡ false → other_counts a ≡ false
  active a here is = (reads a here).selector ∙ first_counts is_second counts spare which is

  pub chosen : is_second ≡ true → AllSelect true others
  chosen is b there =
      subst (HasSelector true) (sym (rests b there))
      (counts_true spare (second_counts is_second counts spare which is))

  pub belong : (b : List ℕ) → others b
      → Belongs (take 4096 (believed counts)) (believed b) finds.card finds.groups
  belong b there =
      subst (λ (t : List ℕ). Belongs (take 4096 (believed counts)) t finds.card finds.groups)
      (sym (ap believed (rests b there))) finds.belongs

  -- whatever a crash leaves, these lines are found
  pub still_told : FindsOnly lines (MayTell is_second leaves others)
  still_told =
      tells_only (take 4096 (believed counts)) finds.card is_second leaves others
      (λ a here. (reads a here).page) active chosen finds.groups lines belong
      (λ a here. (reads a here).text finds.card finds.belongs.is
      (stands_whole 0 (believed counts) finds.card (omega arith) finds.belongs.stands)
      ∙ finds.sound)
      finds.has

-- fewer files may be left
pub fewer_told : (is_second : Bool) (counts other counts_now other_now : List ℕ → Type 0)
    → ((c : List ℕ) → (counts_now c → counts c) × (other_now c → other c))
    → (told : Option (List (List ℕ))) → MayTell is_second counts_now other_now told
    → MayTell is_second counts other told
fewer_told true counts other counts_now other_now fewer told may =
    (may.0, may.1, ((fewer may.0).1 may.2.0, (fewer may.1).0 may.2.1), may.3)
fewer_told false counts other counts_now other_now fewer told may =
    (may.0, may.1, ((fewer may.0).0 may.2.0, (fewer may.1).1 may.2.1), may.3)

-- ---- a folder that was opened

-- the same text, all of it on the disk
pub groups_moved : (text now last : List ℕ) (end : ℕ) (first : List ℕ)
    (groups : List (List (List ℕ))) (outcomes left : List ℕ → Type 0) → now ≡ text
    → HasGroups text outcomes last end first groups → Only now left
    → HasGroups now left last end first groups
groups_moved text now last end first groups outcomes left same has only = record {
  room = has.room;
  each = has.each;
  file = same ∙ has.file;
  sum = has.sum;
  ends = has.ends;
  durable = only;
}

module _ (is_second : Bool) (counts spare now : List ℕ) (leaves others : List ℕ → Type 0)
    (which : CountsAs is_second counts spare) (reads : (a : List ℕ) → leaves a → ReadsAs counts a)
    (rests : Only spare others) (lines : List (List ℕ))
    (finds : FindsOf (believed counts) (believed spare) lines) where
  -- it holds the lines that a start finds there
  pub holds_found : (clean : Bool) (last : List ℕ) (end : ℕ) → IsTrue clean
      → HasGroups (drop 4096 (believed now)) (Behind 4096 (Texts leaves)) last end
      (first_sum finds.card) finds.groups
      → HoldsFolder finds.card is_second (first_sum finds.card) clean (believed now) (Texts leaves)
      leaves others last end lines []
  holds_found clean last end still groups = record {
    page = take 4096 (believed counts);
    paged = λ file left. ap (take 4096) left.2 ∙ (reads left.0 left.1).page;
    log = has_folder (take 4096 (believed counts)) finds.card is_second
        (Behind 4096 (Texts leaves)) leaves others
        (λ a here. (reads a here).page)
        (active is_second counts spare leaves others which reads rests lines finds)
        (λ a here. (believed a, (a, here, refl), refl))
        (chosen is_second counts spare leaves others which reads rests lines finds)
        (first_sum finds.card) refl clean (drop 4096 (believed now)) last end [] finds.groups lines
        [] still groups finds.has tt refl
        (belong is_second counts spare leaves others which reads rests lines finds);
  }

  -- so under the card that was read
  pub holds_read : (card : Note) → IsNote card → StandsAt 0 (believed counts) card
      → (clean : Bool) (first last : List ℕ) (end : ℕ) → first ≡ first_sum card → IsTrue clean
      → HasGroups (drop 4096 (believed now)) (Behind 4096 (Texts leaves)) last end
      (first_sum card) (groups_under card counts)
      → HoldsFolder card is_second first clean (believed now) (Texts leaves) leaves others last end
      lines []
  holds_read card is stands clean first last end begins still groups =
      let same = found_card (believed counts) (believed spare) lines finds card is stands in
      let under : groups_under finds.card counts ≡ finds.groups =
      ap (λ (f : Found). f.groups) finds.sound in
      let named : HasGroups (drop 4096 (believed now)) (Behind 4096 (Texts leaves)) last end
      (first_sum finds.card) (groups_under finds.card counts) =
      subst (λ (n : Note). HasGroups (drop 4096 (believed now)) (Behind 4096 (Texts leaves)) last
      end (first_sum n) (groups_under n counts)) (sym same) groups in
      let here : HasGroups (drop 4096 (believed now)) (Behind 4096 (Texts leaves)) last end
      (first_sum finds.card) finds.groups =
      subst (λ (gs : List (List (List ℕ))). HasGroups (drop 4096 (believed now))
      (Behind 4096 (Texts leaves)) last end (first_sum finds.card) gs) under named in
      subst (λ (f : List ℕ). HoldsFolder card is_second f clean (believed now) (Texts leaves)
      leaves others last end lines []) (sym begins)
      (subst (λ (n : Note). HoldsFolder n is_second (first_sum n) clean (believed now)
      (Texts leaves) leaves others last end lines []) same
      (holds_found clean last end still here))

-- ---- lines that were found by looking at both files

sound_of : (f : Found) → f.is_damaged ≡ false → f ≡ sound f.groups
sound_of f calm = λ i. record { groups = f.groups; is_damaged = calm i }

pub finds_so : (file standby : List ℕ) (other : Notes) (card : Note)
    → OpensUnder false file other card → Reads 0 standby other.card
    → Reads 512 standby other.witness
    → (lines : List (List ℕ)) × FindsOf (believed file) standby lines
finds_so file standby other card opens cards witnesses =
    let has : HasCard (take 4096 (believed file)) other opens.own card = record {
      is = opens.has.is;
      stands = stands_front 0 (believed file) card (omega arith) opens.has.stands;
      witness = reads_front 512 (believed file) opens.own (omega arith) opens.has.witness;
      fits = opens.has.fits;
    } in (
      lines_of (groups_under card file),
      record {
        card = card;
        groups = groups_under card file;
        belongs = fits_belongs (take 4096 (believed file)) standby opens.own other card has cards
            witnesses (groups_under card file) (opens.kept refl);
        sound = sound_of (found (first_sum card) (drop 4096 (believed file))) opens.sound;
        has = refl;
      },
    )

pub opens_whole : (takes_less : Bool) (file : List ℕ) (other : Notes) (card : Note)
    → takes_less ≡ false → OpensUnder takes_less file other card → OpensUnder false file other card
opens_whole takes_less file other card is opens =
    subst (λ (b : Bool). OpensUnder b file other card) is opens

-- ---- both files in their order

module _ (first second : List ℕ) (lines : List (List ℕ)) where
  pub finds_first : other_counts first ≡ false → FindsOf (believed first) (believed second) lines
      → Finds first second lines
  finds_first is finds = rw is finds

  pub first_finds : other_counts first ≡ false → Finds first second lines
      → FindsOf (believed first) (believed second) lines
  first_finds is finds = rw is at finds

  pub finds_second : other_counts first ≡ true → FindsOf (believed second) (believed first) lines
      → Finds first second lines
  finds_second is finds = rw is finds

  pub second_finds : other_counts first ≡ true → Finds first second lines
      → FindsOf (believed second) (believed first) lines
  second_finds is finds = rw is at finds
