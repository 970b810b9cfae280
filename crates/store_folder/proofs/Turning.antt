-- The other file of a folder, which has a checkpoint, counts in place of the one that did.
use Rattle.std.proofs.Common.{◌≡◌, ◌⊎◌, ◌∙◌, ap, sym, refl, subst, ℕ, ◌+◌, List, [], ◌++◌, take, drop, Bool, true, false, inl, inr, if◌then◌else◌, Option, Some, arith}
use Rattle.std.proofs.lemmas.List.{append-nil}
use Rattle.std.specs.Prelude.{IsTrue}
use Rattle.journal.specs.Text.{sum_after, journal_text, journal_end}
use Rattle.journal.specs.Crashes.{Only}
use Rattle.journal.specs.Reading.{found}
use Rattle.journal.specs.Growth.{Behind}
use Rattle.journal.specs.Head.{believed}
use Rattle.journal.specs.Selector.{other_counts, HasSelector, AllSelect, SelectorLeft}
use Rattle.journal.specs.Notes.{first_sum, note_text, is_found, IsNote}
use Rattle.journal.specs.Bonds.{AreOne, IsUpTo}
use Rattle.journal.specs.declared.page.note.Note.{Note}
use Rattle.journal.proofs.Behind.{behind_only}
use Rattle.journal.proofs.Bonding.{choice_turns}
use Rattle.journal.proofs.Witnesses.{witness_found}
use Rattle.line_loop.proofs.JournalLines.{read_so}
use Rattle.store_folder.specs.Folders.{IsKept, Belongs, FindsOf, Finds, Tells}
use Rattle.store_folder.specs.Laws.{IsCheckpoint}
use Rattle.store_folder.specs.Logs.{HoldsFolder}
use Rattle.store_folder.specs.Takings.{HasCheckpoint}
use Rattle.store_folder.proofs.Folders.{has_folder}
use Rattle.store_folder.proofs.Notes.{stands_whole, stands_front, paged_one, other_whole, turned}
use Rattle.store_folder.proofs.Standing.{same_end}
use Rattle.store_folder.proofs.Telling.{tells_these}

-- ---- a card says what stands behind its page

pub card_found : (first : List ℕ) (groups : List (List (List ℕ))) (put note : Note) → IsNote put
    → put.end ≡ journal_end first groups → put.sum ≡ sum_after first groups → IsNote note
    → note_text note ≡ note_text put
    → is_found note (journal_text first groups) (journal_end first groups) ≡ true
card_found first groups put note is ends sum its same =
    let both = same_end note put its is same in
    let read = witness_found first [] groups [] note (both.0 ∙ ends) (both.1 ∙ sum) in
    ap (λ (gs : List (List (List ℕ))). is_found note (journal_text first gs)
    (journal_end first gs)) (sym (append-nil groups))
    ∙ ap (λ (t : List ℕ). is_found note t (journal_end first (groups ++ [])))
    (sym (append-nil (journal_text first (groups ++ []))))
    ∙ read

abbrev pub checkpoint_in : (card next : Note) (clean : Bool) (text : List ℕ)
    (outcomes : List ℕ → Type 0) (lines : List (List ℕ)) → outcomes text
    → HasCheckpoint card next clean text outcomes lines
    → IsCheckpoint card.identity card.generation text lines
checkpoint_in card next clean text outcomes lines stays has = record {
  card = next;
  is = has.is;
  store = has.store;
  next = has.comes;
  stands = has.stands;
  groups = has.groups;
  sound = read_so (first_sum next) (drop 4096 text) next.sum (Behind 4096 outcomes) next.end
      has.groups has.has (drop 4096 text) (text, stays, refl);
  has = has.are;
  kept = λ note its stands now. card_found (first_sum next) has.groups next note has.is has.has.ends
      has.has.sum its (sym stands ∙ has.stands);
}

-- ---- the file that counted beside the one that comes next

-- a note of an earlier generation asks for nothing of the next file
earlier : (card note : Note) (groups : List (List (List ℕ))) (identity : List ℕ) (generation : ℕ)
    → card.generation ≡ generation + 1 → IsUpTo identity generation note → IsKept card groups note
earlier card note groups identity generation next up now =
    let before = up.before in absurd (omega (arith, next, before, now))

belongs_next : (counts other : List ℕ) (lines more : List (List ℕ))
    → (finds : FindsOf counts other lines)
    → (has : IsCheckpoint finds.card.identity finds.card.generation other more)
    → Belongs (take 4096 other) counts has.card has.groups
belongs_next counts other lines more finds has =
    let store = finds.card.identity in
    let file = finds.card.generation in
    let one : AreOne store (file + 1) other (take 4096 counts) =
    choice_turns store file (take 4096 counts) other has.card has.is has.store has.next has.stands
    finds.belongs.one in
    let named : AreOne has.card.identity (file + 1) other (take 4096 counts) =
    subst (λ (id : List ℕ). AreOne id (file + 1) other (take 4096 counts)) (sym has.store) one in
    let both : AreOne has.card.identity has.card.generation other (take 4096 counts) =
    subst (λ (n : ℕ). AreOne has.card.identity n other (take 4096 counts)) (sym has.next) named in
    record {
      is = has.is;
      stands = stands_front 0 other has.card (omega arith) has.stands;
      one = paged_one has.card.identity has.card.generation other counts
          (other_whole has.card.identity has.card.generation other counts both);
      kept = λ note read now. elim read.1 [
        | inl card ↦ has.kept note read.0 (stands_whole 0 other note (omega arith) card) now
        | inr witness ↦ elim witness [
          | inl own ↦ earlier has.card note has.groups store file has.next
              (finds.belongs.one.witness note read.0
              (stands_whole 512 other note (omega arith) own)) now
          | inr there ↦ earlier has.card note has.groups store file has.next
              (finds.belongs.one.own note read.0
              (stands_front 512 counts note (omega arith) there)) now
        ]
      ];
    }

-- ---- what a start finds in both files

module _ (card next : Note) (is_second : Bool) (first : List ℕ) (clean clear : Bool)
    (text other_text : List ℕ) (outcomes counts other other_outcomes : List ℕ → Type 0)
    (last : List ℕ) (end : ℕ) (kept more : List (List ℕ))
    (believes : (a : List ℕ) → counts a → outcomes (believed a))
    (believe : (b : List ℕ) → other b → other_outcomes (believed b))
    (holds : HoldsFolder card is_second first clean text outcomes counts other last end kept [])
    (has : HasCheckpoint card next clear other_text other_outcomes more) where
  abbrev pub finds_now : (a b : List ℕ) → counts a → other b
      → FindsOf (believed a) (believed b) kept
  finds_now a b here there =
      let log = holds.log in
      let groups = log.has.groups in record {
        card = card;
        groups = groups;
        belongs = subst (λ (p : List ℕ). Belongs p (believed b) card groups)
            (sym (holds.paged (believed a) (believes a here))) (log.belongs b there);
        sound = ap (λ (s : List ℕ). found s (drop 4096 (believed a))) (sym log.begins)
            ∙ read_so first (drop 4096 text) last (Behind 4096 outcomes) end groups log.has.has
            (drop 4096 (believed a)) (believed a, believes a here, refl);
        has = log.has.is;
      }

  -- the same, in the text that each crash leaves of the other file
  abbrev finds_at : (a b : List ℕ) → counts a → other b → FindsOf (believed a) other_text kept
  finds_at a b here there =
      let finds = finds_now a b here there in record {
        card = card;
        groups = holds.log.has.groups;
        belongs = subst (λ (t : List ℕ). Belongs (take 4096 (believed a)) t card
            holds.log.has.groups) (has.durable (believed b) (believe b there)) finds.belongs;
        sound = finds.sound;
        has = finds.has;
      }

  turned_at : (a b : List ℕ) → counts a → other b → FindsOf other_text (believed a) more
  turned_at a b here there =
      turned (believed a) other_text kept more choice_turns (finds_at a b here there)
      (checkpoint_in card next clear other_text other_outcomes more
      (subst other_outcomes (has.durable (believed b) (believe b there)) (believe b there)) has)

  pub turned_now : (a b : List ℕ) → counts a → other b → FindsOf (believed b) (believed a) more
  turned_now a b here there =
      subst (λ (t : List ℕ). FindsOf t (believed a) more)
      (sym (has.durable (believed b) (believe b there))) (turned_at a b here there)

  -- the file that counted belongs to the one that does now
  pub belongs_turned : (a b : List ℕ) → counts a → other b
      → Belongs (take 4096 other_text) (believed a) next has.groups
  belongs_turned a b here there =
      belongs_next (believed a) other_text kept more (finds_at a b here there)
      (checkpoint_in card next clear other_text other_outcomes more
      (subst other_outcomes (has.durable (believed b) (believe b there)) (believe b there)) has)

-- ---- the selector is put

-- the first file counted
pub either_first : (d b c : List ℕ) (lines more : List (List ℕ)) → HasSelector false d
    → SelectorLeft true d c → FindsOf (believed d) (believed b) lines
    → FindsOf (believed b) (believed d) more → Finds c b lines ⊎ Finds c b more
either_first d b c lines more was out finds turned = elim (out.selector false was) [
  | inl same ↦ inl (placed c b lines false same.selector
      (subst (λ (t : List ℕ). FindsOf t (believed b) lines) (sym out.text) finds))
  | inr new ↦ inr (placed c b more true new.selector
      (subst (λ (t : List ℕ). FindsOf (believed b) t more) (sym out.text) turned))
]
  where
    placed : (c b : List ℕ) (lines : List (List ℕ)) (is_second : Bool)
        → other_counts c ≡ is_second
        → FindsOf (believed (if is_second then b else c)) (believed (if is_second then c else b))
        lines → Finds c b lines
    placed c b lines is_second is finds =
        subst (λ (one : Bool). FindsOf (believed (if one then b else c))
        (believed (if one then c else b)) lines) (sym is) finds

-- the second one did
pub either_second : (d b c : List ℕ) (lines more : List (List ℕ)) → HasSelector true d
    → SelectorLeft false d c → FindsOf (believed b) (believed d) lines
    → FindsOf (believed d) (believed b) more → Finds c b lines ⊎ Finds c b more
either_second d b c lines more was out finds turned = elim (out.selector true was) [
  | inl same ↦ inl (placed c b lines true same.selector
      (subst (λ (t : List ℕ). FindsOf (believed b) t lines) (sym out.text) finds))
  | inr new ↦ inr (placed c b more false new.selector
      (subst (λ (t : List ℕ). FindsOf t (believed b) more) (sym out.text) turned))
]
  where
    placed : (c b : List ℕ) (lines : List (List ℕ)) (is_second : Bool)
        → other_counts c ≡ is_second
        → FindsOf (believed (if is_second then b else c)) (believed (if is_second then c else b))
        lines → Finds c b lines
    placed c b lines is_second is finds =
        subst (λ (one : Bool). FindsOf (believed (if one then b else c))
        (believed (if one then c else b)) lines) (sym is) finds

-- a start tells one or the other
pub either_told : (c b : List ℕ) (kept more : List (List ℕ)) → Finds c b kept ⊎ Finds c b more
    → (told : Option (List (List ℕ))) → Tells c b told → (told ≡ Some kept) ⊎ (told ≡ Some more)
either_told c b kept more finds told tells = elim finds [
  | inl before ↦ inl (tells_these c b kept before told tells)
  | inr now ↦ inr (tells_these c b more now told tells)
]

-- the first file counts, of which the selector was put
pub first_finds : (c b d : List ℕ) (more : List (List ℕ)) → other_counts c ≡ false
    → believed c ≡ believed d → FindsOf (believed d) (believed b) more → Finds c b more
first_finds c b d more is same finds =
    subst (λ (one : Bool). FindsOf (believed (if one then b else c))
    (believed (if one then c else b)) more) (sym is)
    (subst (λ (t : List ℕ). FindsOf t (believed b) more) (sym same) finds)

-- ---- the file with the checkpoint counts

abbrev pub checkpoint_moved : (card next : Note) (clear clean : Bool) (text new : List ℕ)
    (outcomes leaves : List ℕ → Type 0) (lines : List (List ℕ)) → new ≡ text → Only new leaves
    → IsTrue clean → HasCheckpoint card next clear text outcomes lines
    → HasCheckpoint card next clean new leaves lines
checkpoint_moved card next clear clean text new outcomes leaves lines same only reads has = record {
  reads = reads;
  is = has.is;
  store = has.store;
  comes = has.comes;
  stands = ap (λ (t : List ℕ). take 197 (drop 0 t)) same ∙ has.stands;
  durable = only;
  groups = has.groups;
  has = record {
    room = has.has.room;
    each = has.has.each;
    file = ap (drop 4096) same ∙ has.has.file;
    sum = has.has.sum;
    ends = has.has.ends;
    durable = behind_only 4096 new leaves only;
  };
  are = has.are;
}

pub holds_selected : (card next : Note) (is_second clean : Bool) (text : List ℕ)
    (outcomes counts other : List ℕ → Type 0) (lines : List (List ℕ))
    → ((b : List ℕ) → counts b → outcomes (believed b))
    → ((b : List ℕ) → counts b → is_second ≡ false → other_counts b ≡ false)
    → (is_second ≡ true → AllSelect true other)
    → (has : HasCheckpoint card next clean text outcomes lines)
    → ((f : List ℕ) → other f → Belongs (take 4096 text) (believed f) next has.groups)
    → HoldsFolder next is_second (first_sum next) clean text outcomes counts other next.sum next.end
    lines []
holds_selected card next is_second clean text outcomes counts other lines believes active chosen has
    belongs = record {
      page = take 4096 text;
      paged = λ f left. ap (take 4096) (has.durable f left);
      log = has_folder (take 4096 text) next is_second (Behind 4096 outcomes) counts other
          (λ b there. ap (take 4096) (has.durable (believed b) (believes b there))) active
          (λ b there. (believed b, believes b there, refl)) chosen (first_sum next) refl clean
          (drop 4096 text) next.sum next.end [] has.groups lines [] has.reads has.has has.are tt
          refl
          belongs;
    }
