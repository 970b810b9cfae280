-- A file that doesn't count is made blank, and gets a witness.
use Rattle.std.proofs.Common.{◌≡◌, ◌∙◌, sym, refl, subst, ℕ, ◌^◌, ◌<◌, List, [], ◌∷◌, length, replicate, Bool, false, inl, inr, arith}
use Rattle.std.specs.Prelude.{IsTrue}
use Rattle.sqlite_disk.specs.Disk.{Follows}
use Rattle.journal.specs.Crashes.{Holes}
use Rattle.journal.specs.Growth.{Longer}
use Rattle.journal.specs.Head.{believed, Texts}
use Rattle.journal.specs.Selector.{HasSelector, AllSelect}
use Rattle.journal.specs.Notes.{NoteLeft}
use Rattle.journal.specs.declared.page.note.Note.{Note}
use Rattle.journal.proofs.Tearing.{all_there}
use Rattle.journal.proofs.Bonding.{lost_leaves, still_stands}
use Rattle.store_folder.specs.Blanks.{BlankLeft, BlankIn}
use Rattle.store_folder.specs.Folders.{Belongs}
use Rattle.store_folder.specs.Logs.{HoldsFolder}
use Rattle.store_folder.specs.Spares.{witness_of}
use Rattle.store_folder.proofs.Puts.{as_it_was}
use Rattle.store_folder.proofs.Standing.{counts_feed, holds_beside, belongs_longer, belongs_witnessed, is_witness, witness_is_true}

-- no note was put
pub same_notes : (at : ℕ) (put : Note) (text : List ℕ) → NoteLeft at put text text
same_notes at put text = record {
  before = refl;
  behind = refl;
  size = refl;
  note = λ note is stands. inl stands;
}

-- a page was made at most
pub only_grown : (put : Note) (old left : List ℕ) → Longer old left → BlankLeft put old left
only_grown put old left more = (left, more, left, all_there left, same_notes 512 put left)

-- zeros are all lost
pub zeros_lost : (text : List ℕ) → Holes text (replicate (length text) 0)
zeros_lost [] = tt
zeros_lost (b ∷ text) = (inl refl, zeros_lost text)

pub all_lost : (text blank : List ℕ) → blank ≡ replicate (length text) 0 → Holes text blank
all_lost text blank are = subst (λ (t : List ℕ). Holes text t) (sym are) (zeros_lost text)

-- ---- so of a file

pub none_blanked : (put : Note) (leaves : List ℕ → Type 0) → Follows (BlankIn put) leaves leaves
none_blanked put leaves c left = (
  c,
  left,
  record {
    text = only_grown put (believed c) (believed c) (as_it_was (believed c) (believed c) refl);
    selector = refl;
  },
)

pub blank_in : (put : Note) (standby : Bool) (seen : List ℕ) (old new : List ℕ → Type 0) → old seen
    → AllSelect standby old → AllSelect standby new
    → ((t : List ℕ) → Texts new t → BlankLeft put (believed seen) t)
    → Follows (BlankIn put) old new
blank_in put standby seen old new stays selected selects crash c left = (
  seen,
  stays,
  record {
    text = crash (believed c) (c, left, refl);
    selector = (selects c left).selector ∙ sym (selected seen stays).selector;
  },
)

-- ---- the other file still belongs to the one that counts

-- where bytes of it were lost
pub belongs_lost : (page : List ℕ) (card : Note) (groups : List (List (List ℕ)))
    (old left : List ℕ) → Belongs page old card groups → Holes old left
    → Belongs page left card groups
belongs_lost page card groups old left belongs holes = record {
  is = belongs.is;
  stands = belongs.stands;
  one = lost_leaves card.identity card.generation page old left belongs.one holes;
  kept = λ note read now. elim read.1 [
    | inl card ↦ belongs.kept note (read.0, inl card) now
    | inr witness ↦ elim witness [
      | inl own ↦ belongs.kept note (read.0, inr (inl own)) now
      | inr there ↦ belongs.kept note
          (read.0, inr (inr (still_stands 512 old left note read.0 holes there))) now
    ]
  ];
}

module _ (card : Note) (is_second : Bool) (first : List ℕ) (clean : Bool) (text : List ℕ)
    (outcomes counts other new : List ℕ → Type 0) (last : List ℕ) (end : ℕ)
    (kept waiting : List (List ℕ))
    (believes : (a : List ℕ) → counts a → outcomes (believed a))
    (active : IsTrue clean → (a : List ℕ) → counts a → HasSelector false a)
    (holds : HoldsFolder card is_second first clean text outcomes counts other last end kept
    waiting) where
  pub belongs_blanked : (put : Note) → put ≡ witness_of card end last → end < 2 ^ 64
      → Follows (BlankIn put) other new → (b : List ℕ) → new b
      → Belongs holds.page (believed b) card holds.log.has.groups
  belongs_blanked put is fits follows b there =
      let each = subst (λ (p : Note). Follows (BlankIn p) other new) is follows in
      let log = holds.log in
      let has = log.has.has in
      let was = each b there in
      let before = log.belongs was.0 was.1 in
      let out = was.2.text in
      let grown = belongs_longer holds.page card log.has.groups (believed was.0) out.0 before
      out.1 in
      let lost = belongs_lost holds.page card log.has.groups out.0 out.2 grown out.3 in
      belongs_witnessed holds.page card log.has.groups (witness_of card end last) out.2
      (believed b)
      (is_witness card first last end log.has.groups log.begins has.sum has.ends before.is fits)
      (record { store = refl; before = omega arith })
      (witness_is_true card first last end log.has.groups log.begins has.sum has.ends before.is
      fits) lost out.4

  pub holds_blanked : (put : Note) → put ≡ witness_of card end last → end < 2 ^ 64
      → Follows (BlankIn put) other new
      → HoldsFolder card is_second first clean text outcomes counts new last end kept waiting
  holds_blanked put is fits follows =
      holds_beside card is_second first clean text outcomes counts other new last end kept waiting
      believes active holds
      (λ second b there.
      let was = follows b there in
      counts_feed b (was.2.selector ∙ (holds.log.chosen second was.0 was.1).selector))
      (belongs_blanked put is fits follows)
