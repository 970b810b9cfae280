-- Bytes of the file that doesn't count are lost.
use Rattle.std.proofs.Common.{ℕ, List, take, inl, inr}
use Rattle.journal.specs.Crashes.{Holes}
use Rattle.journal.specs.Bonds.{LostNotesLeaveThemOne}
use Rattle.store_folder.specs.Folders.{FindsOf}
use Rattle.store_folder.proofs.Marks.{still_stands}

pub lost_left : LostNotesLeaveThemOne → (counts other left : List ℕ) (lines : List (List ℕ))
    → FindsOf counts other lines → Holes other left → FindsOf counts left lines
lost_left law counts other left lines finds holes = record {
  card = finds.card;
  groups = finds.groups;
  belongs = record {
    is = finds.belongs.is;
    stands = finds.belongs.stands;
    one = law finds.card.identity finds.card.generation (take 4096 counts) other left
        finds.belongs.one holes;
    kept = λ note read now. elim read.1 [
      | inl card ↦ finds.belongs.kept note (read.0, inl card) now
      | inr witness ↦ elim witness [
        | inl own ↦ finds.belongs.kept note (read.0, inr (inl own)) now
        | inr there ↦ finds.belongs.kept note
            (read.0, inr (inr (still_stands 512 other left note read.0 holes there))) now
      ]
    ];
  };
  sound = finds.sound;
  has = finds.has;
}
