-- What is left of a file that is recovered.
use Rattle.std.proofs.Common.{◌≡◌, ap, sym, subst, ℕ, List, take, drop, Bool, false, Option}
use Rattle.journal.specs.Reading.{Found, found}
use Rattle.journal.specs.Head.{believed}
use Rattle.journal.specs.Notes.{first_sum, IsNote, StandsAt, Reads}
use Rattle.journal.specs.declared.page.note.Note.{Note}
use Rattle.journal.specs.declared.page.Notes.{Notes}
use Rattle.store_folder.specs.Folders.{FindsOf}
use Rattle.store_folder.specs.Openings.{AreKept, HasCard, groups_under, OpensUnder, LeavesText}
use Rattle.store_folder.proofs.OpeningNotes.{only_note, found_card, found_kept}

-- nothing was written
pub unread_left : (file left : List ℕ) → take 4096 left ≡ take 4096 file
    → believed left ≡ believed file → LeavesText file left
unread_left file left head same = record {
  head = head;
  page = ap (take 4096) same;
  text = λ card is stands. ap (λ (t : List ℕ). found (first_sum card) (drop 4096 t)) same;
}

-- zeros were written behind the groups
pub recovered_left : (file left : List ℕ) (card : Note) → IsNote card
    → StandsAt 0 (believed file) card → take 4096 left ≡ take 4096 file
    → take 4096 (believed left) ≡ take 4096 (believed file)
    → found (first_sum card) (drop 4096 (believed left))
    ≡ found (first_sum card) (drop 4096 (believed file))
    → LeavesText file left
recovered_left file left card is stands head page same = record {
  head = head;
  page = page;
  text = λ other note there.
      subst (λ (n : Note). found (first_sum n) (drop 4096 (believed left))
      ≡ found (first_sum n) (drop 4096 (believed file)))
      (only_note 0 (believed file) card other is note stands there) same;
}

-- what was read of a file that opens
pub opens_so : (takes_less : Bool) (file : List ℕ) (other : Notes) (own : Option Note)
    (card : Note) → HasCard (believed file) other own card
    → (found (first_sum card) (drop 4096 (believed file))).is_damaged ≡ false
    → (takes_less ≡ false → AreKept card own other.witness (groups_under card file))
    → OpensUnder takes_less file other card
opens_so takes_less file other own card has calm kept =
    record { own = own; has = has; sound = calm; kept = kept }

module _ (file standby : List ℕ) (lines : List (List ℕ))
    (finds : FindsOf (believed file) standby lines) (card : Note) (is : IsNote card)
    (stands : StandsAt 0 (believed file) card) where
  same_card : finds.card ≡ card
  same_card = found_card (believed file) standby lines finds card is stands

  -- a file in which a start finds lines isn't damaged
  pub finds_calm : (found (first_sum card) (drop 4096 (believed file))).is_damaged ≡ false
  finds_calm =
      subst (λ (n : Note). (found (first_sum n) (drop 4096 (believed file))).is_damaged ≡ false)
      same_card (ap (λ (f : Found). f.is_damaged) finds.sound)

  -- and lacks nothing
  pub finds_kept : (own other : Option Note) → Reads 512 (believed file) own
      → Reads 512 standby other → AreKept card own other (groups_under card file)
  finds_kept own other mine theirs =
      let under : finds.groups ≡ groups_under finds.card file =
      sym (ap (λ (f : Found). f.groups) finds.sound) in
      let kept : AreKept finds.card own other (groups_under finds.card file) =
      subst (λ (gs : List (List (List ℕ))). AreKept finds.card own other gs) under
      (found_kept (believed file) standby lines finds own other mine theirs) in
      subst (λ (n : Note). AreKept n own other (groups_under n file)) same_card kept
