-- A selector is put into the first file.
use Rattle.std.proofs.Common.{◌≡◌, ◌⊎◌, ◌∙◌, ap, sym, refl, subst, ℕ, List, Bool, true, false, not, inl, inr, if◌then◌else◌}
use Rattle.journal.specs.Head.{believed}
use Rattle.journal.specs.Selector.{other_counts, HasSelector, SelectorLeft}
use Rattle.journal.specs.Bonds.{AChoiceTurnsThem}
use Rattle.store_folder.specs.Folders.{counting, standby, FindsOf, Finds}
use Rattle.store_folder.specs.Laws.{IsCheckpoint}
use Rattle.store_folder.proofs.Notes.{turned}

counting_as : (first second : List ℕ) (is_second : Bool) → other_counts first ≡ is_second
    → counting first second ≡ believed (if is_second then second else first)
counting_as first second is_second is =
    ap (λ (b : Bool). believed (if b then second else first)) is

standby_as : (first second : List ℕ) (is_second : Bool) → other_counts first ≡ is_second
    → standby first second ≡ believed (if is_second then first else second)
standby_as first second is_second is =
    ap (λ (b : Bool). believed (if b then first else second)) is

-- the texts of both files are the same
moved : (a b c d : List ℕ) (lines : List (List ℕ)) → a ≡ c → b ≡ d → FindsOf a b lines
    → FindsOf c d lines
moved a b c d lines one two finds =
    subst (λ (t : List ℕ). FindsOf c t lines) two
    (subst (λ (t : List ℕ). FindsOf t b lines) one finds)

-- the first file with another head
text_of : (to : Bool) (first second left : List ℕ) → believed left ≡ believed first
    → believed (if to then second else left) ≡ believed (if to then second else first)
text_of true first second left same = refl
text_of false first second left same = same

text_too : (to : Bool) (first second left : List ℕ) → believed left ≡ believed first
    → believed (if to then left else second) ≡ believed (if to then first else second)
text_too true first second left same = same
text_too false first second left same = refl

-- what counted before is the other file now
crossed : (to : Bool) (first second : List ℕ)
    → believed (if not to then second else first) ≡ believed (if to then first else second)
crossed true first second = refl
crossed false first second = refl

crossed_too : (to : Bool) (first second : List ℕ)
    → believed (if not to then first else second) ≡ believed (if to then second else first)
crossed_too true first second = refl
crossed_too false first second = refl

pub selector_left : AChoiceTurnsThem → (to : Bool) (first second left : List ℕ)
    (lines more : List (List ℕ))
    → HasSelector (not to) first → (finds : Finds first second lines)
    → IsCheckpoint finds.card.identity finds.card.generation (standby first second) more
    → SelectorLeft to first left → Finds left second lines ⊎ Finds left second more
selector_left law to first second left lines more was finds has out =
    elim (out.selector (not to) was) [
      | inl same ↦ inl (moved (counting first second) (standby first second)
          (counting left second) (standby left second) lines
          (counting_as first second (not to) was.selector
          ∙ sym (text_of (not to) first second left out.text)
          ∙ sym (counting_as left second (not to) same.selector))
          (standby_as first second (not to) was.selector
          ∙ sym (text_too (not to) first second left out.text)
          ∙ sym (standby_as left second (not to) same.selector))
          finds)
      | inr new ↦ inr (moved (standby first second) (counting first second)
          (counting left second) (standby left second) more
          (standby_as first second (not to) was.selector ∙ crossed_too to first second
          ∙ sym (text_of to first second left out.text)
          ∙ sym (counting_as left second to new.selector))
          (counting_as first second (not to) was.selector ∙ crossed to first second
          ∙ sym (text_too to first second left out.text)
          ∙ sym (standby_as left second to new.selector))
          (turned (counting first second) (standby first second) lines more law finds has))
    ]
