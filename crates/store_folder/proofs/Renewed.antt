-- A folder whose other file has a checkpoint, or a part of one.
use Rattle.std.proofs.Common.{◌≡◌, ◌∙◌, sym, subst, ℕ, ◌^◌, ◌<◌, List, [], take, Bool, true, false, if◌then◌else◌}
use Rattle.std.specs.Prelude.{IsTrue}
use Rattle.sqlite_disk.specs.Disk.{Follows}
use Rattle.journal.specs.Head.{believed}
use Rattle.journal.specs.Selector.{HasSelector, AllSelect}
use Rattle.journal.specs.declared.page.note.Note.{Note}
use Rattle.store_folder.specs.Blanks.{BlankIn}
use Rattle.store_folder.specs.Logs.{HoldsFolder}
use Rattle.store_folder.specs.Spares.{witness_of}
use Rattle.store_folder.specs.Takings.{CardLeft}
use Rattle.store_folder.proofs.Blanked.{belongs_blanked}
use Rattle.store_folder.proofs.Carding.{belongs_carded}
use Rattle.store_folder.proofs.Standing.{holds_beside}

module _ (card : Note) (is_second : Bool) (first : List ℕ) (clean : Bool) (text : List ℕ)
    (outcomes counts other blanked new : List ℕ → Type 0) (last : List ℕ) (end : ℕ)
    (kept waiting : List (List ℕ))
    (believes : (a : List ℕ) → counts a → outcomes (believed a))
    (active : IsTrue clean → (a : List ℕ) → counts a → HasSelector false a)
    (holds : HoldsFolder card is_second first clean text outcomes counts other last end kept
    waiting) where
  -- whatever was left of the blank file
  pub holds_written : (start : Bool) (seen any front : List ℕ) (put : Note)
      → put ≡ witness_of card end last → end < 2 ^ 64 → blanked seen
      → (start ≡ true → Follows (BlankIn put) other blanked) → other any
      → (is_second ≡ true → AllSelect true new)
      → front ≡ (if start then take 4096 (believed seen) else [])
      → ((c : List ℕ) → new c → CardLeft card front (believed c))
      → HoldsFolder card is_second first clean text outcomes counts new last end kept waiting
  holds_written start seen any front put is fits stays follows there chosen fronts left =
      holds_beside card is_second first clean text outcomes counts other new last end kept waiting
      believes active holds chosen
      (λ b at. belongs_carded holds.page card holds.log.has.groups start front (believed seen)
      (believed any) (believed b)
      (λ now. belongs_blanked card is_second first clean text outcomes counts other blanked last end
      kept waiting believes active holds put is fits (follows now) seen stays)
      (holds.log.belongs any there) fronts (left b at))

-- a file that was opened selects as its folder says
pub selects_so : (one two : Bool) (outcomes : List ℕ → Type 0) → two ≡ one → AllSelect one outcomes
    → two ≡ true → AllSelect true outcomes
selects_so one two outcomes same select is = subst (λ (b : Bool). AllSelect b outcomes)
    (sym same ∙ is) select
