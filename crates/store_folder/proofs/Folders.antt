-- On the log of a folder.
use Rattle.std.proofs.Common.{◌≡◌, ◌∙◌, ap, sym, ℕ, ◌++◌, List, take, drop, Bool, true, false, inl, inr}
use Rattle.std.specs.Prelude.{IsTrue}
use Rattle.journal.specs.Text.{lines_text, AreLines}
use Rattle.journal.specs.Reading.{found, sound}
use Rattle.journal.specs.Head.{believed}
use Rattle.journal.specs.Groups.{HasGroups, LeavesEither, added}
use Rattle.journal.specs.Selector.{other_counts, AllSelect}
use Rattle.journal.specs.Notes.{first_sum}
use Rattle.journal.specs.declared.page.note.Note.{Note}
use Rattle.line_loop.specs.Runs.{FindsOnly, FindsEither}
use Rattle.line_loop.specs.JournalLines.{lines_of}
use Rattle.line_loop.proofs.JournalLines.{read_so, finds_only, lines_of-added}
use Rattle.store_folder.specs.Folders.{Belongs, MayTell}
use Rattle.store_folder.specs.Logs.{HasFolder}
use Rattle.store_folder.proofs.Telling.{tells_only, tells_either, belongs_more}

module _ (page : List ℕ) (card : Note) (is_second : Bool) (outcomes counts other : List ℕ → Type 0)
    (paged : (a : List ℕ) → counts a → take 4096 (believed a) ≡ page)
    (active : (a : List ℕ) → counts a → is_second ≡ false → other_counts a ≡ false)
    (within : (a : List ℕ) → counts a → outcomes (drop 4096 (believed a)))
    (chosen : is_second ≡ true → AllSelect true other) (first : List ℕ)
    (begins : first ≡ first_sum card) where
  read_with : (a : List ℕ) (groups : List (List (List ℕ)))
      → found first (drop 4096 (believed a)) ≡ sound groups
      → found (first_sum card) (drop 4096 (believed a)) ≡ sound groups
  read_with a groups read =
      ap (λ (s : List ℕ). found s (drop 4096 (believed a))) (sym begins) ∙ read

  -- each crash leaves these groups
  pub folder_only : (groups : List (List (List ℕ))) (kept : List (List ℕ))
      → ((b : List ℕ) → other b → Belongs page (believed b) card groups)
      → ((c : List ℕ) → outcomes c → found first c ≡ sound groups)
      → lines_of groups ≡ kept → FindsOnly kept (MayTell is_second counts other)
  folder_only groups kept belongs read has =
      tells_only page card is_second counts other paged active chosen groups kept belongs
      (λ a here. read_with a groups (read (drop 4096 (believed a)) (within a here))) has

  -- each crash leaves these groups, or one more
  pub folder_either : (groups : List (List (List ℕ))) (kept waiting : List (List ℕ))
      → ((b : List ℕ) → other b → Belongs page (believed b) card groups)
      → LeavesEither first groups (added groups waiting) outcomes
      → lines_of groups ≡ kept
      → FindsEither kept (kept ++ waiting) (MayTell is_second counts other)
  folder_either groups kept waiting belongs read has =
      tells_either page card is_second counts other paged active chosen groups
      (added groups waiting) kept (kept ++ waiting) belongs
      (λ b there. belongs_more page (believed b) card groups waiting (belongs b there))
      (λ a here. elim (read (drop 4096 (believed a)) (within a here)) [
        | inl before ↦ inl (read_with a groups before)
        | inr more ↦ inr (read_with a (added groups waiting) more)
      ])
      has
      (lines_of-added groups waiting ∙ ap (λ (ls : List (List ℕ)). ls ++ waiting) has)

  -- the log holds these groups
  pub has_folder : (clean : Bool) (text last : List ℕ) (end : ℕ) (pending : List ℕ)
      (groups : List (List (List ℕ))) (kept waiting : List (List ℕ)) → IsTrue clean
      → HasGroups text outcomes last end first groups
      → lines_of groups ≡ kept → AreLines waiting → pending ≡ lines_text waiting
      → ((b : List ℕ) → other b → Belongs page (believed b) card groups)
      → HasFolder page card is_second first clean text outcomes counts other last end pending kept
      waiting
  has_folder clean text last end pending groups kept waiting reads has is each waits belongs =
      let same = read_so first text last outcomes end groups has in record {
        has = record {
          reads = reads;
          groups = groups;
          has = has;
          is = is;
          each = each;
          waits = waits;
          only = finds_only first groups kept outcomes is same;
        };
        begins = begins;
        chosen = chosen;
        belongs = belongs;
        only = folder_only groups kept belongs same is;
      }
