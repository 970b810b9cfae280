-- A file that doesn't count is made longer.
use Rattle.std.proofs.Common.{◌≡◌, ◌∙◌, ap, sym, refl, ℕ, ◌+◌, List, ◌++◌, drop, replicate, subst, Bool, false, append_assoc}
use Rattle.std.proofs.lemmas.List.{replicate-append-replicate}
use Rattle.std.specs.Prelude.{IsTrue}
use Rattle.sqlite_disk.specs.Disk.{Follows}
use Rattle.journal.specs.Growth.{Longer, Behind}
use Rattle.journal.specs.Groups.{HasGroups}
use Rattle.journal.specs.Head.{believed, Texts}
use Rattle.journal.specs.Selector.{HasSelector, AllSelect}
use Rattle.journal.specs.declared.page.note.Note.{Note}
use Rattle.store_folder.specs.Logs.{HoldsFolder}
use Rattle.store_folder.specs.Spares.{LongerIn}
use Rattle.store_folder.proofs.Puts.{as_it_was}
use Rattle.store_folder.proofs.Standing.{counts_feed, holds_beside, belongs_longer}

-- longer than a longer one
pub longer_still : (a b c : List ℕ) → Longer a b → Longer b c → Longer a c
longer_still a b c one two = (
  one.0 + two.0,
  two.1
      ∙ ap (λ (t : List ℕ). t ++ replicate two.0 0) one.1
      ∙ append_assoc a (replicate one.0 0) (replicate two.0 0)
      ∙ ap (λ (t : List ℕ). a ++ t) (replicate-append-replicate one.0 two.0 0),
)

pub none_longer : (leaves : List ℕ → Type 0) → Follows LongerIn leaves leaves
none_longer leaves c left = (
  c,
  left,
  record { text = as_it_was (believed c) (believed c) refl; selector = refl },
)

pub longer_in : (standby : Bool) (seen : List ℕ) (old new : List ℕ → Type 0) → old seen
    → AllSelect standby old → AllSelect standby new
    → ((t : List ℕ) → Texts new t → Longer (believed seen) t) → Follows LongerIn old new
longer_in standby seen old new stays selected selects crash c left = (
  seen,
  stays,
  record {
    text = crash (believed c) (c, left, refl);
    selector = (selects c left).selector ∙ sym (selected seen stays).selector;
  },
)

-- the folder holds the same lines
pub holds_longer : (card : Note) (is_second : Bool) (first : List ℕ) (clean : Bool) (text : List ℕ)
    (outcomes counts other new : List ℕ → Type 0) (last : List ℕ) (end : ℕ)
    (kept waiting : List (List ℕ)) → ((a : List ℕ) → counts a → outcomes (believed a))
    → (IsTrue clean → (a : List ℕ) → counts a → HasSelector false a)
    → HoldsFolder card is_second first clean text outcomes counts other last end kept waiting
    → Follows LongerIn other new
    → HoldsFolder card is_second first clean text outcomes counts new last end kept waiting
holds_longer card is_second first clean text outcomes counts other new last end kept waiting
    believes
    active holds follows =
    holds_beside card is_second first clean text outcomes counts other new last end kept waiting
    believes active holds
    (λ second b there.
    let was = follows b there in
    counts_feed b (was.2.selector ∙ (holds.log.chosen second was.0 was.1).selector))
    (λ b there.
    let was = follows b there in
    belongs_longer holds.page card holds.log.has.groups (believed was.0) (believed b)
    (holds.log.belongs was.0 was.1) was.2.text)

-- ---- one file under two names

pub groups_as : {L : Type 0} (text : L → List ℕ) (leaves : L → List ℕ → Type 0) (a b : L)
    (last : List ℕ) (end : ℕ) (first : List ℕ) (groups : List (List (List ℕ))) → b ≡ a
    → HasGroups (drop 4096 (text a)) (Behind 4096 (leaves a)) last end first groups
    → HasGroups (drop 4096 (text b)) (Behind 4096 (leaves b)) last end first groups
groups_as text leaves a b last end first groups same has =
    subst (λ log. HasGroups (drop 4096 (text log)) (Behind 4096 (leaves log)) last end first groups)
    (sym same) has
