-- When two files are opened as the folder of a store.
use Rattle.std.specs.Prelude.{⊤, ◌≡◌, ◌⊎◌, ℕ, List, [], ◌∷◌, take, drop, Bool, true, false, if◌then◌else◌, Option, Some, None}
use Rattle.std.specs.Option.{option_map_or}
use Rattle.journal.specs.Reading.{found}
use Rattle.journal.specs.Head.{has_page, is_pair, believed, IsHeaded}
use Rattle.journal.specs.Selector.{other_counts}
use Rattle.journal.specs.Misnamed.{IsMisnamed}
use Rattle.journal.specs.Notes.{first_sum, IsNote, StandsAt, Reads}
use Rattle.journal.specs.Bonds.{bond_of}
use Rattle.journal.specs.declared.page.note.Note.{Note}
use Rattle.journal.specs.declared.page.Notes.{Notes}
use Rattle.journal.specs.declared.page.bond.Bond.{Bond}
use Rattle.journal.specs.declared.page.bond.Bond.TheVariants.{Fits, OtherStore, OtherMoment, Stale}
use Rattle.store_folder.specs.Folders.{IsKept, FindsOf, Finds}
use Rattle.store_folder.specs.declared.opening.error.OpenError.{OpenError}
use Rattle.store_folder.specs.declared.opening.error.OpenError.TheVariants.{OutOfMemory, DiskFailed, NoCard, OtherStore as other_store, OtherMoment as other_moment, Stale as stale}

-- memory was refused, or a disk: what the files hold doesn't refuse a start
abbrev pub IsPassing : OpenError → Type 0
IsPassing OutOfMemory = ⊤
IsPassing DiskFailed = ⊤
IsPassing error = ⊥

-- a first pair of marks counts
abbrev pub has_step : List ℕ → Bool
has_step (one ∷ other ∷ marks) = is_pair one other
has_step marks = false

-- A file has a head that can be read, and no note where a text of format 1 would begin.
pub record IsReadable (file : List ℕ) : Type 0 where
  pub steps : ℕ
  pub headed : IsHeaded file steps
  pub named : IsMisnamed file → ⊥

-- A file has a head that can be read, of format 2.
pub record IsPaged (file : List ℕ) : Type 0 where
  pub steps : ℕ
  pub headed : IsHeaded file steps
  pub page : has_page file ≡ true

-- the head of the first file can be read, and that of the one that counts
abbrev pub HaveHeads : List ℕ → List ℕ → Type 0
HaveHeads first second = IsReadable first × IsPaged (if other_counts first then second else first)

-- why notes that say this of two files don't fit
abbrev pub unfit_by : Bond → Option OpenError
unfit_by Fits = None
unfit_by OtherStore = Some other_store
unfit_by OtherMoment = Some other_moment
unfit_by Stale = Some stale

-- why the notes of a file that counts and of the other one don't fit
abbrev pub unfit_in : Notes → Notes → Option OpenError
unfit_in own other =
    option_map_or (λ card. unfit_by (bond_of card own.witness other)) own.card (Some NoCard)

-- what a note says is found among groups, where it was read
abbrev pub IsKeptIf : Note → List (List (List ℕ)) → Option Note → Type 0
IsKeptIf card groups (Some note) = IsKept card groups note
IsKeptIf card groups None = ⊤

-- What the card says is found among groups, and what two witnesses say that were read.
pub record AreKept (card : Note) (own other : Option Note)
    (groups : List (List (List ℕ))) : Type 0 where
  pub part : IsKept card groups card
  pub kept_own : IsKeptIf card groups own
  pub kept_other : IsKeptIf card groups other

-- A card was read of a file that counts, and what else was read of both pages fits.
pub record HasCard (page : List ℕ) (other : Notes) (own : Option Note) (card : Note) : Type 0 where
  pub is : IsNote card
  pub stands : StandsAt 0 page card
  pub witness : Reads 512 page own
  pub fits : bond_of card own other ≡ Fits

-- the groups that are found of a file under a card
abbrev pub groups_under : Note → List ℕ → List (List (List ℕ))
groups_under card file = (found (first_sum card) (drop 4096 (believed file))).groups

-- A file that counts has this card, and whole groups under it, to which the notes of both pages
-- fit. It lacks nothing, unless less is taken.
pub record OpensUnder (takes_less : Bool) (file : List ℕ) (other : Notes)
    (card : Note) : Type 0 where
  pub own : Option Note
  pub has : HasCard (believed file) other own card
  pub sound : (found (first_sum card) (drop 4096 (believed file))).is_damaged ≡ false
  pub kept : takes_less ≡ false → AreKept card own other.witness (groups_under card file)

-- A folder was opened of files in which a start finds lines: it holds what is found there. It lacks
-- nothing, unless less is taken.
abbrev pub Opens : Bool → (List (List ℕ) → Type 0) → (List (List ℕ) → List (List ℕ) → Type 0)
    → Type 0
Opens takes_less finds holds = (takes_less ≡ false → (lines : List (List ℕ)) × finds lines)
    × ((lines : List (List ℕ)) → finds lines → holds lines [])

-- which of two files counts, as the head of the first one says
abbrev pub CountsAs : Bool → List ℕ → List ℕ → Type 0
CountsAs true counts other = other_counts other ≡ true
CountsAs false counts other = other_counts counts ≡ false

-- A file is left with its head and its page, and what stands behind them is read as it was.
pub record LeavesText (file left : List ℕ) : Type 0 where
  pub head : take 4096 left ≡ take 4096 file
  pub page : take 4096 (believed left) ≡ take 4096 (believed file)
  pub text : (card : Note) → IsNote card → StandsAt 0 (believed file) card
      → found (first_sum card) (drop 4096 (believed left))
      ≡ found (first_sum card) (drop 4096 (believed file))

-- A start may find what it might before, or these lines, which it finds in what is read of the file
-- that counts and of the other one.
abbrev pub TellsStillOf : List ℕ → List ℕ → (Option (List (List ℕ)) → Type 0)
    → (Option (List (List ℕ)) → Type 0) → Type 0
TellsStillOf counts other old new = (lines : List (List ℕ))
    → FindsOf (believed counts) (believed other) lines
    → (told : Option (List (List ℕ))) → new told → old told ⊎ (told ≡ Some lines)

-- A start may find what it might before, or these lines, which it finds in what is read.
abbrev pub TellsStill : List ℕ → List ℕ → (Option (List (List ℕ)) → Type 0)
    → (Option (List (List ℕ)) → Type 0) → Type 0
TellsStill first second old new = (lines : List (List ℕ)) → Finds first second lines
    → (told : Option (List (List ℕ))) → new told → old told ⊎ (told ≡ Some lines)
