-- What two files of a folder hold, before one of them is opened.
use Rattle.std.specs.Prelude.{◌≡◌, ◌⊎◌, ◌<◌, ℕ, List, length, true, false}
use Rattle.journal.specs.Head.{is_blank, IsHeaded}
use Rattle.journal.specs.Selector.{other_counts}
use Rattle.store_folder.specs.declared.choosing.Selection.{Selection}
use Rattle.store_folder.specs.declared.choosing.Selection.TheVariants.{Store, Missing, Nothing}

-- The first file has a head, which says whether the second one counts, and that one has bytes then.
-- If a file is missing or empty that has to count, or the first one beside a second one, that one
-- is missing. If the first one never had a head, and the second one has no bytes, there is no
-- store.
abbrev pub IsChoice : List ℕ → List ℕ → Selection → Type 0
IsChoice first second (Store is_second) =
    ((steps : ℕ) × IsHeaded first steps) × (other_counts first ≡ is_second)
    × (is_second ≡ true → 0 < length second)
IsChoice first second (Missing true) =
    (other_counts first ≡ true) × ((length second ≡ 0) ⊎ (is_blank second ≡ true))
IsChoice first second (Missing false) = (is_blank first ≡ true) × (0 < length second)
IsChoice first second Nothing = (is_blank first ≡ true) × (length second ≡ 0)
