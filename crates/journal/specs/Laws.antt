-- What holds of the text of journals.
use Rattle.std.specs.Prelude.{◌≡◌, ◌≢◌, ◌⊎◌, ◌<◌, ◌^◌, ℕ, List, [], ◌∷◌, ◌++◌, length, replicate, true, false}
use Rattle.std.specs.List.{list_any}
use Rattle.journal.specs.Text.{sum_of, sum_after, is_zero, is_torn, has_noise, journal_lines, journal_text, journal_end, group_text, AreLines, AreGroups}
use Rattle.journal.specs.Reading.{found, sound, whole_lines, is_stray}
use Rattle.journal.specs.Crashes.{Mixes}

-- two texts with one sum
abbrev pub Collision : Type 0
Collision = (a : List ℕ) × (b : List ℕ) × (a ≢ b) × (sum_of a ≡ sum_of b)

-- A journal is read as what was written.
abbrev pub WhatIsWrittenIsRead : Type 0
WhatIsWrittenIsRead = (first : List ℕ) (groups : List (List (List ℕ))) (room : ℕ) → AreGroups groups
    → found first (journal_text first groups ++ replicate room 0) ≡ sound groups

-- A group of which a crash lost a byte isn't there; a whole one is. Nothing of it is found as
-- damage.
abbrev pub ATornGroupIsNotThere : Type 0
ATornGroupIsNotThere =
    (first : List ℕ) (groups : List (List (List ℕ))) (group : List (List ℕ)) (mixed : List ℕ)
    (room : ℕ)
    → AreGroups groups → AreLines group
    → let bytes = group_text (sum_after first groups) (journal_end first groups) group in
    let text = journal_text first groups ++ (mixed ++ replicate room 0) in
    Mixes (replicate (length bytes) 0) bytes mixed
    → ((found first text ≡ sound groups) × (is_torn mixed ≡ true))
    ⊎ ((found first text ≡ sound (groups ++ group ∷ [])) × (mixed ≡ bytes))

-- Whatever stands in a file: what is read as committed stands there so, line by line from the
-- front. What is left out is found as damage, or has no whole commit line of a group that begins
-- elsewhere than where the groups end.
abbrev pub NothingIsSkipped : Type 0
NothingIsSkipped = (first text : List ℕ) → (rest : List (List ℕ))
    × (whole_lines text ≡ journal_lines first (found first text).groups ++ rest)
    × ((found first text).is_damaged ≡ false
    → list_any (is_stray (journal_end first (found first text).groups)) rest ≡ false)

-- A zero before a whole group is found as damage, whatever else stands there: so no group is lost
-- silently but the last.
abbrev pub AZeroIsTold : Type 0
AZeroIsTold = (first before front more : List ℕ) (group : List (List ℕ)) → AreLines group
    → list_any is_zero front ≡ true → length front < 2 ^ 64
    → (found first (front ++ (group_text before (length front) group ++ more))).is_damaged ≡ true

-- Each other change of a byte is found as damage, or here are two texts with one SHA-256.
abbrev pub AChangeIsTold : Type 0
AChangeIsTold = (first : List ℕ) (groups : List (List (List ℕ))) (front back : List ℕ)
    (byte other room : ℕ)
    → AreGroups groups → journal_end first groups < 2 ^ 64
    → journal_text first groups ≡ front ++ byte ∷ back → other ≢ byte → other ≢ 0
    → ((found first (front ++ (other ∷ (back ++ replicate room 0)))).is_damaged ≡ true) ⊎ Collision

-- A byte that no UTF-8 text has is found as damage, wherever it stands.
abbrev pub NoiseIsTold : Type 0
NoiseIsTold = (first text : List ℕ) → has_noise text ≡ true
    → (found first text).is_damaged ≡ true

-- The last sum tells all that stands before it: two journals of as many groups with one last sum
-- are one, or here are two texts with one SHA-256.
abbrev pub TheLastSumTellsAll : Type 0
TheLastSumTellsAll = (first : List ℕ) (groups others : List (List (List ℕ)))
    → AreGroups groups → AreGroups others → length groups ≡ length others
    → sum_after first groups ≡ sum_after first others → (groups ≡ others) ⊎ Collision
