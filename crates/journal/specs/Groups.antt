-- When a journal has groups.
use Rattle.std.specs.Prelude.{◌≡◌, ◌⊎◌, ◌++◌, ℕ, List, [], ◌∷◌, replicate, Bool, IsTrue}
use Rattle.journal.specs.Text.{sum_after, journal_text, journal_end, AreGroups}
use Rattle.journal.specs.Reading.{found, sound}
use Rattle.journal.specs.Crashes.{Only}

-- the groups, and one more where it has a line
abbrev pub added : List (List (List ℕ)) → List (List ℕ) → List (List (List ℕ))
added groups [] = groups
added groups (line ∷ lines) = groups ++ (line ∷ lines) ∷ []

-- The file is these groups behind a first sum, and zeros. All of it is on the disk, and this is the
-- last sum and where the groups end.
pub record HasGroups (text : List ℕ) (outcomes : List ℕ → Type 0) (last : List ℕ) (end : ℕ)
    (first : List ℕ) (groups : List (List (List ℕ))) : Type 0 where
  pub room : ℕ
  pub each : AreGroups groups
  pub file : text ≡ journal_text first groups ++ replicate room 0
  pub sum : last ≡ sum_after first groups
  pub ends : end ≡ journal_end first groups
  pub durable : Only text outcomes

-- on a clean disk, whatever groups one file has, the other one has
abbrev pub GroupsStay : Bool → (List ℕ → List (List (List ℕ)) → Type 0)
    → (List ℕ → List (List (List ℕ)) → Type 0) → Type 0
GroupsStay is_clean old new = (first : List ℕ) (groups : List (List (List ℕ))) → IsTrue is_clean
    → old first groups → new first groups

-- each crash leaves a file that is read as these groups, or as those
abbrev pub LeavesEither : List ℕ → List (List (List ℕ)) → List (List (List ℕ)) → (List ℕ → Type 0)
    → Type 0
LeavesEither first groups more may_leave = (c : List ℕ) → may_leave c
    → (found first c ≡ sound groups) ⊎ (found first c ≡ sound more)
