-- What a reader of a file knows of the bytes that it was given.
use Rattle.std.specs.Prelude.{◌≡◌, ◌≤◌, ◌-◌, ℕ, List, [], ◌∷◌, ◌++◌, length, take, drop, replicate, Bool, true, false, if◌then◌else◌}
use Rattle.std.specs.List.{list_any}
use Rattle.sha2.specs.Hashers.{Holds256}
use Rattle.sha2.specs.declared.Sha256.{Sha256}
use Rattle.journal.specs.Text.{is_line_feed, is_torn, is_commit, has_noise, lines_text, group_sum, commit_line, sum_after, journal_text, journal_end, AreLines, AreGroups}
use Rattle.journal.specs.Reading.{whole_lines, last_piece, is_stray, found_none, with_groups, found_in, parsed}
use Rattle.journal.specs.declared.reader.Reader.{Reader}

-- the lines of a group that were read: those that wait, and its commit line where it was read once
abbrev pub held : List ℕ → ℕ → List (List ℕ) → Bool → List (List ℕ)
held before start pending false = pending
held before start pending true = pending ++ commit_line before start pending ∷ []

-- what is summed of lines that wait; once their commit line is read, a new sum begins
abbrev pub summed : List ℕ → List (List ℕ) → Bool → List ℕ
summed last waiting false = last ++ lines_text waiting
summed last waiting true = []

-- what is summed of the line that goes on: nothing of a commit line
abbrev pub summed_of : List ℕ → List ℕ
summed_of piece = if is_commit piece then [] else piece

-- No line so far had a zero. These are the lines of a group that wait.
pub record Going (first text last : List ℕ) (end : ℕ) (sum : List ℕ) (once : Bool) (piece : List ℕ)
    (hasher : Sha256) (groups : List (List (List ℕ))) : Type 0 where
  pub waiting : List (List ℕ)
  pub waits : AreLines waiting
  pub is : text ≡ journal_text first groups ++ (lines_text (held last end waiting once) ++ piece)
  pub sums : once ≡ true → sum ≡ group_sum last waiting
  pub hashes : is_torn piece ≡ false → Holds256 hasher (summed last waiting once ++ summed_of piece)
  pub holds : (rest : List ℕ) → parsed first (text ++ rest)
      ≡ with_groups groups
      (found_in last end waiting once (whole_lines (piece ++ rest))
      (last_piece (piece ++ rest)))

-- A line had a zero, and no whole line behind it commits a group elsewhere.
pub record Over (first text : List ℕ) (end : ℕ) (piece : List ℕ)
    (groups : List (List (List ℕ))) : Type 0 where
  pub behind : List ℕ
  pub is : text ≡ journal_text first groups ++ behind
  pub holds : (rest : List ℕ) → parsed first (text ++ rest)
      ≡ with_groups groups (found_none (list_any (is_stray end) (whole_lines (piece ++ rest))))

-- which of both
abbrev pub Stage : Bool → List ℕ → List ℕ → List ℕ → ℕ → List ℕ → Bool → List ℕ → Sha256
    → List (List (List ℕ)) → Type 0
Stage false first text last end sum once piece hasher groups =
    Going first text last end sum once piece hasher groups
Stage true first text last end sum once piece hasher groups = Over first text end piece groups

-- Groups were read, and a part of a line, of which the head is kept.
pub record ReadSo (first text last : List ℕ) (end : ℕ) (sum : List ℕ) (once over : Bool) (at : ℕ)
    (head : List ℕ) (torn : Bool) (hasher : Sha256) : Type 0 where
  pub groups : List (List (List ℕ))
  pub piece : List ℕ
  pub each : AreGroups groups
  pub whole : list_any is_line_feed piece ≡ false
  pub place : at ≡ length text
  pub starts : head ≡ take 83 piece
  pub zeros : torn ≡ is_torn piece
  pub clear : has_noise text ≡ false
  pub ends : end ≡ journal_end first groups
  pub last_is : last ≡ sum_after first groups
  pub stage : Stage over first text last end sum once piece hasher groups

-- a reader was given these bytes of a file with this first sum
abbrev pub HasRead : List ℕ → List ℕ → Reader → Type 0
HasRead first text reader =
    ReadSo first text reader.last reader.end reader.sum reader.once reader.is_over reader.at
    reader.head.items reader.is_torn reader.hasher

-- from this place on a text is zeros
abbrev pub ZerosFrom : ℕ → List ℕ → Type 0
ZerosFrom till text = (till ≤ length text) × (drop till text ≡ replicate (length text - till) 0)

-- The whole lines of a block stand first, and end there. None end at 0.
pub record IsCut (block lines : List ℕ) (cut : ℕ) : Type 0 where
  pub within : cut ≤ length block
  pub splits : (rest : List ℕ)
      → whole_lines (block ++ rest) ≡ whole_lines lines ++ whole_lines (drop cut block ++ rest)
  pub none : cut ≡ 0 → (list_any is_line_feed block ≡ false) × (lines ≡ [])
