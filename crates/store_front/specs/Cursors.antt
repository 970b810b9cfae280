-- How far the sessions' lists are compared with the log. Ours, unless a source stands beside.
use Rattle.std.specs.Prelude.{ℕ, ◌≡◌, ◌≢◌, ◌<◌, ◌≤◌, List, take, length, slice_index_or}
use Rattle.meta_types.specs.Histories.{Entry}
use Rattle.store_front.specs.SessionEntries.{Seat}
use Rattle.store_front.specs.Parts.{part}

-- the list begins with the session's part of these entries, which ends before place `next`
abbrev pub IsUpTo : List Entry → Seat → ℕ → Type 0
IsUpTo log s next = (part s.number log ≡ take next s.list) × (next ≤ length s.list)

-- so it is of each list
abbrev pub AreUpTo : List Entry → List Seat → List ℕ → Type 0
AreUpTo log seats next = (j : ℕ) (d : Seat) (e : ℕ) → j < length seats → IsUpTo log (slice_index_or seats j d) (slice_index_or next j e)

-- each list ends at its `next`
abbrev pub AreEnded : List Seat → List ℕ → Type 0
AreEnded seats next = (j : ℕ) (d : Seat) (e : ℕ) → j < length seats → slice_index_or next j e ≡ length (slice_index_or seats j d).list

-- one list goes on there
pub record IsShort (seats : List Seat) (next : List ℕ) (place : ℕ) : Type 0 where
  pub at : ℕ
  pub seat : Seat
  pub number : ℕ
  pub inside : at < length seats
  pub is : slice_index_or next at number ≡ place
  pub more : place ≢ length (slice_index_or seats at seat).list
