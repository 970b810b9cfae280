-- A session's part of the log, beside its list. Ours, unless a source stands beside.
use Rattle.std.specs.Prelude.{ℕ, ◌≡◌, ◌≢◌, ◌<◌, ◌==◌, take, slice_get, List, All, filter, map}
use Rattle.meta_types.specs.Histories.{Entry}
use Rattle.store_front.specs.SessionEntries.{SessionEntry, Seat}

-- an entry without its session
abbrev pub session_entry_of : Entry → SessionEntry
session_entry_of e = record { event = e.event; answer = e.answer }

-- a session's part of the log
abbrev pub part : ℕ → List Entry → List SessionEntry
part number log = map session_entry_of (filter (λ e. e.session == number) log)

-- the session's list is its part of the log
abbrev pub IsPart : List Entry → Seat → Type 0
IsPart log s = part s.number log ≡ s.list

-- at this place the two lists differ first
abbrev pub DifferFirst : List SessionEntry → List SessionEntry → ℕ → Type 0
DifferFirst xs ys place = (take place xs ≡ take place ys) × (slice_get xs place ≢ slice_get ys place)

-- the entries are of sessions that were opened
abbrev pub AreOpened : ℕ → List Entry → Type 0
AreOpened opened log = All (λ e. e.session < opened) log
