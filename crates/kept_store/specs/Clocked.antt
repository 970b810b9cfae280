-- Which lines a clock lets through, and what the others are answered. Ours.
use Rattle.std.specs.Prelude.{◌≡◌, ◌⊎◌, ℕ, ◌==◌, List, [], ◌∷◌, ◌++◌, length, Bool, true, false, nat_le, if◌then◌else◌, Option, Some, None, option_and_then, ℤ, ◌-ℤ◌, unsigned_abs}
use Rattle.meta_types.specs.Time.{instant_of}
use Rattle.meta_types.specs.Steps.{refused}
use Rattle.meta_types.specs.declared.request.Request.{Request}
use Rattle.meta_types.specs.declared.request.Request.TheVariants as Q
use Rattle.meta_types.specs.declared.fault.Fault.{Fault}
use Rattle.meta_types.specs.declared.fault.Fault.TheVariants.{InvalidArgument, OutOfMemory}
use Rattle.request_line.specs.declared.command.Command.{Command}
use Rattle.request_line.specs.declared.command.Command.TheVariants as A
use Rattle.reply_line.specs.Replies.{answer_text}
use Rattle.scripts.specs.Lines.{short_request}
use Rattle.kept_store.specs.Replays.{StepsOf}
use Rattle.kept_store.specs.declared.run.clocked.ClockedReply.{ClockedReply}
use Rattle.kept_store.specs.declared.run.clocked.ClockedReply.TheVariants.{Refused, Reply}

-- ---- the moment of a line

-- when a request begins an ingest, or goes on with one; its text may be no moment
abbrev pub opening_moment : Request → Option ℤ
opening_moment (Q.IngestBegin asked) = instant_of asked.at
opening_moment (Q.IngestOpen asked) = instant_of asked.at
opening_moment request = None

-- the moment of what a line asks for, if it has one that can be read
abbrev pub asked_moment : Command → Option ℤ
asked_moment (A.Request request) = opening_moment request
asked_moment (A.Show request answer there) = opening_moment request
asked_moment (A.Collect at dry) = instant_of at
asked_moment (A.Remove removal at) = instant_of at
asked_moment (A.Explain ns kind name at) = instant_of at
asked_moment (A.Impact ns kind name at) = instant_of at
asked_moment A.BackList = None

-- the same of a line: one that is empty or too long asks for nothing
abbrev pub moment_in : List ℕ → Option ℤ
moment_in line =
    if length line == 0 then None else option_and_then asked_moment (short_request line)

-- ---- near and far

-- a moment is at most this number of nanoseconds from what a clock tells; no moment is near if the
-- clock tells nothing
abbrev pub is_near : ℕ → Option ℤ → ℤ → Bool
is_near most None moment = false
is_near most (Some now) moment = nat_le (unsigned_abs (moment -ℤ now)) most

-- a line without a moment is let through, and one whose moment is near
abbrev pub lets_moment : ℕ → Option ℤ → Option ℤ → Bool
lets_moment most now None = true
lets_moment most now (Some moment) = is_near most now moment

-- whatever the clock tells at the line, it lets the line through
abbrev pub IsLet : ℕ → List ℕ → Type 0
IsLet most line = (now : Option ℤ) × (lets_moment most now (moment_in line) ≡ true)

-- the line is refused: its moment is far from what the clock tells, or memory to read it is missing
abbrev pub IsKeptOut : ℕ → List ℕ → Fault → Type 0
IsKeptOut most line fault = ((fault ≡ InvalidArgument)
    × ((now : Option ℤ) × (lets_moment most now (moment_in line) ≡ false)))
    ⊎ (fault ≡ OutOfMemory)

-- ---- replies and steps

-- what is written for a refused line
abbrev pub refusal_bytes : Fault → List ℕ
refusal_bytes fault = answer_text (refused fault) ++ 10 ∷ []

-- what is written for a reply
abbrev pub clocked_bytes : {P : Type 0} → (P → List ℕ) → ClockedReply P → List ℕ
clocked_bytes bytes (Refused fault) = refusal_bytes fault
clocked_bytes bytes (Reply reply) = bytes reply

-- a refusal has nothing before its text
abbrev pub clocked_front : {P : Type 0} → (P → List ℕ) → ClockedReply P → List ℕ
clocked_front front (Refused fault) = []
clocked_front front (Reply reply) = front reply

-- what is written for a line that is refused: nothing for an empty one
abbrev pub refusal_of : Fault → List ℕ → List ℕ
refusal_of fault line = if length line == 0 then [] else refusal_bytes fault

-- the line is refused with this fault, and the service stays as it is
abbrev pub IsRefusedWith : {S : Type 0} → Fault → S → List ℕ → List ℕ → Bool → S → Type 0
IsRefusedWith fault service line reply changes next =
    (reply ≡ refusal_of fault line) × (changes ≡ false) × (next ≡ service)

-- A line is answered as by the service, and then the clock lets it through. Or it is refused: its
-- moment is far from what the clock tells, or memory or room is missing.
abbrev pub ClockedSteps : {S : Type 0} → StepsOf S → ℕ → StepsOf S
ClockedSteps steps most service line reply changes next =
    (IsLet most line × steps service line reply changes next)
    ⊎ ((fault : Fault) × IsKeptOut most line fault
    × IsRefusedWith fault service line reply changes next)
