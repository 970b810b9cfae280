-- Which lines a run does, by the room that its log has.
use Rattle.std.specs.Prelude.{⊤, ◌≡◌, ◌≤◌, ℕ, List, length, Bool, false, IsTrue}
use Rattle.line_loop.specs.declared.mode.Mode.{Mode}
use Rattle.line_loop.specs.declared.mode.Mode.TheVariants.{AllLines, NoAdditions, ReadOnly}

-- Where additions are refused, only lines of at most 8,192 bytes are done.
abbrev pub IsShort : Mode → List ℕ → Type 0
IsShort AllLines line = ⊤
IsShort NoAdditions line = length line ≤ 8192
IsShort ReadOnly line = ⊤

-- Whether a line that the service did may have changed it: in the last room no line that adds, and
-- none where there is no room.
abbrev pub MayChange : (List ℕ → Bool) → Mode → List ℕ → Bool → Type 0
MayChange adds AllLines line changes = ⊤
MayChange adds NoAdditions line changes = IsTrue changes → adds line ≡ false
MayChange adds ReadOnly line changes = changes ≡ false

-- The same of a run, which in the last room does no long line.
abbrev pub Allows : (List ℕ → Bool) → Mode → List ℕ → Bool → Type 0
Allows adds mode line changes = MayChange adds mode line changes
    × (IsTrue changes → IsShort mode line)

-- The bytes that a log has room for: those of a block with its commit lines, and a MiB more where
-- lines may add.
abbrev pub room_of : Mode → ℕ
room_of AllLines = 1183744
room_of NoAdditions = 135168
room_of ReadOnly = 0
