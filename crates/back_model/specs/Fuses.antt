-- Devices with a fuse, which fail once where they are armed. Ours, unless a source stands beside.
use Rattle.std.specs.Prelude.{ℕ, ◌+◌, ◌-◌, ◌^◌, Bool, true, false, ◌==◌, not, ◌&&◌, if◌then◌else◌}
use Rattle.back_model.specs.declared.fuse.Fuse.{Fuse}

-- a new fuse passes every call
abbrev pub whole : Fuse
whole = record { fails = 0; armed = false; passes = 0 }

-- a fuse that passes this number of calls, and fails the next
abbrev pub armed_for : ℕ → Fuse → Fuse
armed_for passes fuse = record fuse { armed = true; passes = passes }

-- the next call that reaches the device fails, unless 2^64 - 1 have failed
abbrev pub is_blown : Fuse → Bool
is_blown fuse = fuse.armed && ((fuse.passes == 0) && not (fuse.fails == 2 ^ 64 - 1))

-- the call fails: a call that the contents refuse doesn't reach the device
abbrev pub is_failed : Bool → Fuse → Bool
is_failed refused fuse = is_blown fuse && not refused

-- after a call: one failed, or one passed; a blown fuse waits for a call that reaches the device
abbrev pub after_call : Bool → Fuse → Fuse
after_call refused fuse =
    if is_blown fuse then (if refused then fuse else record fuse { fails = fuse.fails + 1; armed = false }) else record fuse { passes = fuse.passes - 1 }
