-- What holds of the answers to a script. Each statement is the contract of a function of the module
-- `laws`. Ours, unless a source stands beside.
use Rattle.std.specs.Prelude.{ℕ, List, ◌↔◌}
use Rattle.meta_types.specs.Rows.{State, empty_store}
use Rattle.meta_types.specs.Sound.{IsSound}
use Rattle.scripts.specs.Output.{IsOutput}
use Rattle.scripts.specs.WholeScripts.{AnswersLine, AnswersScript}

-- The bytes that answer a script are its computed outputs, and no others. So each script has an
-- answer; and runs that are refused alike have one (`EachScriptHasOneOutput`).
abbrev pub WhatAnswersIsAnOutput : Type 0
WhatAnswersIsAnOutput = (script written : List ℕ) → AnswersScript script written ↔ IsOutput script written

-- a line leaves a sound store sound, so each store on the way through a script is
abbrev pub EachStoreIsSound : Type 0
EachStoreIsSound = IsSound empty_store
    × ((state : State) (line reply : List ℕ) (new : State) → IsSound state
    → AnswersLine state line reply new → IsSound new)
