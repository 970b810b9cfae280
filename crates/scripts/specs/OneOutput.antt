-- A script has one output. Ours, unless a source stands beside.
use Rattle.std.specs.Prelude.{◌≡◌, ℕ, List, map, Option, Some, None}
use Rattle.meta_types.specs.Text.{Text}
use Rattle.meta_types.specs.Rows.{State, empty_store}
use Rattle.meta_types.specs.Sound.{IsSound}
use Rattle.meta_types.specs.Impacts.{Impact}
use Rattle.meta_types.specs.Questions.{ExplanationValue, IsExplanationFor, IsImpactFor}
use Rattle.scripts.specs.LineSteps.{Supplied, gives}
use Rattle.scripts.specs.Lines.{lines_of}
use Rattle.scripts.specs.Output.{Supplies, output_of, AreTrue}

-- a sound store has one right answer to what keeps a row at a moment
abbrev pub EachExplanationIsOne : Type 0
EachExplanationIsOne = (state : State) → IsSound state → (ns kind name at : Text) (told other : ExplanationValue)
    → IsExplanationFor state.records ns kind name at told
    → IsExplanationFor state.records ns kind name at other
    → told ≡ other

-- any store has one right answer to what would go without a row at a moment
abbrev pub EachImpactIsOne : Type 0
EachImpactIsOne = (state : State) (ns kind name at : Text) (impact other : Impact)
    → IsImpactFor state ns kind name at impact → IsImpactFor state ns kind name at other
    → impact ≡ other

-- what a line is refused with, without an answer to its question
abbrev pub refused_with : Option Supplied → Option Supplied
refused_with (Some (gives given)) = None
refused_with supplied = supplied

-- Each question has one right answer: runs that are refused alike and answer nothing wrong write
-- the same.
abbrev pub EachScriptHasOneOutput : Type 0
EachScriptHasOneOutput = (supplies others : Supplies) (script : List ℕ)
    → map refused_with supplies ≡ map refused_with others
    → AreTrue empty_store supplies (lines_of script) → AreTrue empty_store others (lines_of script)
    → output_of supplies script ≡ output_of others script
