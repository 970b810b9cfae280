-- Steps that tell a path. Ours, unless a source stands beside.
use Rattle.std.specs.Prelude.{◌≡◌, Bool, List, [], ◌∷◌, Some, IsTrue, if◌then◌else◌}
use Rattle.meta_types.specs.Paths.{Thing, has_edge}
use Rattle.meta_types.specs.Reasons.{reason_of}
use Rattle.meta_types.specs.declared.explanation.By.{By}
use Rattle.meta_types.specs.declared.explanation.By.TheVariants.{Root, Ended}

-- of the things, from the last back, each is referenced by the one behind it
abbrev pub AreLinked : List Thing → Type 0
AreLinked [] = Unit {0}
AreLinked (last ∷ []) = Unit {0}
AreLinked (last ∷ before ∷ path) = IsTrue (has_edge before last) × AreLinked (before ∷ path)

-- the word of a root
abbrev pub root_word : Bool → By
root_word ended = if ended then Ended else Root

-- by what the first of the things stands on the path: as the root, or by
-- what the one behind it says
abbrev pub IsBy : By → List Thing → By → Type 0
IsBy word [] by = ⊥
IsBy word (root ∷ []) by = by ≡ word
IsBy word (last ∷ before ∷ path) by = reason_of before last ≡ Some by
