-- Which rows stay, by the marks on their numbers. Ours, unless a source stands beside.
use Rattle.std.specs.Prelude.{ℕ, suc, zero, Bool, ◌||◌, List, [], ◌∷◌, if◌then◌else◌}
use Rattle.gc_graph.specs.Marked.{is_marked}

-- the mask of `count` rows in both modes, of which the first has the numbers `full` and `flat`
abbrev pub mask_of_both : List ℕ → ℕ → ℕ → ℕ → List Bool
mask_of_both marks full flat zero = []
mask_of_both marks full flat (suc count) =
    (is_marked marks full || is_marked marks flat) ∷ mask_of_both marks (suc full) (suc flat) count

-- the mask of `count` rows in one mode, of which the first has the number `first`
abbrev pub mask_of_one : List ℕ → ℕ → ℕ → List Bool
mask_of_one marks first zero = []
mask_of_one marks first (suc count) = is_marked marks first ∷ mask_of_one marks (suc first) count

-- the rows whose mark is unset
abbrev pub gone : {Row : Type 0} → List Bool → List Row → List Row
gone [] rows = []
gone (stays ∷ marks) [] = []
gone (stays ∷ marks) (row ∷ rows) = if stays then gone marks rows else row ∷ gone marks rows
