-- Which blobs stay, each by a mark at its place. Ours, unless a source stands beside.
use Rattle.std.specs.Prelude.{◌≡◌, Bool, not, List, map, bytes_eq}
use Rattle.std.specs.List.{list_any}
use Rattle.meta_types.specs.Text.{Text}

-- it isn't one of these
abbrev pub is_unnamed : List Text → Text → Bool
is_unnamed names digest = not (list_any (bytes_eq digest) names)

-- each mark says of the blob at its place whether it stays: these names go
abbrev pub AreBlobMarks : List Text → List Text → List Bool → Type 0
AreBlobMarks names arrived marks = marks ≡ map (is_unnamed names) arrived
