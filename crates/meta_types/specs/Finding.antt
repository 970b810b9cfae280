-- A test that tells where paths end, computed. Ours, unless a source stands beside.
use Rattle.std.specs.Prelude.{ℕ, suc, zero, Bool, ◌||◌, List, [], filter, length, ℤ}
use Rattle.std.specs.List.{list_any}
use Rattle.meta_types.specs.Rows.{Records}
use Rattle.meta_types.specs.Paths.{Thing, things, is_root, has_edge}

-- the thing is a root, or one of these references it
abbrev pub is_found : Records → ℤ → List Thing → Thing → Bool
is_found records at found thing = is_root records.profile at thing || list_any (λ before. has_edge before thing) found

-- the things of the store in which a path ends that has at most the given number of things
abbrev pub found_in : ℕ → Records → ℤ → List Thing
found_in zero records at = []
found_in (suc most) records at = filter (is_found records at (found_in most records at)) (things records)

-- a path ends in the thing: no path needs more things than there are
unfoldable pub reached_in : Records → ℤ → Thing → Bool
reached_in records at = is_found records at (found_in (length (things records)) records at)
