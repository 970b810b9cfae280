-- Where backend snapshots and their parents stand in a list, and depths by places. Ours, unless a
-- source stands beside.
use Rattle.std.specs.Prelude.{◌≡◌, ℕ, suc, zero, ◌+◌, ◌<◌, ◌≤◌, Bool, true, false, ◌&&◌, ◌==◌, bytes_eq, List, map, length, get_or, position, slice_get, slice_index_or, Option, Some, None, option_and_then}
use Rattle.std.specs.Option.{option_map_or}
use Rattle.std.specs.Ordering.{is_lt, nat_cmp, ordering_then}
use Rattle.std.specs.declared.cmp.Ordering.{Ordering}
use Rattle.std.specs.List.{range_with_len}
use Rattle.meta_types.specs.Text.{Text, text_cmp}
use Rattle.table_sweep.specs.Depths.{Listed, depth_in}

-- the snapshot has the name
abbrev pub has_name : Text × ℕ → Listed → Bool
has_name name s = bytes_eq s.0 name.0 && s.1 == name.1

-- the name of the snapshotter and number
abbrev pub name_of : Listed → ℕ → Text × ℕ
name_of snap number = (snap.0, number)

-- by snapshotter, then by number
abbrev pub name_cmp : Text × ℕ → Text × ℕ → Ordering
name_cmp a b = ordering_then (text_cmp a.0 b.0) (nat_cmp a.1 b.1)

-- as backends list them
abbrev pub stands_before : Listed → Listed → Bool
stands_before a b = is_lt (name_cmp (name_of a a.1) (name_of b b.1))

-- each snapshot stands before the next
abbrev pub AreListed : List Listed → Type 0
AreListed snapshots = (k : ℕ) (d : Listed) → k + 1 < length snapshots → stands_before (slice_index_or snapshots k d) (slice_index_or snapshots (k + 1) d) ≡ true

-- the place of the snapshot's parent in the list (containerd snapshots service, parents)
abbrev pub parent_place : List Listed → Listed → Option ℕ
parent_place snapshots snap = option_and_then (λ number. position (has_name
    (name_of snap number)) snapshots) snap.2

-- those from `start` up to `end` are the snapshotter's
abbrev pub IsRunOf : List Listed → Text → ℕ → ℕ → Type 0
IsRunOf snapshots snapshotter start end = (k : ℕ) (d : Listed) → start ≤ k → k < end → (get_or snapshots k d).0 ≡ snapshotter

-- those from `start` up to `end` are of one snapshotter
abbrev pub IsRun : List Listed → ℕ → ℕ → Type 0
IsRun snapshots start end = (i j : ℕ) (d : Listed) → start ≤ i → i < end → start ≤ j → j < end → (get_or snapshots i d).0 ≡ (get_or snapshots j d).0

-- the place is from `start` up to `end`, and the snapshot there has the number
abbrev pub HasNumber : List Listed → ℕ → ℕ → ℕ → ℕ → Type 0
HasNumber snapshots start end number place = (start ≤ place) × (place < end) × ((d : Listed) → (get_or snapshots place d).1 ≡ number)

-- of those from `at` on that are needed, the parents' places are known, and these are needed too
abbrev pub AreSought : List Listed → ℕ → List (Option ℕ) → List Bool → Type 0
AreSought snapshots at parents needed = (place : ℕ) (s : Listed) → at ≤ place
    → get_or needed place false ≡ true → slice_get snapshots place ≡ Some s
    → (get_or parents place None ≡ parent_place snapshots s) × ((above : ℕ)
    → parent_place snapshots s ≡ Some above → get_or needed above false ≡ true)

-- the place above a place, by the list of these
abbrev pub parent_from : List (Option ℕ) → ℕ → Option ℕ
parent_from parents place = option_and_then (λ above. above) (slice_get parents place)

-- how many places are above a place; past `most` of them it counts no further
abbrev pub deep : ℕ → List (Option ℕ) → ℕ → ℕ
deep zero parents place = zero
deep (suc most) parents place = option_map_or (λ above. suc (deep most parents above))
    (parent_from parents place) zero

-- how many are above each of the first places
abbrev pub depths_to : List (Option ℕ) → ℕ → List ℕ
depths_to parents count = map (deep (length parents) parents) (range_with_len 0 count)

-- above each snapshot that goes are as many places as it has ancestors
abbrev pub LeadUp : List Listed → List Bool → List (Option ℕ) → Type 0
LeadUp snapshots goes parents = (most place : ℕ) (s : Listed) → get_or goes place false ≡ true
    → slice_get snapshots place ≡ Some s → deep most parents place ≡ depth_in most snapshots s

-- each snapshot that goes has its depth here
abbrev pub AreDepths : List Listed → List Bool → List ℕ → Type 0
AreDepths snapshots goes depths = (place : ℕ) (s : Listed) → get_or goes place false ≡ true → slice_get snapshots place ≡ Some s → slice_get depths place ≡ Some (depth_in (length snapshots) snapshots s)
