-- What a file is read as, whatever a crash or a worn disk made of it.
use Rattle.std.specs.Prelude.{ℕ, zero, suc, ◌&&◌, ◌||◌, not, List, [], ◌∷◌, ◌++◌, drop, Bool, true, false, if◌then◌else◌, bytes_eq}
use Rattle.std.specs.List.{list_any}
use Rattle.journal.specs.Text.{is_line_feed, is_zero, is_torn, is_commit, has_noise, commit_line, group_sum, group_end, place_text}

-- a byte at the front of the first whole line; a line that no line feed ends isn't whole
abbrev pub onto_whole : ℕ → List (List ℕ) → List (List ℕ)
onto_whole byte [] = []
onto_whole byte (line ∷ lines) = (byte ∷ line) ∷ lines

-- the lines that a line feed ends
abbrev pub whole_lines : List ℕ → List (List ℕ)
whole_lines [] = []
whole_lines (byte ∷ bytes) =
    if is_line_feed byte then [] ∷ whole_lines bytes else onto_whole byte (whole_lines bytes)

-- what stands behind the last line feed
abbrev pub last_piece : List ℕ → List ℕ
last_piece [] = []
last_piece (byte ∷ bytes) =
    if is_line_feed byte then last_piece bytes
    else if list_any is_line_feed bytes then last_piece bytes
    else byte ∷ bytes

-- no zero is among the first bytes, and this is their number
abbrev pub stands : ℕ → List ℕ → Bool
stands zero piece = true
stands (suc n) [] = false
stands (suc n) (byte ∷ piece) = not (is_zero byte) && stands n piece

-- a commit line that goes on where it has to end
abbrev pub is_overlong : List ℕ → Bool
is_overlong piece = is_commit piece && stands 83 piece

-- a whole commit line of a group that begins elsewhere
abbrev pub is_stray : ℕ → List ℕ → Bool
is_stray start line =
    not (is_torn line) && (is_commit line && not (bytes_eq (drop 65 line) (place_text start)))

-- the groups that are committed, and whether anything else stands there that no torn write leaves
pub record Found : Type 0 where
  pub groups : List (List (List ℕ))
  pub is_damaged : Bool

-- no group, and damage or none
abbrev pub found_none : Bool → Found
found_none is_damaged = record { groups = []; is_damaged = is_damaged }

-- a group before those that are found
abbrev pub with_group : List (List ℕ) → Found → Found
with_group group found = record { groups = group ∷ found.groups; is_damaged = found.is_damaged }

-- groups before those that are found
abbrev pub with_groups : List (List (List ℕ)) → Found → Found
with_groups groups found = record { groups = groups ++ found.groups; is_damaged = found.is_damaged }

-- What lines and a last piece hold behind a sum, at a place. Some lines of a group wait, and maybe
-- its commit line has been read once. Behind the first byte that isn't there nothing is committed.
abbrev pub found_in : List ℕ → ℕ → List (List ℕ) → Bool → List (List ℕ) → List ℕ → Found
found_in before start pending once [] last = found_none (is_overlong last)
found_in before start pending once (line ∷ lines) last =
    if is_torn line
    then found_none (is_overlong line || list_any (is_stray start) lines)
    else if once || is_commit line
    then if bytes_eq line (commit_line before start pending)
    then if once
    then with_group pending
    (found_in (group_sum before pending) (group_end before start pending) [] false lines last)
    else found_in before start pending true lines last
    else found_none true
    else found_in before start (pending ++ line ∷ []) false lines last

-- what a text holds behind a sum, at a place
abbrev pub found_from : List ℕ → ℕ → List ℕ → Found
found_from before start text = found_in before start [] false (whole_lines text) (last_piece text)

-- what the lines of a file hold that begins with this first sum
abbrev pub parsed : List ℕ → List ℕ → Found
parsed first text = found_from first 0 text

-- What a file holds that begins with this first sum. Wherever a byte stands that no UTF-8 text has,
-- that is damage: no write leaves one, be it whole or torn.
abbrev pub found : List ℕ → List ℕ → Found
found first text = record {
  groups = (parsed first text).groups;
  is_damaged = has_noise text || (parsed first text).is_damaged;
}

-- these groups, and no damage
abbrev pub sound : List (List (List ℕ)) → Found
sound groups = record { groups = groups; is_damaged = false }
