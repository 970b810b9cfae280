-- The lines of a script. Ours, unless a source stands beside.
use Rattle.std.specs.Prelude.{ℕ, ◌==◌, List, [], ◌∷◌, ◌++◌, length, Bool, true, false, nat_lt, if◌then◌else◌, Option, Some, None}
use Rattle.std.specs.List.{list_any}
use Rattle.request_line.specs.Lines.{command_in}
use Rattle.request_line.specs.declared.command.Command.{Command}
use Rattle.request_line.specs.declared.command.Command.TheVariants as A

-- the byte that ends a line (ASCII)
abbrev pub is_line_feed : ℕ → Bool
is_line_feed byte = byte == 10

-- the lines, with one byte more at the front of the first
abbrev pub onto_first : ℕ → List (List ℕ) → List (List ℕ)
onto_first byte [] = (byte ∷ []) ∷ []
onto_first byte (line ∷ lines) = (byte ∷ line) ∷ lines

-- each line ends by a line feed, the last one also without
abbrev pub lines_of : List ℕ → List (List ℕ)
lines_of [] = []
lines_of (byte ∷ bytes) = if is_line_feed byte then [] ∷ lines_of bytes else onto_first byte (lines_of bytes)

-- the bytes up to the last line feed, with it
abbrev pub whole_lines : List ℕ → List ℕ
whole_lines [] = []
whole_lines (byte ∷ bytes) = if list_any is_line_feed (byte ∷ bytes) then byte ∷ whole_lines bytes else []

-- ---- what a line asks for

-- what a line of this length asks for, if anything
abbrev pub short_request : List ℕ → Option Command
short_request line = if nat_lt 65536 (length line) then None else command_in line

-- it asks for a collection, a dry run, or a removal with a collection
abbrev pub asks_collection : Option Command → Bool
asks_collection (Some (A.Collect at dry)) = true
asks_collection (Some (A.Remove removal at)) = true
asks_collection (Some (A.Request request)) = false
asks_collection (Some (A.Show request answer there)) = false
asks_collection (Some (A.Explain ns kind name at)) = false
asks_collection (Some (A.Impact ns kind name at)) = false
asks_collection (Some A.BackList) = false
asks_collection None = false

-- a reply's text, with its line feed
abbrev pub with_line_feed : List ℕ → List ℕ
with_line_feed text = text ++ 10 ∷ []
