-- The lines that a run hears of what it reads.
use Rattle.std.specs.Prelude.{◌≡◌, ◌<◌, ◌≤◌, ℕ, ◌-◌, List, [], ◌∷◌, ◌++◌, length, take, map, Bool, true, false, Option}
use Rattle.std.specs.List.{list_any}
use Rattle.std.specs.Io.KnownBytes.{Consumes}
use Rattle.journal.specs.Text.{is_line_feed}
use Rattle.journal.specs.Reading.{whole_lines, last_piece}
use Rattle.line_loop.specs.declared.buffers.Buffers.{Buffers}

-- A line as the service gets it. One of more than 65,536 bytes is cut to 65,537 of them: so much
-- tells that it is too long.
abbrev pub cut_long : List ℕ → List ℕ
cut_long line = take 65537 line

-- a line that goes on, of which no more is kept
abbrev pub longer_line : List ℕ → List ℕ → List ℕ
longer_line line piece = line ++ take (65537 - length line) piece

-- a last line that no line feed ends
abbrev pub last_line : List ℕ → List (List ℕ)
last_line [] = []
last_line (byte ∷ piece) = (byte ∷ piece) ∷ []

-- the lines of a text, as the service gets them: each ends by a line feed, the last one also
-- without
abbrev pub heard : List ℕ → List (List ℕ)
heard text = map cut_long (whole_lines text ++ last_line (last_piece text))

-- those that a line feed ends
abbrev pub heard_whole : List ℕ → List (List ℕ)
heard_whole text = map cut_long (whole_lines text)

-- the piece of a line that a text ends with, as it is kept
abbrev pub next_piece : List ℕ → List ℕ
next_piece text = cut_long (last_piece text)

-- a piece of a line as it is kept
pub record IsPiece (piece : List ℕ) : Type 0 where
  pub open_ended : list_any is_line_feed piece ≡ false
  pub short : length piece ≤ 65537

-- A run is ready to read: it has room for a block, a piece of a line was begun, and no reply waits.
pub record IsReady (block line replies : List ℕ) : Type 0 where
  pub begun : IsPiece line
  pub replies_wait : replies ≡ []
  pub room : 0 < length block

-- the buffers of a run that is ready to read
abbrev pub AreReady : Buffers → Type 0
AreReady buffers =
    IsReady buffers.block.items buffers.waiting.line.items buffers.waiting.replies.items

-- bytes were read, and at least one
abbrev pub GetsOn : Option (List ℕ) → Option (List ℕ) → Type 0
GetsOn before after = (read : List ℕ) × Consumes before after read × (0 < length read)

-- These lines were taken from what was begun and what was read. A piece of the next line is kept,
-- and the rest of the bytes follows it.
pub record Reads (begun : List ℕ) (unread left : Option (List ℕ)) (lines : List (List ℕ))
    (line rest : List ℕ) : Type 0 where
  pub read : List ℕ
  pub consumes : Consumes unread left read
  pub piece : List ℕ
  pub open_ended : list_any is_line_feed piece ≡ false
  pub is : line ≡ cut_long piece
  pub asks : (more : List ℕ)
      → heard_whole ((begun ++ read) ++ more) ≡ lines ++ heard_whole (piece ++ (rest ++ more))
  pub ends : (more : List ℕ)
      → last_piece ((begun ++ read) ++ more) ≡ last_piece (piece ++ (rest ++ more))

-- what is heard of a text: all of it at the end, else the lines that a line feed ends
abbrev pub heard_till : Bool → List ℕ → List (List ℕ)
heard_till true text = heard text
heard_till false text = heard_whole text

-- and the piece of a line that is kept then
abbrev pub piece_till : Bool → List ℕ → List ℕ
piece_till true text = []
piece_till false text = next_piece text
