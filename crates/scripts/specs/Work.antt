-- How many rows a logged line looked at, and when a checkpoint is due for these. Ours.
use Rattle.std.specs.Prelude.{ℕ, ◌+◌, ◌*◌, ◌&&◌, length, nat_lt, Bool, true, false, Option, Some, None}
use Rattle.std.specs.Box.{box_value}
use Rattle.meta_types.specs.Reports.{Kept, Removed}
use Rattle.scripts.specs.declared.reply_text.ReplyText.{ReplyText}
use Rattle.scripts.specs.declared.reply_text.ReplyText.TheVariants.{Text, Report, Rows, Objects}

-- the rows that a collection left
abbrev pub rows_kept : Kept → ℕ
rows_kept kept = kept.containers + kept.content + kept.images + kept.ingests + kept.leases
    + kept.namespaces + kept.snapshots

-- the rows that it removed
abbrev pub rows_removed : Removed → ℕ
rows_removed removed = length removed.content + length removed.images + length removed.ingests
    + length removed.leases + length removed.snapshots

-- The rows that a line looked at, by its reply: a collection looks at each row of the store, any
-- other line at few.
abbrev pub rows_looked_at : Option ReplyText → ℕ
rows_looked_at None = 0
rows_looked_at (Some (Text text)) = 0
rows_looked_at (Some (Report report)) =
    rows_kept (box_value report).kept + rows_removed (box_value report).removed
rows_looked_at (Some (Rows rows)) = 0
rows_looked_at (Some (Objects objects)) = 0

-- those that a line looked at that is logged
abbrev pub rows_logged : Bool → Option ReplyText → ℕ
rows_logged true reply = rows_looked_at reply
rows_logged false reply = 0

-- A start takes as long to look at a row as to execute 4 bytes of lines. A checkpoint is due where
-- logged lines looked at more than 1,048,576 rows, and a start takes longer for these than for the
-- bytes of the journal.
abbrev pub is_due_for_rows : ℕ → ℕ → Bool
is_due_for_rows end rows = nat_lt 1048576 rows && nat_lt end (rows * 4)
