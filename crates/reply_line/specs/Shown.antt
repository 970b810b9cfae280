-- The texts of replies that show rows, that what a line makes was there already, or all objects of
-- the backend. Ours, unless a source stands beside.
use Rattle.std.specs.Prelude.{Bool, true, Option, Some, None, codes, if◌then◌else◌}
use Rattle.serde_json.specs.Data.{Data, boolean, object, no_members, member}
use Rattle.serde_json.specs.Written.{compact_text}
use Rattle.meta_types.specs.Text.{Text}
use Rattle.meta_types.specs.Backends.{BackNames}
use Rattle.meta_types.specs.Shown.{Shown, shows_row, was_there, shows_rows}
use Rattle.meta_types.specs.declared.shown_row.ShownRow.{ShownRow}
use Rattle.gc_report.specs.Reports.{list_data, member_if, objects_data}
use Rattle.reply_line.specs.Replies.{accepted, row_with}

-- a row, with the number of its parent if it has one
abbrev pub shown_data : ShownRow → Data
shown_data shown = row_with shown.parent_number shown.row

-- that it was there, where it was
abbrev pub there_in : Bool → Option Data
there_in there = if there then Some (boolean true) else None

-- what a line shows beside ok
abbrev pub shows_data : Shown → Data
shows_data (shows_row there row) = object
    (member (codes "ok") (boolean true)
    (member (codes "row") (shown_data row)
    (member_if (codes "there") (there_in there) no_members)))
shows_data was_there = accepted (codes "there") (boolean true)
shows_data (shows_rows rows) = accepted (codes "rows") (list_data shown_data rows)

-- its text, without a line feed
unfoldable pub shows_text : Shown → Text
shows_text shown = compact_text (shows_data shown)

-- all objects of the backend
abbrev pub all_objects_data : BackNames → Data
all_objects_data names = object
    (member (codes "backend") (objects_data names)
    (member (codes "ok") (boolean true) no_members))

-- their text, without a line feed
unfoldable pub objects_text : BackNames → Text
objects_text names = compact_text (all_objects_data names)
