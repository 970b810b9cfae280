-- What is made before a request whose line shows rows. Ours, unless a source stands beside.
use Rattle.std.specs.Prelude.{◌≡◌, Bool, true, false, Option, Some, None, is_some, bytes_eq, codes}
use Rattle.std.specs.Option.{option_map_or}
use Rattle.meta_types.specs.Text.{Text}
use Rattle.meta_types.specs.Rows.{State}
use Rattle.meta_types.specs.Shown.{shows_row}
use Rattle.meta_types.specs.declared.request.Request.{Request}
use Rattle.meta_types.specs.declared.shown_row.ShownRow.{ShownRow}
use Rattle.request_core.specs.Foreseen.{TellsDone}
use Rattle.scripts.specs.declared.line_answer.RowReplies.{RowReplies}

-- the word asks for the rows of a listing
abbrev pub asks_rows : Option Text → Bool
asks_rows answer = option_map_or (λ word. bytes_eq word (codes "rows")) answer false

-- the replies with this row: that it was made and, where it may be there already, that it was there
abbrev pub AreReplies : Option ShownRow → Bool → Option RowReplies → Type 0
AreReplies None may None = Unit {0}
AreReplies (Some row) may (Some replies) = (replies.made ≡ shows_row false row)
    × (may ≡ true → replies.found ≡ Some (shows_row true row))
AreReplies None may (Some replies) = ⊥
AreReplies (Some row) may None = ⊥

-- the replies with the row that a request is to show
abbrev pub Foresees : State → Request → Option Text → Option RowReplies → Type 0
Foresees state request there replies = (row : Option ShownRow)
    × TellsDone state request there row × AreReplies row (is_some there) replies
