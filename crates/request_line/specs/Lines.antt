-- What a line asks for. Ours, unless a source stands beside.
use Rattle.std.specs.Prelude.{ℕ, List, Bool, true, false, ◌&&◌, ◌||◌, if◌then◌else◌, Option, Some, None, is_some, option_and_then, codes}
use Rattle.std.specs.List.{list_any, list_all}
use Rattle.std.specs.Option.{option_map_or}
use Rattle.std.specs.Str.{bytes_eq, is_utf8}
use Rattle.serde_json.specs.Data as json
use Rattle.serde_json.specs.Find.{get_member, as_str, as_object, as_number, as_u64}
use Rattle.serde_json.specs.Read.{read}
use Rattle.meta_types.specs.Text.{Text}
use Rattle.request_line.specs.Table.{Members, members_of, command_of, op_named}
use Rattle.request_line.specs.Members.{text_if_any}
use Rattle.request_line.specs.declared.command.Command.{Command}
use Rattle.request_line.specs.declared.op.Op.{Op}

-- ---- which objects are requests

abbrev pub is_text : json.Data → Bool
is_text d = is_some (as_str d)

-- members whose values are all texts
abbrev pub are_texts : json.Members → Bool
are_texts json.no_members = true
are_texts (json.member k d ms) = is_text d && are_texts ms

-- an object whose values are all texts
abbrev pub are_labels : json.Data → Bool
are_labels d = option_map_or are_texts (as_object d) false

-- a whole number from 0 to 2^64 - 1, written without a sign, a point or an exponent
abbrev pub is_whole : json.Data → Bool
is_whole d = is_some (option_and_then as_u64 (as_number d))

-- all members are texts, but `labels`, `put` and `v`
abbrev pub has_kind : Text → json.Data → Bool
has_kind key d =
    if bytes_eq key (codes "labels") || bytes_eq key (codes "put") then are_labels d
    else if bytes_eq key (codes "v") then is_whole d else is_text d

abbrev pub is_among : Text → List Text → Bool
is_among key keys = list_any (λ k. bytes_eq k key) keys

-- a member with this name may stand in the line
abbrev pub is_listed : Members → Text → Bool
is_listed row key = bytes_eq key (codes "op") || (is_among key row.required || is_among key row.optional)

-- each member may stand in the line, and is of its kind
abbrev pub are_listed : Members → json.Members → Bool
are_listed row json.no_members = true
are_listed row (json.member k d ms) = (is_listed row k && has_kind k d) && are_listed row ms

-- each member that must stand in the line is there
abbrev pub has_required : Members → json.Members → Bool
has_required row ms = list_all (λ k. is_some (get_member k ms)) row.required

-- the members of a row, and no others
abbrev pub are_of : Members → json.Members → Bool
are_of row ms = are_listed row ms && has_required row ms

-- ---- what they ask for

-- what an op asks for, where the object has its members
abbrev pub command_with : json.Members → Op → Option Command
command_with ms op = if are_of (members_of op) ms then Some (command_of op ms) else None

abbrev pub op_in : json.Members → Option Op
op_in ms = option_and_then op_named (text_if_any (codes "op") ms)

-- what an object asks for, where it is a request
unfoldable pub command_by : json.Members → Option Command
command_by ms = option_and_then (command_with ms) (op_in ms)

-- what a value asks for: no other value is a request
unfoldable pub command_from : json.Data → Option Command
command_from d = option_and_then command_by (as_object d)

-- what a line asks for, where it is UTF-8, JSON and a request
unfoldable pub command_in : List ℕ → Option Command
command_in line = if is_utf8 line then option_and_then command_from (read line) else None
