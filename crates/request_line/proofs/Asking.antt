-- On what a line asks for.
use Rattle.std.proofs.Common.{◌≡◌, ◌∙◌, ap, refl, ℕ, List, Bool, true, false, Option, Some, None, option_and_then, Result, Ok, Err, IfErr, inl}
use Rattle.std.specs.Str.{is_utf8, IsUtf8}
use Rattle.std.proofs.lemmas.Str.{IsUtf8-from_is_utf8}
use Rattle.serde_json.specs.Data.{Data, Members}
use Rattle.serde_json.specs.Find.{as_object}
use Rattle.serde_json.specs.Read.{read}
use Rattle.meta_types.specs.Faults.{Refuses}
use Rattle.meta_types.specs.declared.fault.Fault.{Fault}
use Rattle.request_line.specs.Refusals.{IsUnread}
use Rattle.request_line.specs.declared.command.Command.{Command}
use Rattle.request_line.specs.declared.op.Op.{Op}
use Rattle.request_line.specs.Table.{members_of, command_of}
use Rattle.request_line.specs.Lines.{op_in, are_of, command_with, command_by, command_from, command_in}

-- a value that names an op and has its members asks for it
pub command_by-op : (ms : Members) (op : Op) → op_in ms ≡ Some op → are_of (members_of op) ms ≡ true
    → command_by ms ≡ Some (command_of op ms)
unfolding command_by
command_by-op ms op named fits = ap (option_and_then (command_with ms)) named ∙ rw fits refl

-- one that hasn't its members asks for nothing
pub command_by-misfit : (ms : Members) (op : Op) → op_in ms ≡ Some op
    → are_of (members_of op) ms ≡ false → command_by ms ≡ None
unfolding command_by
command_by-misfit ms op named fits = ap (option_and_then (command_with ms)) named ∙ rw fits refl

-- one that names no op asks for nothing
pub command_by-no_op : (ms : Members) → op_in ms ≡ None → command_by ms ≡ None
unfolding command_by
command_by-no_op ms named = ap (option_and_then (command_with ms)) named

-- an object asks for what its members ask for
pub command_from-object : (d : Data) (ms : Members) → as_object d ≡ Some ms
    → command_from d ≡ command_by ms
unfolding command_from
command_from-object d ms is = ap (option_and_then command_by) is

-- another value asks for nothing
pub command_from-other : (d : Data) → as_object d ≡ None → command_from d ≡ None
unfolding command_from
command_from-other d is = ap (option_and_then command_by) is

-- a line of JSON asks for what its value asks for
pub command_in-value : (line : List ℕ) (d : Data) → is_utf8 line ≡ true → read line ≡ Some d
    → command_in line ≡ command_from d
unfolding command_in
command_in-value line d text value = rw (text, value) refl

-- a text that is no JSON asks for nothing
command_in-no_value : (line : List ℕ) → is_utf8 line ≡ true → read line ≡ None → command_in line
    ≡ None
unfolding command_in
command_in-no_value line text value = rw (text, value) refl

-- a line that is no text asks for nothing
command_in-no_text : (line : List ℕ) → is_utf8 line ≡ false → command_in line ≡ None
unfolding command_in
command_in-no_text line text = rw text refl

unread_by : (line : List ℕ) (text : Bool) → is_utf8 line ≡ text → (IsUtf8 line → read line ≡ None)
    → command_in line ≡ None
unread_by line true is none = command_in-no_value line is (none (IsUtf8-from_is_utf8 line is))
unread_by line false is none = command_in-no_text line is

-- a line that is no JSON where it is a text asks for nothing
pub command_in-unread : (line : List ℕ) → (IsUtf8 line → read line ≡ None) → command_in line ≡ None
command_in-unread line none = unread_by line (is_utf8 line) refl none

-- where a call is refused with OutOfMemory only, the line is unread for that reason
pub unread_of_memory : {X : Type 0} (r : Result X Fault) (command : Option Command) → Refuses r None
    → IfErr r (IsUnread command)
unread_of_memory (Ok x) command wants = tt
unread_of_memory (Err fault) command wants = inl wants
