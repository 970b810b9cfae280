-- The members of a line as a list, and the object that they make. Ours.
use Rattle.std.specs.Prelude.{◌≡◌, List, [], ◌∷◌, Bool, true, ◌&&◌, if◌then◌else◌, Option, Some, None, option_and_then, codes, ⊤}
use Rattle.std.specs.Borrow.{Bor}
use Rattle.std.specs.List.{list_all}
use Rattle.std.specs.Cmp.Lexicographic.{slice_cmp}
use Rattle.std.specs.Ordering.{nat_cmp, is_gt}
use Rattle.std.specs.declared.cmp.Ordering.TheVariants.{Greater}
use Rattle.serde_json.specs.Data as json
use Rattle.serde_json.specs.Data.{Data, string, object, put}
use Rattle.serde_json.specs.View.{view}
use Rattle.meta_types.specs.Text.{Text}
use Rattle.meta_types.specs.declared.request.RawName.{RawName}
use Rattle.meta_types.specs.declared.request.RawSnapshot.{RawSnapshot}
use Rattle.request_line.specs.Members.{text_at}
use Rattle.request_line.specs.Table.{Members, members_of, command_of}
use Rattle.request_line.specs.Lines.{is_listed, has_kind, has_required, op_in}
use Rattle.request_line.specs.declared.command.Command.{Command}
use Rattle.request_line.specs.declared.op.Op.{Op}
use Rattle.request_line.specs.declared.members.LineValue.{LineValue}
use Rattle.request_line.specs.declared.members.LineValue.TheVariants as V

-- a name, and the value that stands behind it
abbrev pub LineMember : Type 0
LineMember = Bor Text × LineValue

-- an object of these texts, in their order
abbrev pub texts_object : List (Bor Text × Bor Text) → json.Members
texts_object [] = json.no_members
texts_object (t ∷ ts) = json.member t.0.now (string t.1.now) (texts_object ts)

abbrev pub value_of : LineValue → Data
value_of (V.Text text) = string text.now
value_of (V.Labels texts) = object (texts_object texts.items)
value_of (V.Any value) = view value.now

-- these members, put in one after another: where a name is repeated, the last value stays
abbrev pub put_all : json.Members → List LineMember → json.Members
put_all found [] = found
put_all found (m ∷ ms) = put_all (put m.0.now (value_of m.1) found) ms

abbrev pub object_of : List LineMember → json.Members
object_of = put_all json.no_members

-- a name that stands behind the one before, by its bytes
abbrev pub is_behind : Option (Bor Text) → Text → Bool
is_behind None name = true
is_behind (Some last) name = is_gt (slice_cmp nat_cmp name last.now)

-- all names of these texts stand before this one
abbrev pub AllBelow : Text → List (Bor Text × Bor Text) → Type 0
AllBelow name [] = ⊤
AllBelow name (t ∷ ts) = (slice_cmp nat_cmp name t.0.now ≡ Greater) × AllBelow name ts

-- what stands behind the last name stands behind them all
abbrev pub IsRising : Option (Bor Text) → List (Bor Text × Bor Text) → Type 0
IsRising last ts = (name : Text) → is_behind last name ≡ true → AllBelow name ts

-- ---- which members are those of an op

abbrev pub fits : Members → LineMember → Bool
fits row m = is_listed row m.0.now && has_kind m.0.now (value_of m.1)

abbrev pub command_as : List LineMember → Op → Option Command
command_as ms op =
    if list_all (fits (members_of op)) ms && has_required (members_of op) (object_of ms) then Some
    (command_of op (object_of ms)) else None

-- what members ask for of which each one is the op's, also where one is repeated
unfoldable pub command_by_all : List LineMember → Option Command
command_by_all ms = option_and_then (command_as ms) (op_in (object_of ms))

-- ---- what several ops read

abbrev pub name_at : Text → json.Members → RawName
name_at key ms = record { ns = text_at (codes "ns") ms; name = text_at key ms }

abbrev pub snapshot_at : Text → json.Members → RawSnapshot
snapshot_at key ms =
    record { ns = text_at (codes "ns") ms; snapshotter = text_at (codes "snapshotter") ms; name = text_at key ms }
