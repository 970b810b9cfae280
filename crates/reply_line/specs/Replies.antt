-- The JSON of replies, and their text. Members stand in the byte order of their names. Ours, unless
-- a source stands beside.
use Rattle.std.specs.Prelude.{ℕ, [], ◌∷◌, true, Option, Some, None, option_map, codes, is_some, bytes_eq, if◌then◌else◌}
use Rattle.std.specs.Option.{option_map_or}
use Rattle.serde_json.specs.Data.{Data, null, boolean, string, object, Members, no_members, member, put}
use Rattle.serde_json.specs.Written.{compact_text}
use Rattle.meta_types.specs.Text.{Text}
use Rattle.meta_types.specs.Faults.{number_of, name_of}
use Rattle.meta_types.specs.Labels.{LabelList}
use Rattle.meta_types.specs.Resources.{type_of, id_of}
use Rattle.meta_types.specs.Steps.{Answer, answered, reported, refused}
use Rattle.meta_types.specs.declared.reply.Reply.{Reply}
use Rattle.meta_types.specs.declared.reply.Reply.TheVariants as R
use Rattle.meta_types.specs.declared.reply.ReplyRow.{ReplyRow}
use Rattle.meta_types.specs.declared.reply.ReplyRow.TheVariants as W
use Rattle.meta_types.specs.declared.resource.Resource.{Resource}
use Rattle.meta_types.specs.declared.rows.SnapKind.{SnapKind}
use Rattle.meta_types.specs.declared.rows.SnapRow.{SnapRow}
use Rattle.meta_types.specs.declared.rows.SnapKind.TheVariants.{Active, View, Committed}
use Rattle.gc_report.specs.Reports.{count_data, pair_data, list_data, member_if, report_data}

-- ---- parts of rows

-- the members, with these labels put among them in the order of the keys
abbrev pub with_labels : Members → LabelList → Members
with_labels ms [] = ms
with_labels ms (label ∷ labels) = with_labels (put label.0 (string label.1) ms) labels

abbrev pub labels_data : LabelList → Data
labels_data labels = object (with_labels no_members labels)

-- null where there is none
abbrev pub if_any : {A : Type 0} → (A → Data) → Option A → Data
if_any data_of found = option_map_or data_of found null

-- data, where there is some
abbrev pub extra_data : Text → Option Data
extra_data extra = if bytes_eq extra [] then None else Some (string extra)

-- what may be done with a snapshot (containerd snapshots service, Kind)
abbrev pub kind_text : SnapKind → Text
kind_text Active = codes "active"
kind_text View = codes "view"
kind_text Committed = codes "committed"

-- a resource is its type and its id (containerd leases service, Resource)
abbrev pub resource_data : Resource → Data
resource_data resource = pair_data (type_of resource, id_of resource)

-- ---- replies

-- a snapshot, with the number of its parent where it is to be shown (containerd snapshots service)
abbrev pub snap_data : SnapRow → Option ℕ → Data
snap_data row parent_number = object
    (member_if (codes "data") (extra_data row.extra)
    (member (codes "key") (string row.key.name)
    (member (codes "kind") (string (kind_text row.kind))
    (member (codes "labels") (labels_data row.labels)
    (member (codes "number") (count_data row.number)
    (member (codes "parent") (if_any string row.parent)
    (member_if (codes "parent_number") (option_map count_data parent_number) no_members)))))))

-- a row, with the number of a snapshot's parent where it is to be shown; `own` says that an ingest
-- has an end of its own
abbrev pub row_with : Option ℕ → ReplyRow → Data
row_with parent_number (W.Image row) = object
    (member_if (codes "data") (extra_data row.extra)
    (member (codes "labels") (labels_data row.labels)
    (member (codes "name") (string row.name)
    (member (codes "target") (string row.target) no_members))))
row_with parent_number (W.Container row) = object
    (member_if (codes "data") (extra_data row.extra)
    (member (codes "labels") (labels_data row.labels)
    (member (codes "name") (string row.name)
    (member (codes "snapshot") (if_any pair_data row.snapshot) no_members))))
row_with parent_number (W.Content row) = object
    (member_if (codes "data") (extra_data row.extra)
    (member (codes "digest") (string row.digest)
    (member (codes "labels") (labels_data row.labels) no_members)))
row_with parent_number (W.Ingest row) = object
    (member_if (codes "data") (extra_data row.extra)
    (member (codes "expected") (if_any string row.expected)
    (member (codes "number") (count_data row.number)
    (member (codes "own") (boolean (is_some row.expires))
    (member (codes "ref") (string row.name) no_members)))))
row_with parent_number (W.Snap row) = snap_data row parent_number
row_with parent_number (W.Lease id labels extra) = object
    (member_if (codes "data") (extra_data extra)
    (member (codes "id") (string id)
    (member (codes "labels") (labels_data labels) no_members)))

-- a row that was asked for
abbrev pub row_data : ReplyRow → Data
row_data row = row_with None row

-- a reply that says ok and one thing more
abbrev pub accepted : Text → Data → Data
accepted key data_of = object (member (codes "ok") (boolean true) (member key data_of no_members))

abbrev pub reply_data : Reply → Data
reply_data R.Done = object (member (codes "ok") (boolean true) no_members)
reply_data (R.Names names) = object (member (codes "names") (list_data string names) (member (codes "ok") (boolean true) no_members))
reply_data (R.Row row) = accepted (codes "row") (row_data row)
reply_data (R.Resources resources) = accepted (codes "resources") (list_data resource_data resources)

-- an answer: a refusal has the fault's number and name
abbrev pub answer_data : Answer → Data
answer_data (answered reply) = reply_data reply
answer_data (reported report) = accepted (codes "report") (report_data report)
answer_data (refused fault) = object (member (codes "fault") (count_data (number_of fault)) (member (codes "name") (string (name_of fault)) no_members))

-- the text of an answer, without a line feed
unfoldable pub answer_text : Answer → Text
answer_text answer = compact_text (answer_data answer)
