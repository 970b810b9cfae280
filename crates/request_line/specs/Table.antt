-- The table of ops: a row for each op, with its name, the members of its line, and what a line with
-- them asks for. Ours, unless a source stands beside.
use Prim.Native.String.{String}
use Rattle.std.specs.Prelude.{ℕ, List, [], ◌∷◌, ◌++◌, ◌||◌, Option, None, true, false, codes, map, is_some, if◌then◌else◌}
use Rattle.std.specs.List.{find}
use Rattle.std.specs.Option.{option_map_or}
use Rattle.std.specs.Str.{bytes_eq}
use Rattle.serde_json.specs.Data as json
use Rattle.meta_types.specs.Text.{Text}
use Rattle.meta_types.specs.declared.raw.RawLabel.{RawLabel}
use Rattle.meta_types.specs.declared.request.RawName.{RawName}
use Rattle.meta_types.specs.declared.request.RawContent.{RawContent}
use Rattle.meta_types.specs.declared.request.RawSnapshot.{RawSnapshot}
use Rattle.meta_types.specs.declared.request.IngestBegin.{IngestBegin as IngestToBegin}
use Rattle.meta_types.specs.declared.request.RowUpdate.{RowUpdate}
use Rattle.meta_types.specs.declared.request.SnapAdd.{SnapAdd}
use Rattle.meta_types.specs.declared.request.LeaseResource.{LeaseResource}
use Rattle.meta_types.specs.declared.request.Request.{Request}
use Rattle.meta_types.specs.declared.request.Request.TheVariants as R
use Rattle.meta_types.specs.declared.request.Removal.{Removal}
use Rattle.meta_types.specs.declared.request.Removal.TheVariants as Removing
use Rattle.request_line.specs.Members.{text_at, text_if_any, labels_at, labels_if_any, whole_at}
use Rattle.request_line.specs.declared.command.Command.{Command}
use Rattle.request_line.specs.declared.command.Command.TheVariants as A
use Rattle.request_line.specs.declared.op.Op.{Op}
use Rattle.request_line.specs.declared.op.Op.TheVariants.{NsAdd, NsRemove, NsList, ImageAdd, ImageTarget, ImageSet, ImageRemove, ImageGet, ImageList, ImageLabel, ContainerAdd, ContainerSet, ContainerRemove, ContainerGet, ContainerList, ContainerLabel, ContentAdd, ContentSet, ContentRemove, ContentGet, ContentLabel, ContentList, IngestBegin, IngestOpen, IngestCommit, IngestAbort, IngestGet, IngestList, SnapPrepare, SnapView, SnapCommit, SnapSet, SnapRemove, SnapGet, SnapLabel, SnapList, SnapSnapshotters, LeaseAdd, LeaseSet, LeaseRemove, LeaseGet, LeaseLabel, LeaseList, LeaseHold, LeaseDrop, LeaseResources, Profile, GcRun, GcPlan, GcExplain, GcImpact, BackList}
use Rattle.request_line.specs.declared.op.OpForm.{OpForm}

-- ---- what is read of a line

-- the members that must stand in a line, those that may, and what a line with them says
pub record Reads (X : Type 0) : Type 0 where
  pub required : List Text
  pub optional : List Text
  pub said : json.Members → X

-- a text that must stand
abbrev pub text : String → Reads Text
text key = record { required = codes key ∷ []; optional = []; said = text_at (codes key) }

-- a text that may
abbrev pub optional_text : String → Reads (Option Text)
optional_text key = record { required = []; optional = codes key ∷ []; said = text_if_any (codes key) }

-- a whole number that must stand
abbrev pub whole : String → Reads ℕ
whole key = record { required = codes key ∷ []; optional = []; said = whole_at (codes key) }

-- the labels, which may
abbrev pub labels : Reads (List (Text × Text))
labels = record { required = []; optional = codes "labels" ∷ []; said = labels_at }

-- an object of texts, which may
abbrev pub optional_labels : String → Reads (Option (List (Text × Text)))
optional_labels key = record { required = []; optional = codes key ∷ []; said = labels_if_any (codes key) }

-- this, of what the members that follow say
abbrev pub asks : {X : Type 0} → X → Reads X
asks x = record { required = []; optional = []; said = λ ms. x }

infixl 10 ◌&◌
abbrev pub ◌&◌ : {X Y : Type 0} → Reads (X → Y) → Reads X → Reads Y
f & x = record {
  required = f.required ++ x.required;
  optional = f.optional ++ x.optional;
  said = λ ms. f.said ms (x.said ms);
}

-- ---- what several ops read

-- a namespace, and a name in it
abbrev pub named : String → Reads RawName
named key = asks (λ ns name. record { ns = ns; name = name }) & text "ns" & text key

-- what names content
abbrev pub content : Reads RawContent
content = asks (λ ns digest. record { ns = ns; digest = digest }) & text "ns" & text "digest"

-- what names a snapshot
abbrev pub snapshot : String → Reads RawSnapshot
snapshot key =
    asks (λ ns snapshotter name. record { ns = ns; snapshotter = snapshotter; name = name })
    & text "ns" & text "snapshotter" & text key

-- one label
abbrev pub label : Reads RawLabel
label = asks (λ key value. record { key = key; value = value }) & text "key" & text "value"

-- what of a row is replaced
abbrev pub update : Reads RowUpdate
update =
    asks (λ labels put extra. record { labels = labels; put = put; extra = extra })
    & optional_labels "labels" & optional_labels "put" & optional_text "data"

-- a new ingest
abbrev pub new_ingest : Reads IngestToBegin
new_ingest =
    asks (λ ingest at expected extra lease. record {
      ingest = ingest;
      at = at;
      expected = expected;
      lease = lease;
      extra = extra;
    })
    & named "ref" & text "at" & optional_text "expected" & optional_text "data"
    & optional_text "lease"

-- a new snapshot
abbrev pub new_snapshot : Reads SnapAdd
new_snapshot =
    asks (λ snapshot parent labels extra lease. record {
      snapshot = snapshot;
      parent = parent;
      labels = labels;
      lease = lease;
      extra = extra;
    })
    & snapshot "key" & optional_text "parent" & labels & optional_text "data"
    & optional_text "lease"

-- a lease, and a resource
abbrev pub resource : Reads LeaseResource
resource = asks (λ lease kind resource. record { lease = lease; kind = kind; resource = resource }) & named "id" & text "type" & text "resource"

-- ---- the table

-- a row: the name of an op, and what is read of its line
pub record OpRow : Type 0 where
  pub op : Text
  pub reads : Reads Command

abbrev pub row : String → Reads Command → OpRow
row op reads = record { op = codes op; reads = reads }

-- a row of a request
abbrev pub request : String → Reads Request → OpRow
request op reads = row op (asks A.Request & reads)

-- a request; with words that ask for rows in its reply, or for its lease to hold an object that it
-- finds there
abbrev pub shows : Request → Option Text → Option Text → Command
shows request answer there =
    if is_some answer || is_some there then A.Show request answer there else A.Request request

-- a row of a request whose reply may show rows
abbrev pub showing : String → Reads Request → OpRow
showing op reads =
    row op (asks (λ request answer. shows request answer None) & reads & optional_text "answer")

-- a row of one whose lease may hold an object that it finds there, too
abbrev pub holding : String → Reads Request → OpRow
holding op reads = row op
    (asks (λ request there answer. shows request answer there)
    & reads & optional_text "there" & optional_text "answer")

-- a removal; with a moment to collect at, one event with the collection
abbrev pub removes : (RawName → Removal) → (RawName → Request) → RawName → Option Text → Command
removes removal request name sync = option_map_or (A.Remove (removal name)) sync (A.Request (request name))

abbrev pub row_of : Op → OpRow
row_of NsAdd = request "ns.add" (asks R.NsAdd & text "ns")
row_of NsRemove = request "ns.remove" (asks R.NsRemove & text "ns")
row_of NsList = request "ns.list" (asks R.NsList)
row_of ImageAdd = showing "image.add"
    (asks (λ image target labels extra. R.ImageAdd (record {
      image = image;
      target = target;
      labels = labels;
      extra = extra;
    }))
    & named "name" & text "target" & labels & optional_text "data")
row_of ImageTarget = showing "image.target"
    (asks (λ image target. R.ImageTarget (record { image = image; target = target }))
    & named "name" & text "target")
row_of ImageSet = showing "image.set"
    (asks (λ image target update. R.ImageSet (record {
      image = image;
      target = target;
      update = update;
    }))
    & named "name" & optional_text "target" & update)
row_of ImageRemove = row "image.remove" (asks (removes Removing.Image R.ImageRemove) & named "name" & optional_text "sync")
row_of ImageGet = showing "image.get" (asks R.ImageGet & named "name")
row_of ImageList = showing "image.list" (asks R.ImageList & text "ns")
row_of ImageLabel = showing "image.label" (asks R.ImageLabel & named "name" & label)
row_of ContainerAdd = showing "container.add"
    (asks (λ container snapshotter key labels extra. R.ContainerAdd (record {
      container = container;
      snapshotter = snapshotter;
      key = key;
      labels = labels;
      extra = extra;
    }))
    & named "name" & optional_text "snapshotter" & optional_text "key" & labels
    & optional_text "data")
row_of ContainerSet = showing "container.set"
    (asks (λ container snapshotter key update. R.ContainerSet (record {
      container = container;
      snapshotter = snapshotter;
      key = key;
      update = update;
    }))
    & named "name" & optional_text "snapshotter" & optional_text "key" & update)
row_of ContainerRemove = request "container.remove" (asks R.ContainerRemove & named "name")
row_of ContainerGet = showing "container.get" (asks R.ContainerGet & named "name")
row_of ContainerList = showing "container.list" (asks R.ContainerList & text "ns")
row_of ContainerLabel = showing "container.label" (asks R.ContainerLabel & named "name" & label)
row_of ContentAdd = holding "content.add"
    (asks (λ content labels extra lease. R.ContentAdd (record {
      content = content;
      labels = labels;
      lease = lease;
      extra = extra;
    }))
    & content & labels & optional_text "data" & optional_text "lease")
row_of ContentSet = showing "content.set" (asks R.ContentSet & content & update)
row_of ContentRemove = request "content.remove" (asks R.ContentRemove & content & optional_text "drop")
row_of ContentGet = showing "content.get" (asks R.ContentGet & content)
row_of ContentLabel = showing "content.label" (asks R.ContentLabel & content & label)
row_of ContentList = showing "content.list" (asks R.ContentList & text "ns")
row_of IngestBegin = showing "ingest.begin" (asks R.IngestBegin & new_ingest)
row_of IngestOpen = showing "ingest.open" (asks R.IngestOpen & new_ingest)
row_of IngestCommit = holding "ingest.commit"
    (asks (λ ingest digest labels extra lease dropped_by. R.IngestCommit (record {
      ingest = ingest;
      digest = digest;
      labels = labels;
      lease = lease;
      dropped_by = dropped_by;
      extra = extra;
    }))
    & named "ref" & text "digest" & labels & optional_text "data" & optional_text "lease"
    & optional_text "drop")
row_of IngestAbort = request "ingest.abort" (asks R.IngestAbort & named "ref" & optional_text "drop")
row_of IngestGet = showing "ingest.get" (asks R.IngestGet & named "ref")
row_of IngestList = showing "ingest.list" (asks R.IngestList & text "ns")
row_of SnapPrepare = holding "snap.prepare" (asks R.SnapPrepare & new_snapshot)
row_of SnapView = holding "snap.view" (asks R.SnapView & new_snapshot)
row_of SnapCommit = holding "snap.commit"
    (asks (λ snapshot name labels extra lease dropped_by. R.SnapCommit (record {
      snapshot = snapshot;
      name = name;
      labels = labels;
      lease = lease;
      dropped_by = dropped_by;
      extra = extra;
    }))
    & snapshot "key" & text "name" & labels & optional_text "data" & optional_text "lease"
    & optional_text "drop")
row_of SnapSet = showing "snap.set" (asks R.SnapSet & snapshot "key" & update)
row_of SnapRemove = request "snap.remove" (asks R.SnapRemove & snapshot "key" & optional_text "drop")
row_of SnapGet = showing "snap.get" (asks R.SnapGet & snapshot "key")
row_of SnapLabel = showing "snap.label" (asks R.SnapLabel & snapshot "name" & label)
row_of SnapList = showing "snap.list" (asks R.SnapList & text "ns" & text "snapshotter")
row_of SnapSnapshotters = request "snap.snapshotters" (asks R.SnapSnapshotters & text "ns")
row_of LeaseAdd = showing "lease.add"
    (asks (λ lease labels extra. R.LeaseAdd (record {
      lease = lease;
      labels = labels;
      extra = extra;
    }))
    & named "id" & labels & optional_text "data")
row_of LeaseSet = showing "lease.set" (asks R.LeaseSet & named "id" & update)
row_of LeaseRemove = row "lease.remove" (asks (removes Removing.Lease R.LeaseRemove) & named "id" & optional_text "sync")
row_of LeaseGet = showing "lease.get" (asks R.LeaseGet & named "id")
row_of LeaseLabel = showing "lease.label" (asks R.LeaseLabel & named "id" & label)
row_of LeaseList = showing "lease.list" (asks R.LeaseList & text "ns")
row_of LeaseHold = request "lease.hold" (asks R.LeaseHold & resource)
row_of LeaseDrop = request "lease.drop" (asks R.LeaseDrop & resource)
row_of LeaseResources = request "lease.resources" (asks R.LeaseResources & named "id")
row_of Profile = request "profile" (asks R.Profile & whole "v")
row_of GcRun = row "gc.run" (asks (λ at. A.Collect at false) & text "at")
row_of GcPlan = row "gc.plan" (asks (λ at. A.Collect at true) & text "at")
row_of GcExplain = row "gc.explain" (asks A.Explain & text "ns" & text "type" & text "resource" & text "at")
row_of GcImpact = row "gc.impact" (asks A.Impact & text "ns" & text "type" & text "resource" & text "at")
row_of BackList = row "back.list" (asks A.BackList)

abbrev pub ops : List Op
ops = NsAdd ∷ NsRemove ∷ NsList ∷ ImageAdd ∷ ImageTarget ∷ ImageSet ∷ ImageRemove ∷ ImageGet ∷ ImageList ∷ ImageLabel ∷ ContainerAdd ∷ ContainerSet ∷ ContainerRemove ∷ ContainerGet ∷ ContainerList ∷ ContainerLabel ∷ ContentAdd ∷ ContentSet ∷ ContentRemove ∷ ContentGet ∷ ContentLabel ∷ ContentList ∷ IngestBegin ∷ IngestOpen ∷ IngestCommit ∷ IngestAbort ∷ IngestGet ∷ IngestList ∷ SnapPrepare ∷ SnapView ∷ SnapCommit ∷ SnapSet ∷ SnapRemove ∷ SnapGet ∷ SnapLabel ∷ SnapList ∷ SnapSnapshotters ∷ LeaseAdd ∷ LeaseSet ∷ LeaseRemove ∷ LeaseGet ∷ LeaseLabel ∷ LeaseList ∷ LeaseHold ∷ LeaseDrop ∷ LeaseResources ∷ Profile ∷ GcRun ∷ GcPlan ∷ GcExplain ∷ GcImpact ∷ BackList ∷ []

abbrev pub op_named : Text → Option Op
op_named name = find (λ op. bytes_eq (row_of op).op name) ops

-- what an op asks for with these members
abbrev pub command_of : Op → json.Members → Command
command_of op = (row_of op).reads.said

-- ---- the program's table

-- the name of an op, the members that must stand beside it, and those that may
pub record Members : Type 0 where
  pub op : Text
  pub required : List Text
  pub optional : List Text

abbrev pub members_of : Op → Members
members_of op = record { op = (row_of op).op; required = (row_of op).reads.required; optional = (row_of op).reads.optional }

-- a row of the program's table, as texts
abbrev pub row_view : OpForm → Members
row_view row = record { op = row.op.now; required = map (λ t. t.now) row.required.now; optional = map (λ t. t.now) row.optional.now }
