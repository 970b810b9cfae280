-- The effect of a line that asks for the row of its request or the rows of its listing (`answer`),
-- or for its lease to hold an object that exists already (`there`). Ours, unless a source stands
-- beside.
use Rattle.std.specs.Prelude.{Bool, true, not, ◌&&◌, ◌||◌, List, [], ◌∷◌, map, filter, codes, Option, Some, None, is_some, option_map, option_and_then, if◌then◌else◌, bytes_eq}
use Rattle.std.specs.Option.{option_map_or}
use Rattle.meta_types.specs.Text.{Text}
use Rattle.meta_types.specs.Faults.{least_of}
use Rattle.meta_types.specs.Keys.{row_at}
use Rattle.meta_types.specs.Resources.{type_of, id_of}
use Rattle.meta_types.specs.Rows.{State, image_key, container_key, content_key, ingest_key, snap_key, lease_key}
use Rattle.meta_types.specs.Ops.{Outcome}
use Rattle.meta_types.specs.Ops.Snapshots.{parent_row}
use Rattle.meta_types.specs.Requests.{outcome}
use Rattle.meta_types.specs.declared.fault.Fault.{Fault}
use Rattle.meta_types.specs.declared.object.Object.{Object}
use Rattle.meta_types.specs.declared.object.Object.TheVariants.{Image, Container, Lease, Held}
use Rattle.meta_types.specs.declared.resource.Resource.{Resource}
use Rattle.meta_types.specs.declared.resource.Resource.TheVariants.{Content, Snapshot, Ingest}
use Rattle.meta_types.specs.declared.rows.SnapRow.{SnapRow}
use Rattle.meta_types.specs.declared.reply.ReplyRow.{ReplyRow}
use Rattle.meta_types.specs.declared.reply.ReplyRow.TheVariants as W
use Rattle.meta_types.specs.declared.shown_row.ShownRow.{ShownRow}
use Rattle.meta_types.specs.declared.request.Request.{Request}
use Rattle.meta_types.specs.declared.request.Request.TheVariants as Q

-- ---- rows

-- a row of another kind than a snapshot
abbrev pub plain_row : ReplyRow → ShownRow
plain_row row = record { row = row; parent_number = None }

-- a snapshot has its parent's number too (containerd snapshots service)
abbrev pub snapshot_shown : List SnapRow → SnapRow → ShownRow
snapshot_shown rows row = record {
  row = W.Snap row;
  parent_number = option_map (λ (above : SnapRow). above.number)
      (parent_row rows row.key.ns row.key.snapshotter row.parent);
}

-- the row of a namespace, a kind and a name, where it is there
abbrev pub shown_row : State → Text → Object → Option ShownRow
shown_row state ns (Image name) = option_map (λ row. plain_row (W.Image row))
    (row_at image_key (ns ∷ name ∷ []) state.records.tables.images)
shown_row state ns (Container name) = option_map (λ row. plain_row (W.Container row))
    (row_at container_key (ns ∷ name ∷ []) state.records.tables.containers)
shown_row state ns (Lease id) = option_map (λ row. plain_row (W.Lease row.id row.labels row.extra))
    (row_at lease_key (ns ∷ id ∷ []) state.records.leases)
shown_row state ns (Held (Content digest)) = option_map (λ row. plain_row (W.Content row))
    (row_at content_key (ns ∷ digest ∷ []) state.records.tables.content)
shown_row state ns (Held (Ingest name)) = option_map (λ row. plain_row (W.Ingest row))
    (row_at ingest_key (ns ∷ name ∷ []) state.records.tables.ingests)
shown_row state ns (Held (Snapshot snapshotter name)) =
    option_map (snapshot_shown state.records.tables.snapshots)
    (row_at snap_key (ns ∷ snapshotter ∷ name ∷ []) state.records.tables.snapshots)

-- the row that a request makes, changes or gets, by its namespace, kind and name
abbrev pub row_named : Request → Option (Text × Object)
row_named (Q.ImageAdd asked) = Some (asked.image.ns, Image asked.image.name)
row_named (Q.ImageTarget asked) = Some (asked.image.ns, Image asked.image.name)
row_named (Q.ImageSet asked) = Some (asked.image.ns, Image asked.image.name)
row_named (Q.ImageGet image) = Some (image.ns, Image image.name)
row_named (Q.ImageLabel image label) = Some (image.ns, Image image.name)
row_named (Q.ContainerAdd asked) = Some (asked.container.ns, Container asked.container.name)
row_named (Q.ContainerSet asked) = Some (asked.container.ns, Container asked.container.name)
row_named (Q.ContainerGet container) = Some (container.ns, Container container.name)
row_named (Q.ContainerLabel container label) = Some (container.ns, Container container.name)
row_named (Q.ContentAdd asked) = Some (asked.content.ns, Held (Content asked.content.digest))
row_named (Q.ContentSet content update) = Some (content.ns, Held (Content content.digest))
row_named (Q.ContentGet content) = Some (content.ns, Held (Content content.digest))
row_named (Q.ContentLabel content label) = Some (content.ns, Held (Content content.digest))
row_named (Q.IngestBegin asked) = Some (asked.ingest.ns, Held (Ingest asked.ingest.name))
row_named (Q.IngestOpen asked) = Some (asked.ingest.ns, Held (Ingest asked.ingest.name))
row_named (Q.IngestCommit asked) = Some (asked.ingest.ns, Held (Content asked.digest))
row_named (Q.IngestGet ingest) = Some (ingest.ns, Held (Ingest ingest.name))
row_named (Q.SnapPrepare asked) = Some (
  asked.snapshot.ns,
  Held
      (Snapshot asked.snapshot.snapshotter asked.snapshot.name),
)
row_named (Q.SnapView asked) = Some (
  asked.snapshot.ns,
  Held
      (Snapshot asked.snapshot.snapshotter asked.snapshot.name),
)
row_named (Q.SnapCommit asked) = Some (
  asked.snapshot.ns,
  Held
      (Snapshot asked.snapshot.snapshotter asked.name),
)
row_named (Q.SnapSet snapshot update) = Some (
  snapshot.ns,
  Held
      (Snapshot snapshot.snapshotter snapshot.name),
)
row_named (Q.SnapGet snapshot) = Some (
  snapshot.ns,
  Held
      (Snapshot snapshot.snapshotter snapshot.name),
)
row_named (Q.SnapLabel snapshot label) = Some (
  snapshot.ns,
  Held
      (Snapshot snapshot.snapshotter snapshot.name),
)
row_named (Q.LeaseAdd asked) = Some (asked.lease.ns, Lease asked.lease.name)
row_named (Q.LeaseSet lease update) = Some (lease.ns, Lease lease.name)
row_named (Q.LeaseGet lease) = Some (lease.ns, Lease lease.name)
row_named (Q.LeaseLabel lease label) = Some (lease.ns, Lease lease.name)
row_named other = None

-- that row, in a store
abbrev pub row_shown : State → Request → Option ShownRow
row_shown state request = option_and_then (λ (named : Text × Object). shown_row state named.0
    named.1) (row_named request)

-- the rows of a namespace, in the order of their names
abbrev pub rows_in : {Row : Type 0} → (Row → Text) → (Row → ShownRow) → Text → List Row
    → List ShownRow
rows_in ns_of shown ns rows = map shown (filter (λ row. bytes_eq ns (ns_of row)) rows)

-- the rows that a listing names, in its order
abbrev pub rows_listed : Request → Option (State → List ShownRow)
rows_listed (Q.ImageList ns) = Some (λ state. rows_in (λ row. row.ns)
    (λ row. plain_row (W.Image row)) ns state.records.tables.images)
rows_listed (Q.ContainerList ns) = Some (λ state. rows_in (λ row. row.ns)
    (λ row. plain_row (W.Container row)) ns state.records.tables.containers)
rows_listed (Q.ContentList ns) = Some (λ state. rows_in (λ row. row.ns)
    (λ row. plain_row (W.Content row)) ns state.records.tables.content)
rows_listed (Q.IngestList ns) = Some (λ state. rows_in (λ row. row.ns)
    (λ row. plain_row (W.Ingest row)) ns state.records.tables.ingests)
rows_listed (Q.SnapList ns snapshotter) = Some (λ state. map
    (snapshot_shown state.records.tables.snapshots)
    (filter (λ row. bytes_eq ns row.key.ns && bytes_eq snapshotter row.key.snapshotter)
    state.records.tables.snapshots))
rows_listed (Q.LeaseList ns) = Some (λ state. rows_in (λ row. row.ns)
    (λ row. plain_row (W.Lease row.id row.labels row.extra)) ns state.records.leases)
rows_listed other = None

-- ---- objects that exist already

-- an object of a namespace, and the lease that is to hold it
pub record ToHold : Type 0 where
  pub ns : Text
  pub lease : Text
  pub resource : Resource

abbrev pub held_by : Text → Option Text → Resource → Option ToHold
held_by ns lease resource = option_map (λ id. record { ns = ns; lease = id; resource = resource })
    lease

-- the content or the snapshot that a request makes, where it names a lease (containerd leases
-- service: what is made under a lease is held by it)
abbrev pub object_to_hold : Request → Option ToHold
object_to_hold (Q.ContentAdd asked) = held_by asked.content.ns asked.lease
    (Content asked.content.digest)
object_to_hold (Q.IngestCommit asked) = held_by asked.ingest.ns asked.lease (Content asked.digest)
object_to_hold (Q.SnapPrepare asked) = held_by asked.snapshot.ns asked.lease
    (Snapshot asked.snapshot.snapshotter asked.snapshot.name)
object_to_hold (Q.SnapView asked) = held_by asked.snapshot.ns asked.lease
    (Snapshot asked.snapshot.snapshotter asked.snapshot.name)
object_to_hold (Q.SnapCommit asked) = held_by asked.snapshot.ns asked.lease
    (Snapshot asked.snapshot.snapshotter asked.name)
object_to_hold other = None

-- the request by which the lease holds it
abbrev pub hold_of : ToHold → Request
hold_of object = Q.LeaseHold (record {
  lease = record { ns = object.ns; name = object.lease };
  kind
      = type_of object.resource;
  resource = id_of object.resource;
})

-- the request would be refused, since what it makes is there already
abbrev pub is_there : State → Request → Bool
is_there state request = let o = outcome state request in not o.invalid && not o.missing && o.there

-- the object is there, and is to be held
abbrev pub holds_there : State → Request → Option Text → Bool
holds_there state request there = is_some there && is_there state request

-- the request that is done: if the object exists already, its lease holds it, nothing else changes
abbrev pub request_done : State → Request → Option Text → Request
request_done state request there =
    if holds_there state request there then option_map_or hold_of (object_to_hold request) request
    else request

-- ---- the words of a line

-- `row` asks for the row of a request, `rows` for those of a listing
abbrev pub takes_answer : Request → Text → Bool
takes_answer request word = (bytes_eq word (codes "row") && is_some (row_named request)) ||
    (bytes_eq word (codes "rows") && is_some (rows_listed request))

-- `hold` is of a request that makes content or a snapshot under a lease
abbrev pub takes_there : Request → Text → Bool
takes_there request word = bytes_eq word (codes "hold") && is_some (object_to_hold request)

abbrev pub takes_words : Request → Option Text → Option Text → Bool
takes_words request answer there = option_map_or (takes_answer request) answer true && option_map_or
    (takes_there request) there true

-- the least fault of a line: of its words, or of the request that is done
abbrev pub words_fault : State → Request → Option Text → Option Text → Option Fault
words_fault state request answer there =
    let o = outcome state (request_done state request there) in
    least_of (not (takes_words request answer there) || o.invalid) o.missing o.there o.forbidden

-- what a line shows: a row, and whether it was there already; that it was; or the rows of a listing
pub data Shown : Type 0 where
  shows_row : Bool → ShownRow → Shown
  was_there : Shown
  shows_rows : List ShownRow → Shown

-- what it shows of the store that is left, if anything
abbrev pub shown_in : State → Request → Bool → Option Text → Option Shown
shown_in after request there None = if there then Some was_there else None
shown_in after request there (Some word) =
    if bytes_eq word (codes "rows") then option_map (λ rows. shows_rows (rows after))
    (rows_listed request)
    else option_map (shows_row there) (row_shown after request)
