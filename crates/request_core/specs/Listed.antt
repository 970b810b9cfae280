-- What the rows of a listing are, as they are lent. Ours, unless a source stands beside.
use Rattle.std.specs.Prelude.{◌≡◌, ◌⊎◌, List, map, Option, Some, None, option_map}
use Rattle.meta_types.specs.Ops.{least_fault}
use Rattle.meta_types.specs.Requests.{outcome}
use Rattle.meta_types.specs.Shown.{plain_row, rows_listed, snapshot_shown}
use Rattle.meta_types.specs.Rows.{State}
use Rattle.meta_types.specs.declared.fault.Fault.{Fault}
use Rattle.meta_types.specs.declared.fault.Fault.TheVariants.{OutOfMemory}
use Rattle.meta_types.specs.declared.reply.ReplyRow.TheVariants as W
use Rattle.meta_types.specs.declared.shown_row.ShownRow.{ShownRow}
use Rattle.meta_types.specs.declared.request.Request.{Request}
use Rattle.request_core.specs.declared.listing.ListedRows.{ListedRows}
use Rattle.request_core.specs.declared.listing.ListedRows.TheVariants.{Images, Containers, Content, Ingests, Snapshots, Leases}

-- the rows as they are shown, a snapshot with its parent's number in the store
abbrev pub listed_rows : State → ListedRows → List ShownRow
listed_rows state (Images rows) = map (λ row. plain_row (W.Image row.now)) rows.items
listed_rows state (Containers rows) = map (λ row. plain_row (W.Container row.now)) rows.items
listed_rows state (Content rows) = map (λ row. plain_row (W.Content row.now)) rows.items
listed_rows state (Ingests rows) = map (λ row. plain_row (W.Ingest row.now)) rows.items
listed_rows state (Snapshots rows) = map (λ row. snapshot_shown state.records.tables.snapshots
    row.now) rows.items
listed_rows state (Leases rows) = map (λ row. plain_row
    (W.Lease row.now.id row.now.labels row.now.extra)) rows.items

-- memory ran out, or this is the least fault: no device is asked
abbrev pub IsRefusedBy : Fault → Option Fault → Type 0
IsRefusedBy fault least = (fault ≡ OutOfMemory) ⊎ (least ≡ Some fault)

-- they are those that the listing names, where no fault refuses it
abbrev pub Lists : State → Request → Option ListedRows → Type 0
Lists state request None = rows_listed request ≡ None
Lists state request (Some rows) =
    (least_fault (outcome state request) ≡ None)
    × (option_map (λ (list : State → List ShownRow). list state) (rows_listed request) ≡ Some
    (listed_rows state rows))
