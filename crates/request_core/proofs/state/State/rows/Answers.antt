use Rattle.std.proofs.Common.{ap, rules, ◌∷◌, []}
use Rattle.meta_types.specs.Changes.{all_of}
use Rattle.meta_types.specs.Shown.{plain_row, snapshot_shown}
use Rattle.meta_types.specs.declared.reply.ReplyRow.TheVariants as W
use Rattle.request_core.proofs.LentRows.{is_listed, lent_rows, of_snapshotter}
use Rattle.request_core.proofs.state.State.rows.Goals as goal

pub returns-in_ok-rows-in-ImageList-clause-ok : goal.returns-in_ok-rows-in-ImageList-clause-ok
returns-in_ok-rows-in-ImageList-clause-ok g c =
    let read = c.in_ok-ns-in-ImageList.ensures.ok in
    rw c.in-ImageList.is (
      is_listed _ _ (ap (λ allowed. all_of (allowed ∷ [])) read.1) read.2,
      lent_rows (λ row. row.now) (λ row. plain_row (W.Image row)) _ _
          (search rules),
    )

pub returns-in_ok-rows-in-ContainerList-clause-ok :
    goal.returns-in_ok-rows-in-ContainerList-clause-ok
returns-in_ok-rows-in-ContainerList-clause-ok g c =
    let read = c.in_ok-ns-in-ContainerList.ensures.ok in
    rw c.in-ContainerList.is (
      is_listed _ _ (ap (λ allowed. all_of (allowed ∷ [])) read.1) read.2,
      lent_rows (λ row. row.now) (λ row. plain_row (W.Container row)) _ _
          (search rules),
    )

pub returns-in_ok-rows-in-ContentList-clause-ok : goal.returns-in_ok-rows-in-ContentList-clause-ok
returns-in_ok-rows-in-ContentList-clause-ok g c =
    let read = c.in_ok-ns-in-ContentList.ensures.ok in
    rw c.in-ContentList.is (
      is_listed _ _ (ap (λ allowed. all_of (allowed ∷ [])) read.1) read.2,
      lent_rows (λ row. row.now) (λ row. plain_row (W.Content row)) _ _
          (search rules),
    )

pub returns-in_ok-rows-in-IngestList-clause-ok : goal.returns-in_ok-rows-in-IngestList-clause-ok
returns-in_ok-rows-in-IngestList-clause-ok g c =
    let read = c.in_ok-ns-in-IngestList.ensures.ok in
    rw c.in-IngestList.is (
      is_listed _ _ (ap (λ allowed. all_of (allowed ∷ [])) read.1) read.2,
      lent_rows (λ row. row.now) (λ row. plain_row (W.Ingest row)) _ _
          (search rules),
    )

pub returns-in_ok-rows-in-LeaseList-clause-ok : goal.returns-in_ok-rows-in-LeaseList-clause-ok
returns-in_ok-rows-in-LeaseList-clause-ok g c =
    let read = c.in_ok-ns-in-LeaseList.ensures.ok in
    rw c.in-LeaseList.is (
      is_listed _ _ (ap (λ allowed. all_of (allowed ∷ [])) read.1) read.2,
      lent_rows (λ row. row.now) (λ row. plain_row (W.Lease row.id row.labels row.extra)) _ _
          (search rules),
    )

pub returns-in_ok-rows-in-SnapList-clause-ok : goal.returns-in_ok-rows-in-SnapList-clause-ok
returns-in_ok-rows-in-SnapList-clause-ok g c =
    let read = c.in_ok-ns-in-SnapList.ensures.ok in
    rw c.in-SnapList.is (
      is_listed _ _ read.2 read.3,
      lent_rows (λ row. row.now) (snapshot_shown c.args.self.now.state.records.tables.snapshots) _
          _
          (of_snapshotter _ _ _ _ _ _ _ c.in_ok-rows-in-SnapList.ensures.ok read.0 read.1
          (λ i. (c.self.view_is i).state.records.tables.snapshots)),
    )
