-- What each request comes to. Each op has its source beside it.
use Rattle.meta_types.specs.Rows.{State}
use Rattle.meta_types.specs.Ops.{Outcome}
use Rattle.meta_types.specs.Ops.Namespaces.{adds_namespace, removes_namespace, lists_namespaces, chooses_profile}
use Rattle.meta_types.specs.Ops.Images.{adds_image, targets_image, sets_image, removes_image, gets_image, lists_images, labels_image}
use Rattle.meta_types.specs.Ops.Containers.{adds_container, sets_container, removes_container, gets_container, lists_containers, labels_container}
use Rattle.meta_types.specs.Ops.Content.{adds_content, sets_content, removes_content, gets_content, labels_content, lists_content}
use Rattle.meta_types.specs.Ops.Ingests.{begins_ingest, opens_ingest, commits_ingest, aborts_ingest, gets_ingest, lists_ingests}
use Rattle.meta_types.specs.Ops.Snapshots.{prepares, commits_snapshot, sets_snapshot, removes_snapshot, gets_snapshot, labels_snapshot, lists_snapshots, lists_snapshotters}
use Rattle.meta_types.specs.Ops.Leases.{adds_lease, sets_lease, removes_lease, gets_lease, labels_lease, lists_leases, holds_resource, releases_resource, lists_resources}
use Rattle.meta_types.specs.declared.rows.SnapKind.TheVariants.{Active, View}
use Rattle.meta_types.specs.declared.request.Request.{Request}
use Rattle.meta_types.specs.declared.request.Request.TheVariants.{NsAdd, NsRemove, NsList, ImageAdd, ImageTarget, ImageSet, ImageRemove, ImageGet, ImageList, ImageLabel, ContainerAdd, ContainerSet, ContainerRemove, ContainerGet, ContainerList, ContainerLabel, ContentAdd, ContentSet, ContentRemove, ContentGet, ContentLabel, ContentList, IngestBegin, IngestOpen, IngestCommit, IngestAbort, IngestGet, IngestList, SnapPrepare, SnapView, SnapCommit, SnapSet, SnapRemove, SnapGet, SnapLabel, SnapList, SnapSnapshotters, LeaseAdd, LeaseSet, LeaseRemove, LeaseGet, LeaseLabel, LeaseList, LeaseHold, LeaseDrop, LeaseResources, Profile}
use Rattle.meta_types.specs.declared.request.Removal.{Removal}
use Rattle.meta_types.specs.declared.request.Removal.TheVariants as Removing

abbrev pub outcome : State → Request → Outcome
outcome state (NsAdd ns) = adds_namespace state ns
outcome state (NsRemove ns) = removes_namespace state ns
outcome state NsList = lists_namespaces state
outcome state (ImageAdd asked) = adds_image state asked
outcome state (ImageTarget asked) = targets_image state asked
outcome state (ImageSet asked) = sets_image state asked
outcome state (ImageRemove image) = removes_image state image
outcome state (ImageGet image) = gets_image state image
outcome state (ImageList ns) = lists_images state ns
outcome state (ImageLabel image label) = labels_image state image label
outcome state (ContainerAdd asked) = adds_container state asked
outcome state (ContainerSet asked) = sets_container state asked
outcome state (ContainerRemove container) = removes_container state container
outcome state (ContainerGet container) = gets_container state container
outcome state (ContainerList ns) = lists_containers state ns
outcome state (ContainerLabel container label) = labels_container state container label
outcome state (ContentAdd asked) = adds_content state asked
outcome state (ContentSet content update) = sets_content state content update
outcome state (ContentRemove content dropped_by) = removes_content state content dropped_by
outcome state (ContentGet content) = gets_content state content
outcome state (ContentLabel content label) = labels_content state content label
outcome state (ContentList ns) = lists_content state ns
outcome state (IngestBegin asked) = begins_ingest state asked
outcome state (IngestOpen asked) = opens_ingest state asked
outcome state (IngestCommit asked) = commits_ingest state asked
outcome state (IngestAbort ingest dropped_by) = aborts_ingest state ingest dropped_by
outcome state (IngestGet ingest) = gets_ingest state ingest
outcome state (IngestList ns) = lists_ingests state ns
outcome state (SnapPrepare asked) = prepares state Active asked
outcome state (SnapView asked) = prepares state View asked
outcome state (SnapCommit asked) = commits_snapshot state asked
outcome state (SnapSet snapshot update) = sets_snapshot state snapshot update
outcome state (SnapRemove snapshot dropped_by) = removes_snapshot state snapshot dropped_by
outcome state (SnapGet snapshot) = gets_snapshot state snapshot
outcome state (SnapLabel snapshot label) = labels_snapshot state snapshot label
outcome state (SnapList ns snapshotter) = lists_snapshots state ns snapshotter
outcome state (SnapSnapshotters ns) = lists_snapshotters state ns
outcome state (LeaseAdd asked) = adds_lease state asked
outcome state (LeaseSet lease update) = sets_lease state lease update
outcome state (LeaseRemove lease) = removes_lease state lease
outcome state (LeaseGet lease) = gets_lease state lease
outcome state (LeaseLabel lease label) = labels_lease state lease label
outcome state (LeaseList ns) = lists_leases state ns
outcome state (LeaseHold asked) = holds_resource state asked
outcome state (LeaseDrop asked) = releases_resource state asked
outcome state (LeaseResources lease) = lists_resources state lease
outcome state (Profile v) = chooses_profile state v

-- the removal that comes with a collection (containerd, synchronous deletes of images and leases)
abbrev pub removal_outcome : State → Removal → Outcome
removal_outcome state (Removing.Image image) = removes_image state image
removal_outcome state (Removing.Lease lease) = removes_lease state lease
