-- Which requests add to the store. Ours.
use Rattle.std.specs.Prelude.{Bool, true, false, ◌==◌, length}
use Rattle.meta_types.specs.declared.raw.RawLabel.{RawLabel}
use Rattle.meta_types.specs.declared.request.Request.{Request}
use Rattle.meta_types.specs.declared.request.Request.TheVariants.{NsAdd, NsRemove, NsList, ImageAdd, ImageTarget, ImageSet, ImageRemove, ImageGet, ImageList, ImageLabel, ContainerAdd, ContainerSet, ContainerRemove, ContainerGet, ContainerList, ContainerLabel, ContentAdd, ContentSet, ContentRemove, ContentGet, ContentLabel, ContentList, IngestBegin, IngestOpen, IngestCommit, IngestAbort, IngestGet, IngestList, SnapPrepare, SnapView, SnapCommit, SnapSet, SnapRemove, SnapGet, SnapLabel, SnapList, SnapSnapshotters, LeaseAdd, LeaseSet, LeaseRemove, LeaseGet, LeaseLabel, LeaseList, LeaseHold, LeaseDrop, LeaseResources, Profile}

-- a label without a value is taken away
abbrev pub takes_away : RawLabel → Bool
takes_away label = length label.value == 0

-- the store is no larger after the request
abbrev pub adds_nothing : Request → Bool
adds_nothing (NsAdd ns) = false
adds_nothing (NsRemove ns) = true
adds_nothing NsList = true
adds_nothing (ImageAdd asked) = false
adds_nothing (ImageTarget asked) = false
adds_nothing (ImageSet asked) = false
adds_nothing (ImageRemove image) = true
adds_nothing (ImageGet image) = true
adds_nothing (ImageList ns) = true
adds_nothing (ImageLabel image label) = takes_away label
adds_nothing (ContainerAdd asked) = false
adds_nothing (ContainerSet asked) = false
adds_nothing (ContainerRemove container) = true
adds_nothing (ContainerGet container) = true
adds_nothing (ContainerList ns) = true
adds_nothing (ContainerLabel container label) = takes_away label
adds_nothing (ContentAdd asked) = false
adds_nothing (ContentSet content update) = false
adds_nothing (ContentRemove content dropped_by) = true
adds_nothing (ContentGet content) = true
adds_nothing (ContentLabel content label) = takes_away label
adds_nothing (ContentList ns) = true
adds_nothing (IngestBegin asked) = false
adds_nothing (IngestOpen asked) = false
adds_nothing (IngestCommit asked) = false
adds_nothing (IngestAbort ingest dropped_by) = true
adds_nothing (IngestGet ingest) = true
adds_nothing (IngestList ns) = true
adds_nothing (SnapPrepare asked) = false
adds_nothing (SnapView asked) = false
adds_nothing (SnapCommit asked) = false
adds_nothing (SnapSet snapshot update) = false
adds_nothing (SnapRemove snapshot dropped_by) = true
adds_nothing (SnapGet snapshot) = true
adds_nothing (SnapLabel snapshot label) = takes_away label
adds_nothing (SnapList ns snapshotter) = true
adds_nothing (SnapSnapshotters ns) = true
adds_nothing (LeaseAdd asked) = false
adds_nothing (LeaseSet lease update) = false
adds_nothing (LeaseRemove lease) = true
adds_nothing (LeaseGet lease) = true
adds_nothing (LeaseLabel lease label) = takes_away label
adds_nothing (LeaseList ns) = true
adds_nothing (LeaseHold asked) = false
adds_nothing (LeaseDrop asked) = true
adds_nothing (LeaseResources lease) = true
adds_nothing (Profile v) = true
