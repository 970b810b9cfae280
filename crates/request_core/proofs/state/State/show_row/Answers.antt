use Rattle.std.proofs.Common.{refl}
use Rattle.request_core.proofs.ShownRows.{of_no_row}
use Rattle.request_core.proofs.state.State.show_row.Goals as goal

-- requests that are of no row
pub returns-in-NsAdd : goal.returns-in-NsAdd
returns-in-NsAdd g c = of_no_row c.args.self.now.state c.args.request.now _ c.in-NsAdd.is refl

pub returns-in-NsRemove : goal.returns-in-NsRemove
returns-in-NsRemove g c = of_no_row c.args.self.now.state c.args.request.now _ c.in-NsRemove.is refl

pub returns-in-NsList : goal.returns-in-NsList
returns-in-NsList g c = of_no_row c.args.self.now.state c.args.request.now _ c.in-NsList.is refl

pub returns-in-ImageRemove : goal.returns-in-ImageRemove
returns-in-ImageRemove g c = of_no_row c.args.self.now.state c.args.request.now _
    c.in-ImageRemove.is refl

pub returns-in-ImageList : goal.returns-in-ImageList
returns-in-ImageList g c = of_no_row c.args.self.now.state c.args.request.now _ c.in-ImageList.is
    refl

pub returns-in-ContainerRemove : goal.returns-in-ContainerRemove
returns-in-ContainerRemove g c = of_no_row c.args.self.now.state c.args.request.now _
    c.in-ContainerRemove.is refl

pub returns-in-ContainerList : goal.returns-in-ContainerList
returns-in-ContainerList g c = of_no_row c.args.self.now.state c.args.request.now _
    c.in-ContainerList.is refl

pub returns-in-ContentRemove : goal.returns-in-ContentRemove
returns-in-ContentRemove g c = of_no_row c.args.self.now.state c.args.request.now _
    c.in-ContentRemove.is refl

pub returns-in-ContentList : goal.returns-in-ContentList
returns-in-ContentList g c = of_no_row c.args.self.now.state c.args.request.now _
    c.in-ContentList.is refl

pub returns-in-IngestAbort : goal.returns-in-IngestAbort
returns-in-IngestAbort g c = of_no_row c.args.self.now.state c.args.request.now _
    c.in-IngestAbort.is refl

pub returns-in-IngestList : goal.returns-in-IngestList
returns-in-IngestList g c = of_no_row c.args.self.now.state c.args.request.now _ c.in-IngestList.is
    refl

pub returns-in-SnapRemove : goal.returns-in-SnapRemove
returns-in-SnapRemove g c = of_no_row c.args.self.now.state c.args.request.now _ c.in-SnapRemove.is
    refl

pub returns-in-SnapList : goal.returns-in-SnapList
returns-in-SnapList g c = of_no_row c.args.self.now.state c.args.request.now _ c.in-SnapList.is refl

pub returns-in-SnapSnapshotters : goal.returns-in-SnapSnapshotters
returns-in-SnapSnapshotters g c = of_no_row c.args.self.now.state c.args.request.now _
    c.in-SnapSnapshotters.is refl

pub returns-in-LeaseRemove : goal.returns-in-LeaseRemove
returns-in-LeaseRemove g c = of_no_row c.args.self.now.state c.args.request.now _
    c.in-LeaseRemove.is refl

pub returns-in-LeaseList : goal.returns-in-LeaseList
returns-in-LeaseList g c = of_no_row c.args.self.now.state c.args.request.now _ c.in-LeaseList.is
    refl

pub returns-in-LeaseHold : goal.returns-in-LeaseHold
returns-in-LeaseHold g c = of_no_row c.args.self.now.state c.args.request.now _ c.in-LeaseHold.is
    refl

pub returns-in-LeaseDrop : goal.returns-in-LeaseDrop
returns-in-LeaseDrop g c = of_no_row c.args.self.now.state c.args.request.now _ c.in-LeaseDrop.is
    refl

pub returns-in-LeaseResources : goal.returns-in-LeaseResources
returns-in-LeaseResources g c = of_no_row c.args.self.now.state c.args.request.now _
    c.in-LeaseResources.is refl

pub returns-in-Profile : goal.returns-in-Profile
returns-in-Profile g c = of_no_row c.args.self.now.state c.args.request.now _ c.in-Profile.is refl
