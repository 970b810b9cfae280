use Rattle.request_core.proofs.Following.{answers_exactly}
use Rattle.request_core.proofs.state.State.dispatch.Goals as goal

-- one call lists the rows of a kind
pub returns-in-ImageList : goal.returns-in-ImageList
returns-in-ImageList g c =
    answers_exactly c.args.self.now _ _ _ _ c.in-ImageList.is c.list.ensures

pub returns-in-ContainerList : goal.returns-in-ContainerList
returns-in-ContainerList g c =
    answers_exactly c.args.self.now _ _ _ _ c.in-ContainerList.is c.list-in-ContainerList.ensures

pub returns-in-ContentList : goal.returns-in-ContentList
returns-in-ContentList g c =
    answers_exactly c.args.self.now _ _ _ _ c.in-ContentList.is c.list-in-ContentList.ensures

pub returns-in-IngestList : goal.returns-in-IngestList
returns-in-IngestList g c =
    answers_exactly c.args.self.now _ _ _ _ c.in-IngestList.is c.list-in-IngestList.ensures

-- one makes a snapshot that is active, or a view
pub returns-in-SnapPrepare : goal.returns-in-SnapPrepare
returns-in-SnapPrepare g c =
    answers_exactly c.args.self.now _ _ _ _ c.in-SnapPrepare.is c.prepare.ensures

pub returns-in-SnapView : goal.returns-in-SnapView
returns-in-SnapView g c =
    answers_exactly c.args.self.now _ _ _ _ c.in-SnapView.is c.prepare-in-SnapView.ensures
