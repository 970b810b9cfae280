use Rattle.request_core.proofs.HoldsThere.{looked_commit, looked_content, looked_ingest, looked_prepare, looked_view}
use Rattle.request_core.proofs.state.State.look_there.Goals as goal

pub returns-in-ContentAdd : goal.returns-in-ContentAdd
returns-in-ContentAdd g c =
    looked_content c.args.self.now.state c.args.request.now _ _ c.in-ContentAdd.is
    c.content_there.ensures

pub returns-in-IngestCommit : goal.returns-in-IngestCommit
returns-in-IngestCommit g c =
    looked_ingest c.args.self.now.state c.args.request.now _ _ c.in-IngestCommit.is
    c.content_there-in-IngestCommit.ensures

pub returns-in-SnapPrepare : goal.returns-in-SnapPrepare
returns-in-SnapPrepare g c =
    looked_prepare c.args.self.now.state c.args.request.now _ _ c.in-SnapPrepare.is
    c.snapshot_there.ensures

pub returns-in-SnapView : goal.returns-in-SnapView
returns-in-SnapView g c =
    looked_view c.args.self.now.state c.args.request.now _ _ c.in-SnapView.is
    c.snapshot_there-in-SnapView.ensures

pub returns-in-SnapCommit : goal.returns-in-SnapCommit
returns-in-SnapCommit g c =
    looked_commit c.args.self.now.state c.args.request.now _ _ c.in-SnapCommit.is
    c.snapshot_there-in-SnapCommit.ensures
