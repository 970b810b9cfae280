-- Which lines a store does in the mode of a run. Ours.
use Rattle.std.specs.Prelude.{ℕ, List, Bool, true, false, not}
use Rattle.std.specs.Option.{option_map_or}
use Rattle.meta_types.specs.declared.request.Request.{Request}
use Rattle.meta_types.specs.declared.request.Request.TheVariants as Q
use Rattle.request_line.specs.Lines.{command_in}
use Rattle.request_line.specs.declared.command.Command.{Command}
use Rattle.request_line.specs.declared.command.Command.TheVariants as A
use Rattle.line_loop.specs.declared.mode.Mode.{Mode}
use Rattle.line_loop.specs.declared.mode.Mode.TheVariants.{AllLines, NoAdditions, ReadOnly}
use Rattle.scripts.specs.Additions.{adds_nothing}

-- the request is one for a row or a list, which never changes the store
abbrev pub only_asks : Request → Bool
only_asks (Q.NsAdd ns) = false
only_asks (Q.NsRemove ns) = false
only_asks Q.NsList = true
only_asks (Q.ImageAdd asked) = false
only_asks (Q.ImageTarget asked) = false
only_asks (Q.ImageSet asked) = false
only_asks (Q.ImageRemove image) = false
only_asks (Q.ImageGet image) = true
only_asks (Q.ImageList ns) = true
only_asks (Q.ImageLabel image label) = false
only_asks (Q.ContainerAdd asked) = false
only_asks (Q.ContainerSet asked) = false
only_asks (Q.ContainerRemove container) = false
only_asks (Q.ContainerGet container) = true
only_asks (Q.ContainerList ns) = true
only_asks (Q.ContainerLabel container label) = false
only_asks (Q.ContentAdd asked) = false
only_asks (Q.ContentSet content update) = false
only_asks (Q.ContentRemove content dropped_by) = false
only_asks (Q.ContentGet content) = true
only_asks (Q.ContentLabel content label) = false
only_asks (Q.ContentList ns) = true
only_asks (Q.IngestBegin asked) = false
only_asks (Q.IngestOpen asked) = false
only_asks (Q.IngestCommit asked) = false
only_asks (Q.IngestAbort ingest dropped_by) = false
only_asks (Q.IngestGet ingest) = true
only_asks (Q.IngestList ns) = true
only_asks (Q.SnapPrepare asked) = false
only_asks (Q.SnapView asked) = false
only_asks (Q.SnapCommit asked) = false
only_asks (Q.SnapSet snapshot update) = false
only_asks (Q.SnapRemove snapshot dropped_by) = false
only_asks (Q.SnapGet snapshot) = true
only_asks (Q.SnapLabel snapshot label) = false
only_asks (Q.SnapList ns snapshotter) = true
only_asks (Q.SnapSnapshotters ns) = true
only_asks (Q.LeaseAdd asked) = false
only_asks (Q.LeaseSet lease update) = false
only_asks (Q.LeaseRemove lease) = false
only_asks (Q.LeaseGet lease) = true
only_asks (Q.LeaseLabel lease label) = false
only_asks (Q.LeaseList ns) = true
only_asks (Q.LeaseHold asked) = false
only_asks (Q.LeaseDrop asked) = false
only_asks (Q.LeaseResources lease) = true
only_asks (Q.Profile v) = false

-- what a line asks for never changes the store: a request that only asks, a
-- question, or a dry run
abbrev pub never_changes : Command → Bool
never_changes (A.Request request) = only_asks request
never_changes (A.Show request answer there) = only_asks request
never_changes (A.Collect at dry) = dry
never_changes (A.Remove removal at) = false
never_changes (A.Explain ns kind name at) = true
never_changes (A.Impact ns kind name at) = true
never_changes A.BackList = true

-- what a line asks for adds to the store
abbrev pub command_adds : Command → Bool
command_adds (A.Request request) = not (adds_nothing request)
command_adds (A.Show request answer there) = not (adds_nothing request)
command_adds (A.Collect at dry) = false
command_adds (A.Remove removal at) = false
command_adds (A.Explain ns kind name at) = false
command_adds (A.Impact ns kind name at) = false
command_adds A.BackList = false

-- the mode lets it be done
abbrev pub lets : Mode → Command → Bool
lets AllLines command = true
lets NoAdditions command = not (command_adds command)
lets ReadOnly command = never_changes command

-- the line adds to the store
abbrev pub adds : List ℕ → Bool
adds line = option_map_or command_adds (command_in line) false

-- the mode lets the line be done; one that asks for nothing is refused in any mode
abbrev pub lets_line : Mode → List ℕ → Bool
lets_line mode line = option_map_or (lets mode) (command_in line) true

-- whether the line is logged that may have changed the store: no line is where none may change it
abbrev pub logs : Mode → Bool → Bool
logs AllLines changes = changes
logs NoAdditions changes = changes
logs ReadOnly changes = false
