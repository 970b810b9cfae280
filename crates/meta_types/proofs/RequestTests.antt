-- The derived `==` of what requests hold as tests.
use Rattle.meta_types.specs.contracts.raw.RawLabel as raw_labels
use Rattle.meta_types.specs.contracts.request.RawName as names
use Rattle.meta_types.specs.contracts.request.RawContent as contents
use Rattle.meta_types.specs.contracts.request.RawSnapshot as snaps
use Rattle.meta_types.specs.contracts.request.ImageAdd as image_adds
use Rattle.meta_types.specs.contracts.request.ImageTarget as image_targets
use Rattle.meta_types.specs.contracts.request.ImageSet as image_sets
use Rattle.meta_types.specs.contracts.request.RowUpdate as updates
use Rattle.meta_types.specs.contracts.request.ContainerAdd as container_adds
use Rattle.meta_types.specs.contracts.request.ContainerSet as container_sets
use Rattle.meta_types.specs.contracts.request.ContentAdd as content_adds
use Rattle.meta_types.specs.contracts.request.IngestBegin as ingest_begins
use Rattle.meta_types.specs.contracts.request.IngestCommit as ingest_commits
use Rattle.meta_types.specs.contracts.request.SnapAdd as snap_adds
use Rattle.meta_types.specs.contracts.request.SnapCommit as snap_commits
use Rattle.meta_types.specs.contracts.request.LeaseAdd as lease_adds
use Rattle.meta_types.specs.contracts.request.LeaseResource as lease_resources
use mathlib.Core.List.{[]}
use mir.Syntax.{named}
use denote.Ref.{NamedLft}
use Rattle.meta_types.proofs.Decided.{Test, text, maybe, one, ◌⊗◌, fields}
use Rattle.meta_types.proofs.RowTests.{labels}

-- some lifetime: what is compared depends on none
abbrev pub any : NamedLft
any = record { mir = named 1; lft = [] }

abbrev pub label : (k : NamedLft) → Test (raw_labels.struct k).D
label k = fields (raw_labels.struct k) raw_labels.the_propositions (text ⊗ one text)

abbrev pub name : (k : NamedLft) → Test (names.struct k).D
name k = fields (names.struct k) names.the_propositions (text ⊗ one text)

abbrev pub content : (k : NamedLft) → Test (contents.struct k).D
content k = fields (contents.struct k) contents.the_propositions (text ⊗ one text)

abbrev pub snap : (k : NamedLft) → Test (snaps.struct k).D
snap k = fields (snaps.struct k) snaps.the_propositions (text ⊗ text ⊗ one text)

abbrev pub image_add : (k : NamedLft) → Test (image_adds.struct k).D
image_add k = fields (image_adds.struct k) image_adds.the_propositions
    (name k ⊗ text ⊗ labels ⊗ one (maybe text))

abbrev pub update : (k : NamedLft) → Test (updates.struct k).D
update k = fields (updates.struct k) updates.the_propositions
    (maybe labels ⊗ maybe labels ⊗ one (maybe text))

abbrev pub image_set : (k : NamedLft) → Test (image_sets.struct k).D
image_set k = fields (image_sets.struct k) image_sets.the_propositions
    (name k ⊗ maybe text ⊗ one (update k))

abbrev pub image_target : (k : NamedLft) → Test (image_targets.struct k).D
image_target k = fields (image_targets.struct k) image_targets.the_propositions (name k ⊗ one text)

abbrev pub container_add : (k : NamedLft) → Test (container_adds.struct k).D
container_add k = fields (container_adds.struct k) container_adds.the_propositions
    (name k ⊗ maybe text ⊗ maybe text ⊗ labels ⊗ one (maybe text))

abbrev pub container_set : (k : NamedLft) → Test (container_sets.struct k).D
container_set k = fields (container_sets.struct k) container_sets.the_propositions
    (name k ⊗ maybe text ⊗ maybe text ⊗ one (update k))

abbrev pub content_add : (k : NamedLft) → Test (content_adds.struct k).D
content_add k = fields (content_adds.struct k) content_adds.the_propositions
    (content k ⊗ labels ⊗ maybe text ⊗ one (maybe text))

abbrev pub ingest_begin : (k : NamedLft) → Test (ingest_begins.struct k).D
ingest_begin k = fields (ingest_begins.struct k) ingest_begins.the_propositions
    (name k ⊗ text ⊗ maybe text ⊗ maybe text ⊗ one (maybe text))

abbrev pub ingest_commit : (k : NamedLft) → Test (ingest_commits.struct k).D
ingest_commit k = fields (ingest_commits.struct k) ingest_commits.the_propositions
    (name k ⊗ text ⊗ labels ⊗ maybe text ⊗ maybe text ⊗ one (maybe text))

abbrev pub snap_add : (k : NamedLft) → Test (snap_adds.struct k).D
snap_add k = fields (snap_adds.struct k) snap_adds.the_propositions
    (snap k ⊗ maybe text ⊗ labels ⊗ maybe text ⊗ one (maybe text))

abbrev pub snap_commit : (k : NamedLft) → Test (snap_commits.struct k).D
snap_commit k = fields (snap_commits.struct k) snap_commits.the_propositions
    (snap k ⊗ text ⊗ labels ⊗ maybe text ⊗ maybe text ⊗ one (maybe text))

abbrev pub lease_add : (k : NamedLft) → Test (lease_adds.struct k).D
lease_add k = fields (lease_adds.struct k) lease_adds.the_propositions
    (name k ⊗ labels ⊗ one (maybe text))

abbrev pub lease_resource : (k : NamedLft) → Test (lease_resources.struct k).D
lease_resource k = fields (lease_resources.struct k) lease_resources.the_propositions
    (name k ⊗ text ⊗ one text)
