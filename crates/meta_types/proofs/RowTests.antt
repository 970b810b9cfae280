-- The derived `==` of resources and rows as tests.
use Rattle.std.proofs.Common.{◌≡◌, refl, ℕ, zero, suc, List}
use Rattle.meta_types.specs.declared.rows.SnapKind.TheVariants.{Active, View, Committed}
use Rattle.meta_types.specs.declared.rows.SnapKind as kind
use Rattle.meta_types.specs.contracts.rows.SnapKind as snap_kinds
use Rattle.meta_types.specs.contracts.rows.ImageRow as images
use Rattle.meta_types.specs.contracts.rows.ContainerRow as containers
use Rattle.meta_types.specs.contracts.rows.ContentRow as contents
use Rattle.meta_types.specs.contracts.rows.IngestRow as ingests
use Rattle.meta_types.specs.contracts.rows.SnapKey as snap_keys
use Rattle.meta_types.specs.contracts.rows.SnapRow as snaps
use Rattle.meta_types.specs.contracts.instant.Instant as instants
use Rattle.meta_types.specs.contracts.resource.Resource as resources
use Rattle.meta_types.specs.contracts.reply.ReplyRow as rows
use denote.Enum.Declared.{tag_of}
use Rattle.meta_types.proofs.Decided.{Test, text, number, signed, maybe, listed, one, ◌⊗◌, ◌⊕◌, fields, tags, variants}

abbrev pub labels : Test (List (List ℕ × List ℕ))
labels = listed (text ⊗ text)

abbrev back : ℕ → kind.SnapKind
back zero = Active
back (suc zero) = View
back (suc (suc n)) = Committed

pub found : (x : kind.SnapKind) → back (tag_of snap_kinds.the_type x) ≡ x
found Active = refl
found View = refl
found Committed = refl

abbrev pub snap_kind : Test kind.SnapKind
snap_kind = tags snap_kinds.the_type back found

abbrev pub image : Test images.struct.D
image = fields images.struct images.the_propositions (text ⊗ text ⊗ text ⊗ labels ⊗ one text)

abbrev pub content : Test contents.struct.D
content = fields contents.struct contents.the_propositions (text ⊗ text ⊗ labels ⊗ one text)

abbrev pub container : Test containers.struct.D
container = fields containers.struct containers.the_propositions
    (text ⊗ text ⊗ maybe (text ⊗ text) ⊗ labels ⊗ one text)

abbrev pub instant : Test instants.struct.D
instant = fields instants.struct instants.the_propositions (one signed)

abbrev pub ingest : Test ingests.struct.D
ingest = fields ingests.struct ingests.the_propositions
    (text ⊗ text ⊗ maybe text ⊗ maybe instant ⊗ number ⊗ one text)

abbrev pub snap_key : Test snap_keys.struct.D
snap_key = fields snap_keys.struct snap_keys.the_propositions (text ⊗ text ⊗ one text)

abbrev pub resource : Test resources.enum.D
resource = variants resources.enum (one text ⊕ text ⊗ one text ⊕ one text ⊕ tt)

abbrev pub snap : Test snaps.struct.D
snap = fields snaps.struct snaps.the_propositions
    (snap_key ⊗ snap_kind ⊗ maybe text ⊗ number ⊗ labels ⊗ one text)

abbrev pub row : Test rows.enum.D
row = variants rows.enum (one image ⊕ one container ⊕ one content ⊕ one ingest ⊕ one snap ⊕ text ⊗
    labels ⊗ one text ⊕ tt)
