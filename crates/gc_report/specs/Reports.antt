-- The JSON of a report. Members stand in the byte order of their names. Ours, unless a source
-- stands beside.
use Rattle.std.specs.Prelude.{ℕ, List, ◌==◌, Bool, Option, Some, None, map, codes, if◌then◌else◌}
use Rattle.serde_json.specs.Data.{Data, boolean, number, unsigned, string, array, object, no_items, item, Members, no_members, member}
use Rattle.serde_json.specs.View.{items_of}
use Rattle.meta_types.specs.Text.{Text}
use Rattle.meta_types.specs.Backends.{BackNames}
use Rattle.meta_types.specs.Reports.{Report, Kept, Removed}

-- ---- lists

abbrev pub count_data : ℕ → Data
count_data n = number (unsigned n)

abbrev pub snapshot_data : Text × ℕ → Data
snapshot_data s = array (item (string s.0) (item (count_data s.1) no_items))

abbrev pub pair_data : Text × Text → Data
pair_data p = array (item (string p.0) (item (string p.1) no_items))

abbrev pub triple_data : Text × Text × Text → Data
triple_data t = array (item (string t.0) (item (string t.1) (item (string t.2) no_items)))

-- a list, each item as said
abbrev pub list_data : {A : Type 0} → (A → Data) → List A → Data
list_data data_of list = array (items_of (map data_of list))

-- ---- members

-- three lists of backend objects
abbrev pub objects_with : Data → Data → Data → Data
objects_with blobs ingests snapshots = object (member (codes "blobs") blobs (member (codes "ingests") ingests (member (codes "snapshots") snapshots no_members)))

abbrev pub objects_data : BackNames → Data
objects_data names = objects_with (list_data string names.blobs) (list_data count_data names.ingests) (list_data snapshot_data names.snapshots)

-- how many rows remain
abbrev pub kept_data : Kept → Data
kept_data kept = object
    (member (codes "containers") (count_data kept.containers)
    (member (codes "content") (count_data kept.content)
    (member (codes "images") (count_data kept.images)
    (member (codes "ingests") (count_data kept.ingests)
    (member (codes "leases") (count_data kept.leases)
    (member (codes "namespaces") (count_data kept.namespaces)
    (member (codes "snapshots") (count_data kept.snapshots) no_members)))))))

-- a member that may be left out, before these
abbrev pub member_if : Text → Option Data → Members → Members
member_if key None behind = behind
member_if key (Some d) behind = member key d behind

-- lists of removed rows; that of images may be left out
abbrev pub removed_with : Data → Option Data → Data → Data → Data → Data
removed_with content images ingests leases snapshots = object
    (member (codes "content") content
    (member_if (codes "images") images
    (member (codes "ingests") ingests
    (member (codes "leases") leases
    (member (codes "snapshots") snapshots no_members)))))

-- a list of images, where they may expire
abbrev pub images_if : Bool → List (Text × Text) → Option Data
images_if with_images images = if with_images then Some (list_data pair_data images) else None

-- the removed rows; images are named where they may expire
abbrev pub removed_data : Bool → Removed → Data
removed_data with_images removed =
    removed_with (list_data pair_data removed.content) (images_if with_images removed.images) (list_data pair_data removed.ingests) (list_data pair_data removed.leases) (list_data triple_data removed.snapshots)

-- in profile 2 images may expire
abbrev pub has_images : Report → Bool
has_images report = report.profile == 2

-- the members of a report; the list of ignored images may be left out
abbrev pub report_with : Data → Bool → Data → Data → Option Data → Data → Data → ℕ → Data
report_with backend dry failed ignored ignored_images kept removed scanned = object
    (member (codes "backend") backend
    (member (codes "dry") (boolean dry)
    (member (codes "failed") failed
    (member (codes "ignored") ignored
    (member_if (codes "ignored_images") ignored_images
    (member (codes "kept") kept
    (member (codes "removed") removed
    (member (codes "scanned") (count_data scanned) no_members))))))))

abbrev pub report_data : Report → Data
report_data report =
    report_with (objects_data report.backend) report.dry (objects_data report.failed) (list_data pair_data report.ignored) (images_if (has_images report) report.ignored_images)
    (kept_data report.kept) (removed_data (has_images report) report.removed) report.scanned
