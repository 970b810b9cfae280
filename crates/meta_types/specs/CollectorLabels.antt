-- What labels say to the collector. Ours, unless a source stands beside.
use Rattle.std.specs.Prelude.{Bool, false, not, ◌&&◌, ◌||◌, ◌==◌, ◌++◌, drop, length, Option, Some, None, bytes_eq, codes, is_some, if◌then◌else◌, ℤ, int_lt, option_and_then, take_while}
use Rattle.std.specs.List.{list_any}
use Rattle.std.specs.Option.{option_map_or}
use Rattle.meta_types.specs.Text.{Text, begins_with}
use Rattle.meta_types.specs.Time.{instant_of}
use Rattle.meta_types.specs.Labels.{LabelList, value_of, has_label}

-- ---- keys (containerd garbage-collection.md)

abbrev pub root_key : Text
root_key = codes "containerd.io/gc.root"

abbrev pub flat_key : Text
flat_key = codes "containerd.io/gc.flat"

abbrev pub expire_key : Text
expire_key = codes "containerd.io/gc.expire"

abbrev pub content_ref_key : Text
content_ref_key = codes "containerd.io/gc.ref.content"

abbrev pub snapshot_prefix : Text
snapshot_prefix = codes "containerd.io/gc.ref.snapshot."

-- ---- tests

-- the object is a root, whatever the value (containerd garbage-collection.md)
abbrev pub is_marked_root : LabelList → Bool
is_marked_root labels = has_label labels root_key

-- the lease holds its resources without their labels (containerd garbage-collection.md)
abbrev pub is_flat : LabelList → Bool
is_flat labels = has_label labels flat_key

-- `containerd.io/gc.ref.content`, alone or followed by `.` (containerd garbage-collection.md) or
-- `/`, and anything
abbrev pub is_content_key : Text → Bool
is_content_key key = bytes_eq key content_ref_key
    || begins_with (content_ref_key ++ codes ".") key
    || begins_with (content_ref_key ++ codes "/") key

-- the snapshotter that a key names: behind the prefix (containerd garbage-collection.md) up to the
-- first `/` or the end
abbrev pub snapshotter_in : Text → Option Text
snapshotter_in key =
    if begins_with snapshot_prefix key
    then Some (take_while (λ byte. not (byte == 47)) (drop (length snapshot_prefix) key))
    else None

-- some label references the content (containerd garbage-collection.md, reference labels)
abbrev pub references_content : LabelList → Text → Bool
references_content labels digest = list_any (λ label. is_content_key label.0 && bytes_eq label.1 digest) labels

-- some label references the snapshot (containerd garbage-collection.md, reference labels)
abbrev pub references_snapshot : LabelList → Text → Text → Bool
references_snapshot labels snapshotter name =
    list_any (λ label. option_map_or (λ s. bytes_eq s snapshotter) (snapshotter_in label.0) false && bytes_eq label.1 name) labels

-- when the object ends, where its labels say so (containerd garbage-collection.md)
abbrev pub expiry_of : LabelList → Option ℤ
expiry_of labels = option_and_then instant_of (value_of labels expire_key)

-- the moment is later than the expiry; at the expiry itself the object hasn't ended
abbrev pub is_expired : LabelList → ℤ → Bool
is_expired labels at = option_map_or (λ expiry. int_lt expiry at) (expiry_of labels) false

-- there is an expiry that can't be read; such an object never ends
abbrev pub is_unreadable : LabelList → Bool
is_unreadable labels = is_some (value_of labels expire_key) && not (is_some (expiry_of labels))
