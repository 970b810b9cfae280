-- Labels of objects: which are allowed, and how one is put. Ours, unless a source stands beside.
use Rattle.std.specs.Prelude.{◌≤◌, ◌+◌, nat_le, nat_lt, length, Bool, true, not, ◌&&◌, ◌||◌, List, [], ◌∷◌, Option, Some, None, bytes_eq, if◌then◌else◌, All, IsTrue}
use Rattle.std.specs.Option.{option_map_or}
use Rattle.meta_types.specs.Text.{Text}
use Rattle.meta_types.specs.Keys.{Key, row_at, has_row, remove_row, put_row, are_in_order}

-- an object's labels: keys and values, in the order of the keys (containerd, labels of objects)
abbrev pub LabelList : Type 0
LabelList = List (Text × Text)

abbrev pub label_key : Text × Text → Key
label_key label = label.0 ∷ []

abbrev pub value_of : LabelList → Text → Option Text
value_of labels key = option_map_or (λ (label : Text × Text). Some label.1) (row_at label_key (key ∷ []) labels) None

abbrev pub has_label : LabelList → Text → Bool
has_label labels key = has_row label_key (key ∷ []) labels

-- ---- which labels an object may have

-- Key and value together have at most 4,096 bytes (containerd labels.Validate), and the key isn't
-- empty. An empty value is always allowed, since it takes the label away.
abbrev pub is_label : Text → Text → Bool
is_label key value = bytes_eq value [] || (not (bytes_eq key []) && nat_le (length key + length value) 4096)

-- one label more, or its new value; an empty value takes the label away
-- (containerd, updates of labels)
abbrev pub put_label : Text → Text → LabelList → LabelList
put_label key value labels = if bytes_eq value [] then remove_row label_key (key ∷ []) labels else put_row label_key (key, value) labels

-- an object has at most 256 labels: it can take a label that it has or that is empty, and one more
-- below that number
abbrev pub has_room : Text → Text → LabelList → Bool
has_room key value labels = bytes_eq value [] || has_label labels key || nat_lt (length labels) 256

abbrev pub takes_label : Text → Text → LabelList → Bool
takes_label key value labels = is_label key value && has_room key value labels

-- the labels that a request writes; of a key that stands twice the first counts
abbrev pub labels_of : List (Text × Text) → LabelList
labels_of [] = []
labels_of (pair ∷ pairs) = put_label pair.0 pair.1 (labels_of pairs)

-- a request may write them: each is allowed, and there is room for each beside those behind it
abbrev pub are_labels : List (Text × Text) → Bool
are_labels [] = true
are_labels (pair ∷ pairs) = are_labels pairs && takes_label pair.0 pair.1 (labels_of pairs)

-- what is known of all stored labels: no key stands twice, no value is empty, they are at most 256
pub record AreStored (labels : LabelList) : Type 0 where
  pub in_order : IsTrue (are_in_order label_key labels)
  pub filled : All (λ label. IsTrue (not (bytes_eq label.1 []))) labels
  pub few : length labels ≤ 256
