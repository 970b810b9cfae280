-- What a request replaces of a row: its labels or some of them, its data. Ours, unless a source
-- stands beside.
use Rattle.std.specs.Prelude.{Bool, true, not, ◌&&◌, List, [], ◌∷◌, Option, is_some, unwrap_or, bytes_eq, if◌then◌else◌}
use Rattle.std.specs.Option.{option_map_or}
use Rattle.meta_types.specs.Text.{Text}
use Rattle.meta_types.specs.Keys.{remove_row}
use Rattle.meta_types.specs.Labels.{LabelList, label_key, put_label, takes_label, labels_of, are_labels}
use Rattle.meta_types.specs.Data.{is_data}
use Rattle.meta_types.specs.Changes.{is_allowed_if}
use Rattle.meta_types.specs.declared.request.RowUpdate.{RowUpdate}

-- labels with these put over them; of a key that stands twice the first counts
abbrev pub put_pairs : List (Text × Text) → LabelList → LabelList
put_pairs [] labels = labels
put_pairs (pair ∷ pairs) labels = put_label pair.0 pair.1 (put_pairs pairs labels)

-- they may be put: each is allowed, and there is room for each beside those behind it
abbrev pub takes_pairs : List (Text × Text) → LabelList → Bool
takes_pairs [] labels = true
takes_pairs (pair ∷ pairs) labels = takes_pairs pairs labels && takes_label pair.0 pair.1
    (put_pairs pairs labels)

-- a pair without a value takes a label away
abbrev pub takes_away : Text × Text → Bool
takes_away pair = bytes_eq pair.1 []

-- labels without those that the pairs take away
abbrev pub less_labels : List (Text × Text) → LabelList → LabelList
less_labels [] labels = labels
less_labels (pair ∷ pairs) labels = if takes_away pair then remove_row label_key (pair.0 ∷ [])
    (less_labels pairs labels) else less_labels pairs labels

-- the pairs of an update that go over a row's labels
abbrev pub pairs_put : RowUpdate → List (Text × Text)
pairs_put update = unwrap_or update.put []

-- the labels of a row after an update: all are others, or the pairs are put over its own, from which
-- those are taken away first that go (containerd, updates by field paths)
abbrev pub updated : RowUpdate → LabelList → LabelList
updated update labels = option_map_or labels_of update.labels
    (put_pairs (pairs_put update) (less_labels (pairs_put update) labels))

-- a row with these labels may take the update
abbrev pub takes_update : RowUpdate → LabelList → Bool
takes_update update labels = option_map_or are_labels update.labels
    (takes_pairs (pairs_put update) (less_labels (pairs_put update) labels))

-- labels are replaced whole or in part
abbrev pub is_one_update : RowUpdate → Bool
is_one_update update = not (is_some update.labels && is_some update.put)

-- the tests of an update of the row that is found; where none is, it is as one without labels
abbrev pub update_tests : {A : Type 0} → (A → LabelList) → RowUpdate → Option A → List Bool
update_tests labels_in update found =
    is_one_update update ∷ takes_update update (option_map_or labels_in found [])
    ∷ is_allowed_if is_data update.extra ∷ []
