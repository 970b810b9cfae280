-- The parts of a row that a request is to replace. Ours, unless a source stands beside.
use Rattle.std.specs.Prelude.{◌≡◌, false, not, List, Option, Some, None, Result, Ok, Err, is_none, option_map, unwrap_or, ⊤}
use Rattle.meta_types.specs.Text.{Text}
use Rattle.meta_types.specs.Labels.{LabelList}
use Rattle.meta_types.specs.Updates.{updated, update_tests}
use Rattle.meta_types.specs.Changes.{all_of}
use Rattle.meta_types.specs.Faults.{Refuses, least_of}
use Rattle.meta_types.specs.declared.request.RowUpdate.{RowUpdate}
use Rattle.meta_types.specs.declared.fault.Fault.{Fault}
use Rattle.request_core.specs.declared.refusal.Refusal.{Refusal}
use Rattle.request_core.specs.declared.refusal.Refusal.TheVariants.{Reading, By}

-- what refuses an update of the row that is found
abbrev pub updating_fault : {Row : Type 0} → (Row → LabelList) → RowUpdate → Option Row
    → Option Fault
updating_fault labels_in update found = least_of (not (all_of
    (update_tests labels_in update found))) (is_none found) false false

-- the labels and the data that the row is to have
abbrev pub parts_after : {Row : Type 0} → (Row → LabelList) → (Row → Text) → RowUpdate → Row
    → LabelList × Text
parts_after labels_in extra_in update row = (
  updated update (labels_in row),
  unwrap_or update.extra
      (extra_in row),
)

-- they are made, or refused as the update is
abbrev pub MakesParts : {Row : Type 0} → (Row → LabelList) → (Row → Text) → RowUpdate → Option Row
    → Result (LabelList × Text) Refusal → Type 0
MakesParts labels_in extra_in update found (Ok parts) =
    (updating_fault labels_in update found ≡ None) × (option_map
    (parts_after labels_in extra_in update) found ≡ Some parts)
MakesParts labels_in extra_in update found (Err Reading) = ⊤
MakesParts labels_in extra_in update found (Err (By fault)) = Refuses {X = Unit {0}} (Err fault)
    (updating_fault labels_in update found)
