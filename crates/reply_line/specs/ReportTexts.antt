-- The text of a report, cut where its writer has it. Ours.
use Rattle.std.specs.Prelude.{[], ◌++◌, List, Bool, codes, if◌then◌else◌}
use Rattle.serde_json.specs.Data.{boolean}
use Rattle.serde_json.specs.Written.{compact_text}
use Rattle.meta_types.specs.Text.{Text}
use Rattle.meta_types.specs.Reports.{Report}
use Rattle.gc_report.specs.Reports.{
  count_data,
  pair_data,
  list_data,
  objects_data,
  kept_data,
  removed_data,
  has_images,
}

-- a list of images behind the text before it, where they may expire
abbrev pub images_text : Bool → Text → List (Text × Text) → Text
images_text with_images before images = if with_images then before ++ compact_text (list_data
    pair_data images) else []

-- the members before the list of ignored images
abbrev pub front_text : Report → Text
front_text report =
    codes "{\"backend\":" ++ (compact_text (objects_data report.backend)
    ++ ((codes ",\"dry\":" ++ compact_text (boolean report.dry))
    ++ (codes ",\"failed\":" ++ (compact_text (objects_data report.failed)
    ++ (codes ",\"ignored\":" ++ compact_text (list_data pair_data report.ignored))))))

-- the members from there on
abbrev pub end_text : Report → Text
end_text report =
    images_text (has_images report) (codes ",\"ignored_images\":") report.ignored_images
    ++ ((codes ",\"kept\":" ++ compact_text (kept_data report.kept))
    ++ (codes ",\"removed\":" ++ (compact_text (removed_data (has_images report) report.removed)
    ++ ((codes ",\"scanned\":" ++ compact_text (count_data report.scanned))
    ++ codes "}"))))
