-- The JSON of what would go without a row, and its text. Ours, unless a source stands beside.
use Rattle.std.specs.Prelude.{true, codes}
use Rattle.serde_json.specs.Data.{Data, boolean, object, no_members, member}
use Rattle.serde_json.specs.Written.{compact_text}
use Rattle.meta_types.specs.Text.{Text}
use Rattle.meta_types.specs.Impacts.{Impact}
use Rattle.gc_report.specs.Impacts.{impact_data}

abbrev pub foreseen_data : Impact → Data
foreseen_data impact = object
    (member (codes "impact") (impact_data impact)
    (member (codes "ok") (boolean true) no_members))

-- the text of what would go, without a line feed
unfoldable pub impact_text : Impact → Text
impact_text impact = compact_text (foreseen_data impact)
