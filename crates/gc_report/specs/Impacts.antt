-- The JSON of an impact. Members stand in the byte order of their names. Ours, unless a source
-- stands beside.
use Rattle.std.specs.Prelude.{codes}
use Rattle.serde_json.specs.Data.{Data, object, no_members, member}
use Rattle.meta_types.specs.Impacts.{Impact, ImpactRows}
use Rattle.gc_report.specs.Reports.{list_data, pair_data, triple_data, objects_data}

-- the rows that would go, in the forms of a report
abbrev pub impact_rows_data : ImpactRows → Data
impact_rows_data rows = object
    (member (codes "content") (list_data pair_data rows.content)
    (member (codes "ingests") (list_data pair_data rows.ingests)
    (member (codes "snapshots") (list_data triple_data rows.snapshots) no_members)))

abbrev pub impact_data : Impact → Data
impact_data impact = object
    (member (codes "backend") (objects_data impact.backend)
    (member (codes "removed") (impact_rows_data impact.removed) no_members))
