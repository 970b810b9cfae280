use Rattle.std.proofs.Common.{◌∙◌, ◌∷◌, [], sym, ap, List}
use Rattle.std.specs.List.{list_any}
use Rattle.meta_types.specs.Keys.{has_row}
use Rattle.meta_types.specs.Paths.{things}
use Rattle.meta_types.specs.Rows.{snap_key}
use Rattle.meta_types.specs.Explanations.{is_asked}
use Rattle.meta_types.specs.declared.object.Object.TheVariants.{Held}
use Rattle.meta_types.specs.declared.resource.Resource.{Resource}
use Rattle.meta_types.specs.declared.rows.SnapRow.{SnapRow}
use Rattle.explaining.specs.RowLists.{records_in}
use Rattle.explaining.proofs.RowsThere.{content_there, ingest_there, snapshot_there}
use Rattle.explaining.proofs.answer.has_resource.Goals as goal

pub returns-in-Content : goal.returns-in-Content
returns-in-Content c =
    c.has_content.ensures ∙ sym (content_there (records_in c.args.records.now) c.args.ns.now c.in-Content.digest)
    ∙ ap (λ (r : Resource). list_any (is_asked c.args.ns.now (Held r)) (things (records_in c.args.records.now))) (sym c.in-Content.is)

pub returns-in-Snapshot : goal.returns-in-Snapshot
returns-in-Snapshot c =
    c.has.ensures ∙ ap (λ (rows : List SnapRow). has_row snap_key (c.args.ns.now ∷ c.in-Snapshot.snapshotter ∷ c.in-Snapshot.name ∷ []) rows) c.arrived.ensures.snapshots
    ∙ sym (snapshot_there (records_in c.args.records.now) c.args.ns.now c.in-Snapshot.snapshotter c.in-Snapshot.name)
    ∙ ap (λ (r : Resource). list_any (is_asked c.args.ns.now (Held r)) (things (records_in c.args.records.now))) (sym c.in-Snapshot.is)

pub returns-in-Ingest : goal.returns-in-Ingest
returns-in-Ingest c =
    c.has_ingest.ensures ∙ sym (ingest_there (records_in c.args.records.now) c.args.ns.now c.in-Ingest.name)
    ∙ ap (λ (r : Resource). list_any (is_asked c.args.ns.now (Held r)) (things (records_in c.args.records.now))) (sym c.in-Ingest.is)
