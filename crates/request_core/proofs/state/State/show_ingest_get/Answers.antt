use Rattle.std.proofs.Common.{◌≡◌, ◌∙◌, [], ◌∷◌, Some, ap, sym}
use Rattle.std.specs.Prelude.{option_map}
use Rattle.meta_types.specs.Keys.{row_at}
use Rattle.meta_types.specs.Rows.{ingest_key}
use Rattle.meta_types.specs.Shown.{plain_row}
use Rattle.meta_types.specs.declared.rows.IngestRow.{IngestRow}
use Rattle.meta_types.specs.declared.reply.ReplyRow.TheVariants as W
use Rattle.request_core.specs.Foreseen.{ShowsRow}
use Rattle.request_core.proofs.state.State.show_ingest_get.Goals as goal

-- the row is the one that is there
pub returns : goal.returns
unfolding ShowsRow
returns g c = λ none.
    let object = c.args.ingest.now in
    let state = c.args.self.now.state in
    let found : Some c.in-Some.row.now ≡ row_at ingest_key (object.ns ∷ object.name ∷ [])
    state.records.tables.ingests =
    c.in-Some.ensures
    ∙ λ i. row_at ingest_key ((c.in_ok-ns.ensures.1 i).0 ∷ (c.in_ok-ns.ensures.1 i).1 ∷ [])
    (c.self.view_is i).state.records.tables.ingests in
    ap (option_map (λ (r : IngestRow). plain_row (W.Ingest r))) (sym found)
    ∙ ap (λ (r : IngestRow). Some (plain_row (W.Ingest r))) (sym c.in_ok-row.ensures.ok)
    ∙ sym c.plain.ensures
