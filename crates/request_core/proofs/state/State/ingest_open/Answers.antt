use Rattle.std.proofs.Common.{◌≡◌, ◌∙◌, [], ◌∷◌, Option, Some, option_map, refl, rules, sym}
use Rattle.std.specs.Option.{option_map_or}
use Rattle.meta_types.specs.Keys.{row_at}
use Rattle.meta_types.specs.Rows.{ingest_key}
use Rattle.meta_types.specs.Ops.{name_key}
use Rattle.meta_types.specs.Ops.Ingests.{later_end}
use Rattle.meta_types.specs.declared.instant.Instant.{Instant}
use Rattle.meta_types.specs.declared.rows.IngestRow.{IngestRow}
use Rattle.request_core.specs.Follows.{AnswersExactly}
use Rattle.request_core.proofs.OpenedIngests.{name_unread, goes_on, end_again}
use Rattle.request_core.proofs.state.State.ingest_open.Goals as goal

-- its namespace or its name isn't read
pub returns-in_err-ns : goal.returns-in_err-ns
returns-in_err-ns g c =
    name_unread c.args.self.now c.args.asked.now c.from_residual.result c.in_err-ns.field-0.0 _
    c.from_residual.ensures.1 c.in_err-ns.ensures

-- one that is there has the later end
pub returns : goal.returns
unfolding AnswersExactly
returns g c =
    let asked = c.args.asked.now in
    let state = c.args.self.now.state in
    let read = c.in_ok-ns-2.ensures.1 in
    let row : IngestRow = c.in-Some.row.now in
    let expires : Option Instant = c.reopened_end-expires.result in
    let is : Some row ≡ row_at ingest_key (name_key asked.ingest) state.records.tables.ingests =
    c.in-Some.ensures
    ∙ λ i. row_at ingest_key ((read i).0 ∷ (read i).1 ∷ [])
    (c.self.view_is i).state.records.tables.ingests in
    let end : expires ≡ end_again asked row = c.reopened_end-expires.ensures
    ∙ λ i. option_map (λ (expiry : Instant). option_map_or (later_end expiry) (read i).2 expiry)
    row.expires in
    let placed = goes_on state asked row expires (sym is) end in
    (search rules, refl, search (rules, placed))
