use Rattle.std.proofs.Common.{◌≡◌, ◌∙◌, [], ◌∷◌, Option, Some, None, ap, sym}
use Rattle.std.specs.Prelude.{option_map}
use Rattle.std.specs.Option.{option_map_or}
use Rattle.meta_types.specs.Keys.{row_at}
use Rattle.meta_types.specs.Rows.{ingest_key}
use Rattle.meta_types.specs.Ops.Ingests.{later_end, own_end, reopened}
use Rattle.meta_types.specs.declared.instant.Instant.{Instant}
use Rattle.meta_types.specs.declared.rows.IngestRow.{IngestRow}
use Rattle.request_core.specs.Foreseen.{ShowsRow}
use Rattle.request_core.proofs.ShownIngests.{begun_shown, reopened_shown}
use Rattle.request_core.proofs.state.State.show_ingest_open.Goals as goal

-- one that is there goes on
pub returns-in_ok-row-in-Some : goal.returns-in_ok-row-in-Some
unfolding ShowsRow
returns-in_ok-row-in-Some g c = λ none.
    let asked = c.args.asked.now in
    let state = c.args.self.now.state in
    let row = c.in-Some.row.now in
    let found : Some row ≡ row_at ingest_key (asked.ingest.ns ∷ asked.ingest.name ∷ [])
    state.records.tables.ingests =
    c.in-Some.ensures
    ∙ λ i. row_at ingest_key ((c.in_ok-ns.ensures.1 i).0 ∷ (c.in_ok-ns.ensures.1 i).1 ∷ [])
    (c.self.view_is i).state.records.tables.ingests in
    let ends : c.reopened_end-expires.result ≡ (reopened asked row).expires =
    c.reopened_end-expires.ensures
    ∙ λ i. option_map (λ (expiry : Instant). option_map_or (later_end expiry)
    (c.in_ok-ns.ensures.1 i).2 expiry) row.expires in
    let same : record c.in_ok-row-in-Some.row { expires = c.reopened_end-expires.result }
    ≡ reopened asked row =
    λ i. record (c.in_ok-row-in-Some.ensures.ok i) { expires = ends i } in
    reopened_shown state asked row (record c.in_ok-row-in-Some.row
    { expires = c.reopened_end-expires.result }) found same
    ∙ sym c.plain.ensures

-- one that isn't begins
pub returns-in-None : goal.returns-in-None
unfolding ShowsRow
returns-in-None g c = λ none.
    let asked = c.args.asked.now in
    let state = c.args.self.now.state in
    let lost : None ≡ row_at ingest_key (asked.ingest.ns ∷ asked.ingest.name ∷ [])
    state.records.tables.ingests =
    c.in-None.ensures
    ∙ λ i. row_at ingest_key ((c.in_ok-ns.ensures.1 i).0 ∷ (c.in_ok-ns.ensures.1 i).1 ∷ [])
    (c.self.view_is i).state.records.tables.ingests in
    let made : IngestRow = record {
      ns = c.in_ok-ns.ns;
      name = c.in_ok-ns.name;
      expected = c.in_ok-ns.expected;
      expires = c.in_ok-ns.expires;
      number = c.self.inside.records.next;
      extra = c.in_ok-ns.extra;
    } in
    begun_shown state asked made lost (λ i. record {
      ns = (c.in_ok-ns.ensures.1 i).0;
      name = (c.in_ok-ns.ensures.1 i).1;
      expected = (c.in_ok-ns.ensures.1 i).3;
      expires = (c.in_ok-ns.ensures.1 i).2;
      number = (c.self.view_is i).state.records.next;
      extra = (c.in_ok-ns.ensures.1 i).5;
    })
    ∙ sym c.plain-in-None.ensures
