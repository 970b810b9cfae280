use Rattle.std.proofs.Common.{◌≡◌, ◌∙◌, [], refl, sym, ap, rules}
use Rattle.meta_types.specs.Rows.{ingest_key}
use Rattle.meta_types.specs.Requests.{outcome}
use Rattle.meta_types.specs.Shown.{plain_row}
use Rattle.meta_types.specs.Data.{data_of}
use Rattle.meta_types.specs.Ops.Ingests.{own_end}
use Rattle.meta_types.specs.declared.rows.IngestRow.{IngestRow}
use Rattle.meta_types.specs.declared.reply.ReplyRow.TheVariants as W
use Rattle.meta_types.specs.declared.request.Request.TheVariants as R
use Rattle.request_core.specs.Foreseen.{ShowsRow}
use Rattle.request_core.proofs.ListsSound.{none_applies}
use Rattle.request_core.proofs.ShownRows.{added_shown}
use Rattle.request_core.proofs.state.State.show_ingest_begin.Goals as goal

-- the row is the one that is added
pub returns : goal.returns
unfolding ShowsRow
returns g c = λ none.
    let asked = c.args.asked.now in
    let state = c.args.self.now.state in
    let free = none_applies (outcome state (R.IngestBegin asked)) none in
    let new : IngestRow = record {
      ns = asked.ingest.ns;
      name = asked.ingest.name;
      expected = asked.expected;
      expires = own_end asked.lease asked.at;
      number = state.records.next;
      extra = data_of asked.extra;
    } in
    let made : IngestRow = record {
      ns = c.in_ok-ns.ns;
      name = c.in_ok-ns.name;
      expected = c.in_ok-ns.expected;
      expires = c.in_ok-ns.expires;
      number = c.self.inside.records.next;
      extra = c.in_ok-ns.extra;
    } in
    let same : made ≡ new = λ i. record {
      ns = (c.in_ok-ns.ensures.1 i).0;
      name = (c.in_ok-ns.ensures.1 i).1;
      expected = (c.in_ok-ns.ensures.1 i).3;
      expires = (c.in_ok-ns.ensures.1 i).2;
      number = (c.self.view_is i).state.records.next;
      extra = (c.in_ok-ns.ensures.1 i).5;
    } in
    added_shown ingest_key (λ (r : IngestRow). plain_row (W.Ingest r)) new made
    state.records.tables.ingests free.2 same
    ∙ sym c.plain.ensures
