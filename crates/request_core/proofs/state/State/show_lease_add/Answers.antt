use Rattle.std.proofs.Common.{◌≡◌, ◌∙◌, [], refl, sym, ap, rules}
use Rattle.meta_types.specs.Rows.{LeaseRow, lease_key}
use Rattle.meta_types.specs.Requests.{outcome}
use Rattle.meta_types.specs.Shown.{plain_row}
use Rattle.meta_types.specs.Labels.{labels_of}
use Rattle.meta_types.specs.Data.{data_of}
use Rattle.meta_types.specs.declared.reply.ReplyRow.TheVariants as W
use Rattle.meta_types.specs.declared.request.Request.TheVariants as R
use Rattle.request_core.specs.Foreseen.{ShowsRow}
use Rattle.request_core.proofs.ListsSound.{none_applies}
use Rattle.request_core.proofs.ShownRows.{added_shown}
use Rattle.request_core.proofs.state.State.show_lease_add.Goals as goal

-- the row is the one that is added
pub returns : goal.returns
unfolding ShowsRow
returns g c = λ none.
    let asked = c.args.asked.now in
    let state = c.args.self.now.state in
    let free = none_applies (outcome state (R.LeaseAdd asked)) none in
    let new : LeaseRow = record {
      ns = asked.lease.ns;
      id = asked.lease.name;
      labels = labels_of asked.labels;
      extra = data_of asked.extra;
      resources = [];
    } in
    let made : LeaseRow = record {
      ns = c.in_ok-ns.ns;
      id = c.in_ok-ns.id;
      labels = c.in_ok-ns.parts.labels;
      extra = c.in_ok-ns.parts.extra;
      resources = [];
    } in
    let same : made ≡ new = λ i. record {
      ns = (c.in_ok-ns.ensures.1 i).0;
      id = (c.in_ok-ns.ensures.1 i).1;
      labels = (c.in_ok-ns.ensures.1 i).2.labels;
      extra = (c.in_ok-ns.ensures.1 i).2.extra;
      resources = [];
    } in
    added_shown lease_key (λ (r : LeaseRow). plain_row (W.Lease r.id r.labels r.extra)) new made
    state.records.leases free.2 same
    ∙ sym c.plain.ensures
