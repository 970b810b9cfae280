-- What requests on leases do. A call in brackets is of containerd's leases service. Ours, unless a
-- source stands beside.
use Rattle.std.specs.Prelude.{false, not, ◌||◌, [], ◌∷◌, None, is_some, is_none, unwrap_or}
use Rattle.std.specs.Option.{option_map_or}
use Rattle.meta_types.specs.Text.{Text, is_short_name, is_name}
use Rattle.meta_types.specs.Keys.{row_at, has_row, add_row, remove_row, change_row}
use Rattle.meta_types.specs.Labels.{labels_of, are_labels, put_label}
use Rattle.meta_types.specs.Resources.{resource_of}
use Rattle.meta_types.specs.Updates.{updated, update_tests}
use Rattle.meta_types.specs.Data.{is_data, data_of}
use Rattle.meta_types.specs.Rows.{State, LeaseRow, lease_key}
use Rattle.meta_types.specs.Changes.{with_leases, lease_holds, hold_in_lease, release_in_lease, is_allowed_if, all_of}
use Rattle.meta_types.specs.Ops.{Outcome, done, labelled, row_reply, lacks, is_allowed_name, name_key, lists_names}
use Rattle.meta_types.specs.declared.raw.RawLabel.{RawLabel}
use Rattle.meta_types.specs.declared.request.RawName.{RawName}
use Rattle.meta_types.specs.declared.request.LeaseAdd.{LeaseAdd}
use Rattle.meta_types.specs.declared.request.RowUpdate.{RowUpdate}
use Rattle.meta_types.specs.declared.request.LeaseResource.{LeaseResource}
use Rattle.meta_types.specs.declared.reply.ReplyRow.TheVariants as W
use Rattle.meta_types.specs.declared.reply.Reply.TheVariants as R

-- adds a lease that holds nothing yet (Create)
abbrev pub adds_lease : State → LeaseAdd → Outcome
adds_lease state asked =
    let rows = state.records.leases in
    record (done state) {
      invalid = not (all_of (is_short_name asked.lease.ns ∷ is_name asked.lease.name
          ∷ are_labels asked.labels ∷ is_allowed_if is_data asked.extra ∷ []));
      missing = lacks state asked.lease.ns None;
      there = has_row lease_key (name_key asked.lease) rows;
      after = with_leases state (add_row lease_key (record {
        ns = asked.lease.ns;
        id = asked.lease.name;
        labels = labels_of asked.labels;
        extra =
            data_of asked.extra;
        resources = [];
      }) rows);
    }

-- a lease with what the request replaces
abbrev pub set_lease : RowUpdate → LeaseRow → LeaseRow
set_lease update row = record row {
  labels = updated update row.labels;
  extra = unwrap_or
      update.extra row.extra;
}

-- replaces what is given of a lease: its labels, its data
abbrev pub sets_lease : State → RawName → RowUpdate → Outcome
sets_lease state lease update =
    let rows = state.records.leases in
    let found = row_at lease_key (name_key lease) rows in
    record (done state) {
      invalid = not (is_allowed_name lease) || not (all_of
          (update_tests (λ row. row.labels) update found));
      missing = is_none found;
      after = with_leases state (change_row lease_key (name_key lease) (set_lease update) rows);
    }

-- removes a lease with what it holds (Delete)
abbrev pub removes_lease : State → RawName → Outcome
removes_lease state lease =
    let rows = state.records.leases in
    record (done state) {
      invalid = not (is_allowed_name lease);
      missing = not (has_row lease_key (name_key lease) rows);
      after = with_leases state (remove_row lease_key (name_key lease) rows);
    }

-- shows a lease (containerd leases service), expired or not
abbrev pub gets_lease : State → RawName → Outcome
gets_lease state lease =
    let found = row_at lease_key (name_key lease) state.records.leases in
    record (done state) {
      invalid = not (is_allowed_name lease);
      missing = is_none found;
      reply = row_reply (λ row. W.Lease row.id row.labels row.extra) found;
    }

-- puts one label on a lease
abbrev pub labels_lease : State → RawName → RawLabel → Outcome
labels_lease state lease label =
    let rows = state.records.leases in
    let found = row_at lease_key (name_key lease) rows in
    record (done state) {
      invalid = not (is_allowed_name lease) || not (all_of (labelled (λ row. row.labels) label.key label.value found));
      missing = is_none found;
      after = with_leases state (change_row lease_key (name_key lease) (λ row. record row { labels = put_label label.key label.value row.labels }) rows);
    }

-- the ids of a namespace's leases (List)
abbrev pub lists_leases : State → Text → Outcome
lists_leases state ns =
    lists_names (λ row. row.ns) (λ row. row.id) state ns state.records.leases

-- gives a lease a resource, which needn't be there; held already, nothing changes (AddResource)
abbrev pub holds_resource : State → LeaseResource → Outcome
holds_resource state asked =
    let rows = state.records.leases in
    record (done state) {
      invalid = not (all_of (is_short_name asked.lease.ns ∷ is_name asked.lease.name ∷ is_some (resource_of asked.kind asked.resource) ∷ []));
      missing = not (has_row lease_key (name_key asked.lease) rows);
      after = with_leases state (option_map_or (λ resource. hold_in_lease (name_key asked.lease) resource rows) (resource_of asked.kind asked.resource) rows);
    }

-- takes a resource from a lease that holds it (DeleteResource)
abbrev pub releases_resource : State → LeaseResource → Outcome
releases_resource state asked =
    let rows = state.records.leases in
    record (done state) {
      invalid = not (all_of (is_short_name asked.lease.ns ∷ is_name asked.lease.name ∷ is_some (resource_of asked.kind asked.resource) ∷ []));
      missing = not (option_map_or (λ resource. lease_holds (name_key asked.lease) resource rows) (resource_of asked.kind asked.resource) false);
      after = with_leases state (option_map_or (λ resource. release_in_lease (name_key asked.lease) resource rows) (resource_of asked.kind asked.resource) rows);
    }

-- what a lease holds, by types and ids (ListResources)
abbrev pub lists_resources : State → RawName → Outcome
lists_resources state lease =
    let found = row_at lease_key (name_key lease) state.records.leases in
    record (done state) {
      invalid = not (is_allowed_name lease);
      missing = is_none found;
      reply = option_map_or (λ row. R.Resources row.resources) found R.Done;
    }
