-- What requests on containers do. A call in brackets is of containerd's container store. Ours,
-- unless a source stands beside.
use Rattle.std.specs.Prelude.{Bool, not, ◌||◌, [], ◌∷◌, Option, Some, None, if◌then◌else◌, is_some, is_none, option_map, option_and_then, unwrap_or}
use Rattle.std.specs.Option.{option_map_or}
use Rattle.meta_types.specs.Text.{Text, is_short_name, is_name}
use Rattle.meta_types.specs.Keys.{row_at, has_row, add_row, remove_row, change_row}
use Rattle.meta_types.specs.Labels.{labels_of, are_labels, put_label}
use Rattle.meta_types.specs.Updates.{updated, update_tests}
use Rattle.meta_types.specs.Data.{is_data, data_of}
use Rattle.meta_types.specs.Rows.{State, container_key}
use Rattle.meta_types.specs.Changes.{with_containers, is_allowed_if, all_of}
use Rattle.meta_types.specs.Ops.{Outcome, done, labelled, row_reply, lacks, is_allowed_name, name_key, lists_names}
use Rattle.meta_types.specs.declared.raw.RawLabel.{RawLabel}
use Rattle.meta_types.specs.declared.request.RawName.{RawName}
use Rattle.meta_types.specs.declared.request.ContainerAdd.{ContainerAdd}
use Rattle.meta_types.specs.declared.request.ContainerSet.{ContainerSet}
use Rattle.meta_types.specs.declared.rows.ContainerRow.{ContainerRow}
use Rattle.meta_types.specs.declared.reply.ReplyRow.TheVariants as W

-- the snapshot that a request names, if it names one
abbrev pub snapshot_named : Option Text → Option Text → Option (Text × Text)
snapshot_named snapshotter key = option_and_then (λ s. option_map (λ k. (s, k)) key) snapshotter

-- snapshotter and key stand together or not at all
abbrev pub are_together : Option Text → Option Text → Bool
are_together snapshotter key = if is_some key then is_some snapshotter else is_none snapshotter

-- adds a container; the snapshot needn't be stored (Create)
abbrev pub adds_container : State → ContainerAdd → Outcome
adds_container state asked =
    let rows = state.records.tables.containers in
    record (done state) {
      invalid = not (all_of (is_short_name asked.container.ns ∷ is_name asked.container.name
          ∷ is_allowed_if is_short_name asked.snapshotter ∷ is_allowed_if is_name asked.key
          ∷ are_together asked.snapshotter asked.key ∷ are_labels asked.labels
          ∷ is_allowed_if is_data asked.extra ∷ []));
      missing = lacks state asked.container.ns None;
      there = has_row container_key (name_key asked.container) rows;
      after = with_containers state (add_row container_key
          (record {
            ns = asked.container.ns;
            name = asked.container.name;
            snapshot = snapshot_named
                asked.snapshotter asked.key;
            labels = labels_of asked.labels;
            extra = data_of asked.extra;
          }) rows);
    }

-- a container with what the request replaces
abbrev pub set_container : ContainerSet → ContainerRow → ContainerRow
set_container asked row = record row {
  snapshot = option_map_or Some (snapshot_named asked.snapshotter asked.key) row.snapshot;
  labels = updated asked.update row.labels;
  extra = unwrap_or asked.update.extra row.extra;
}

-- replaces what is given of a container: its snapshot, its labels, its data (Update)
abbrev pub sets_container : State → ContainerSet → Outcome
sets_container state asked =
    let rows = state.records.tables.containers in
    let found = row_at container_key (name_key asked.container) rows in
    record (done state) {
      invalid = not (is_allowed_name asked.container)
          || not (all_of (is_allowed_if is_short_name asked.snapshotter
          ∷ is_allowed_if is_name asked.key ∷ are_together asked.snapshotter asked.key
          ∷ update_tests (λ row. row.labels) asked.update found));
      missing = is_none found;
      after = with_containers state (change_row container_key (name_key asked.container)
          (set_container asked) rows);
    }

-- removes a container's row (Delete)
abbrev pub removes_container : State → RawName → Outcome
removes_container state container =
    let rows = state.records.tables.containers in
    record (done state) {
      invalid = not (is_allowed_name container);
      missing = not (has_row container_key (name_key container) rows);
      after = with_containers state
          (remove_row container_key (name_key container) rows);
    }

-- shows a container (Get)
abbrev pub gets_container : State → RawName → Outcome
gets_container state container =
    let found =
    row_at container_key (name_key container) state.records.tables.containers in
    record (done state) {
      invalid = not (is_allowed_name container);
      missing = is_none found;
      reply = row_reply W.Container found;
    }

-- the names of a namespace's containers (List)
abbrev pub lists_containers : State → Text → Outcome
lists_containers state ns =
    lists_names (λ row. row.ns) (λ row. row.name) state ns state.records.tables.containers

-- puts one label on a container (Update)
abbrev pub labels_container : State → RawName → RawLabel → Outcome
labels_container state container label =
    let rows = state.records.tables.containers in
    let found = row_at container_key (name_key container) rows in
    record (done state) {
      invalid = not (is_allowed_name container) || not (all_of (labelled (λ row. row.labels) label.key label.value found));
      missing = is_none found;
      after = with_containers state (change_row container_key (name_key container) (λ row. record row { labels = put_label label.key label.value row.labels }) rows);
    }
