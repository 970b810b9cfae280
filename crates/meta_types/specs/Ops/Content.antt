-- What requests on content do. A call in brackets is of containerd's content store. Ours, unless a
-- source stands beside.
use Rattle.std.specs.Prelude.{not, ◌||◌, [], ◌∷◌, Option, is_none, unwrap_or}
use Rattle.meta_types.specs.Text.{Text, is_short_name, is_name, is_digest}
use Rattle.meta_types.specs.Keys.{row_at, has_row, add_row, remove_row, change_row}
use Rattle.meta_types.specs.Labels.{labels_of, are_labels, put_label}
use Rattle.meta_types.specs.Updates.{updated, update_tests}
use Rattle.meta_types.specs.Data.{is_data, data_of}
use Rattle.meta_types.specs.Rows.{State, content_key}
use Rattle.meta_types.specs.Changes.{with_content, with_blob, holding, dropping, is_allowed_if, all_of}
use Rattle.meta_types.specs.Ops.{Outcome, done, labelled, row_reply, lacks, is_allowed_content, digest_key, lists_names}
use Rattle.meta_types.specs.declared.resource.Resource.TheVariants.{Content}
use Rattle.meta_types.specs.declared.raw.RawLabel.{RawLabel}
use Rattle.meta_types.specs.declared.request.RawContent.{RawContent}
use Rattle.meta_types.specs.declared.request.ContentAdd.{ContentAdd}
use Rattle.meta_types.specs.declared.request.RowUpdate.{RowUpdate}
use Rattle.meta_types.specs.declared.rows.ContentRow.{ContentRow}
use Rattle.meta_types.specs.declared.reply.ReplyRow.TheVariants as W

-- adds content to a namespace, makes its blob where the backend doesn't hold it, and gives it to
-- the lease (containerd content-flow.md)
abbrev pub adds_content : State → ContentAdd → Outcome
adds_content state asked =
    let rows = state.records.tables.content in
    record (done state) {
      invalid = not (all_of (is_short_name asked.content.ns ∷ is_digest asked.content.digest
          ∷ are_labels asked.labels ∷ is_allowed_if is_name asked.lease
          ∷ is_allowed_if is_data asked.extra ∷ []));
      missing = lacks state asked.content.ns asked.lease;
      there = has_row content_key (digest_key asked.content) rows;
      after = holding asked.content.ns asked.lease (Content asked.content.digest)
          (with_blob asked.content.digest (with_content state
          (add_row content_key (record {
            ns = asked.content.ns;
            digest = asked.content.digest;
            labels = labels_of asked.labels;
            extra = data_of asked.extra;
          }) rows)));
    }

-- content with what the request replaces
abbrev pub set_content : RowUpdate → ContentRow → ContentRow
set_content update row = record row {
  labels = updated update row.labels;
  extra = unwrap_or
      update.extra row.extra;
}

-- replaces what is given of content: its labels, its data (Update)
abbrev pub sets_content : State → RawContent → RowUpdate → Outcome
sets_content state content update =
    let rows = state.records.tables.content in
    let found = row_at content_key (digest_key content) rows in
    record (done state) {
      invalid = not (is_allowed_content content) || not
          (all_of (update_tests (λ row. row.labels) update found));
      missing = is_none found;
      after = with_content state (change_row content_key (digest_key content) (set_content update)
          rows);
    }

-- removes content from a namespace, and takes it from a lease; its blob goes at a later collection
-- (Delete)
abbrev pub removes_content : State → RawContent → Option Text → Outcome
removes_content state content dropped_by =
    let rows = state.records.tables.content in
    record (done state) {
      invalid = not (all_of (is_short_name content.ns ∷ is_digest content.digest
          ∷ is_allowed_if is_name dropped_by ∷ []));
      missing = not (has_row content_key (digest_key content) rows);
      after = dropping content.ns dropped_by (Content content.digest)
          (with_content state (remove_row content_key (digest_key content) rows));
    }

-- shows content (Info)
abbrev pub gets_content : State → RawContent → Outcome
gets_content state content =
    let found =
    row_at content_key (digest_key content) state.records.tables.content in
    record (done state) {
      invalid = not (all_of (is_short_name content.ns ∷ is_digest content.digest ∷ []));
      missing = is_none found;
      reply = row_reply W.Content found;
    }

-- puts one label on content (Update)
abbrev pub labels_content : State → RawContent → RawLabel → Outcome
labels_content state content label =
    let rows = state.records.tables.content in
    let found = row_at content_key (digest_key content) rows in
    record (done state) {
      invalid = not (all_of (is_short_name content.ns ∷ is_digest content.digest ∷ [])) || not (all_of (labelled (λ row. row.labels) label.key label.value found));
      missing = is_none found;
      after = with_content state (change_row content_key (digest_key content) (λ row. record row { labels = put_label label.key label.value row.labels }) rows);
    }

-- the digests of a namespace's content (Walk)
abbrev pub lists_content : State → Text → Outcome
lists_content state ns =
    lists_names (λ row. row.ns) (λ row. row.digest) state ns state.records.tables.content
