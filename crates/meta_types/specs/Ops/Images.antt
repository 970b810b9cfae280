-- What requests on images do. A call in brackets is of containerd's image store. Ours, unless a
-- source stands beside.
use Rattle.std.specs.Prelude.{not, ◌||◌, [], ◌∷◌, None, is_none, unwrap_or}
use Rattle.meta_types.specs.Text.{Text, is_short_name, is_name, is_digest}
use Rattle.meta_types.specs.Keys.{row_at, has_row, add_row, remove_row, change_row}
use Rattle.meta_types.specs.Labels.{labels_of, are_labels, put_label}
use Rattle.meta_types.specs.Updates.{updated, update_tests}
use Rattle.meta_types.specs.Data.{is_data, data_of}
use Rattle.meta_types.specs.Rows.{State, image_key}
use Rattle.meta_types.specs.Changes.{with_images, all_of, is_allowed_if}
use Rattle.meta_types.specs.Ops.{Outcome, done, labelled, row_reply, lacks, is_allowed_name, name_key, lists_names}
use Rattle.meta_types.specs.declared.raw.RawLabel.{RawLabel}
use Rattle.meta_types.specs.declared.request.RawName.{RawName}
use Rattle.meta_types.specs.declared.request.ImageAdd.{ImageAdd}
use Rattle.meta_types.specs.declared.request.ImageTarget.{ImageTarget}
use Rattle.meta_types.specs.declared.request.ImageSet.{ImageSet}
use Rattle.meta_types.specs.declared.rows.ImageRow.{ImageRow}
use Rattle.meta_types.specs.declared.reply.ReplyRow.TheVariants as W

-- adds an image; its target needn't be stored (Create)
abbrev pub adds_image : State → ImageAdd → Outcome
adds_image state asked =
    let rows = state.records.tables.images in
    record (done state) {
      invalid = not (all_of (is_short_name asked.image.ns ∷ is_name asked.image.name
          ∷ is_digest asked.target ∷ are_labels asked.labels ∷ is_allowed_if is_data asked.extra
          ∷ []));
      missing = lacks state asked.image.ns None;
      there = has_row image_key (name_key asked.image) rows;
      after = with_images state (add_row image_key (record {
        ns = asked.image.ns;
        name = asked.image.name;
        target = asked.target;
        labels = labels_of
            asked.labels;
        extra = data_of asked.extra;
      }) rows);
    }

-- sets an image's target, and keeps its labels (Update)
abbrev pub targets_image : State → ImageTarget → Outcome
targets_image state asked =
    let rows = state.records.tables.images in
    record (done state) {
      invalid = not (all_of (is_short_name asked.image.ns ∷ is_name asked.image.name ∷ is_digest asked.target ∷ []));
      missing = not (has_row image_key (name_key asked.image) rows);
      after = with_images state (change_row image_key (name_key asked.image) (λ row. record row { target = asked.target }) rows);
    }

-- an image with what the request replaces
abbrev pub set_image : ImageSet → ImageRow → ImageRow
set_image asked row = record row {
  target = unwrap_or asked.target row.target;
  labels = updated asked.update row.labels;
  extra = unwrap_or asked.update.extra row.extra;
}

-- replaces what is given of an image: its target, its labels, its data (Update)
abbrev pub sets_image : State → ImageSet → Outcome
sets_image state asked =
    let rows = state.records.tables.images in
    let found = row_at image_key (name_key asked.image) rows in
    record (done state) {
      invalid = not (is_allowed_name asked.image) || not
          (all_of (is_allowed_if is_digest asked.target
          ∷ update_tests (λ row. row.labels) asked.update found));
      missing = is_none found;
      after = with_images state (change_row image_key (name_key asked.image) (set_image asked)
          rows);
    }

-- removes an image's row (Delete)
abbrev pub removes_image : State → RawName → Outcome
removes_image state image =
    let rows = state.records.tables.images in
    record (done state) {
      invalid = not (is_allowed_name image);
      missing = not (has_row image_key (name_key image) rows);
      after = with_images state (remove_row image_key (name_key image) rows);
    }

-- shows an image (Get)
abbrev pub gets_image : State → RawName → Outcome
gets_image state image =
    let found = row_at image_key (name_key image) state.records.tables.images in
    record (done state) {
      invalid = not (is_allowed_name image);
      missing = is_none found;
      reply = row_reply W.Image found;
    }

-- the names of a namespace's images (List)
abbrev pub lists_images : State → Text → Outcome
lists_images state ns =
    lists_names (λ row. row.ns) (λ row. row.name) state ns state.records.tables.images

-- puts one label on an image (Update)
abbrev pub labels_image : State → RawName → RawLabel → Outcome
labels_image state image label =
    let rows = state.records.tables.images in
    let found = row_at image_key (name_key image) rows in
    record (done state) {
      invalid = not (is_allowed_name image) || not (all_of (labelled (λ row. row.labels) label.key label.value found));
      missing = is_none found;
      after = with_images state (change_row image_key (name_key image) (λ row. record row { labels = put_label label.key label.value row.labels }) rows);
    }
