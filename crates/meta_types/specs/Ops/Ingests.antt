-- What requests on ingests do. Ours, unless a source stands beside.
use Rattle.std.specs.Prelude.{Bool, false, not, [], ◌∷◌, Option, None, if◌then◌else◌, bytes_eq, is_some, is_none, option_map, pos, ◌+ℤ◌, int_lt}
use Rattle.std.specs.Option.{option_map_or}
use Rattle.meta_types.specs.Text.{Text, is_short_name, is_name, is_digest}
use Rattle.meta_types.specs.Time.{instant_of}
use Rattle.meta_types.specs.Keys.{row_at, has_row, add_row, remove_row, change_row}
use Rattle.meta_types.specs.Labels.{labels_of, are_labels}
use Rattle.meta_types.specs.Data.{is_data, data_of}
use Rattle.meta_types.specs.Rows.{State, content_key, ingest_key}
use Rattle.meta_types.specs.Limits.{is_out_of_numbers}
use Rattle.meta_types.specs.Changes.{with_content, with_ingests, with_blob, with_ingest_object, holding, dropping, is_allowed_if, all_of}
use Rattle.meta_types.specs.Ops.{Outcome, Findings, in_store, done, row_reply, lacks, is_allowed_name, name_key, lists_names}
use Rattle.meta_types.specs.declared.instant.Instant.{Instant}
use Rattle.meta_types.specs.declared.resource.Resource.TheVariants.{Content, Ingest}
use Rattle.meta_types.specs.declared.request.RawName.{RawName}
use Rattle.meta_types.specs.declared.request.IngestBegin.{IngestBegin}
use Rattle.meta_types.specs.declared.request.IngestCommit.{IngestCommit}
use Rattle.meta_types.specs.declared.rows.IngestRow.{IngestRow}
use Rattle.meta_types.specs.declared.reply.ReplyRow.TheVariants as W

-- an ingest that was begun at this time ends 24 hours later (containerd content-flow.md: ingests
-- are cleaned up after a day)
abbrev pub end_of : Text → Option Instant
end_of at = option_map (λ moment. record { 0 = moment +ℤ pos 86400000000000 }) (instant_of at)

-- one that a lease holds has no end of its own
abbrev pub own_end : Option Text → Text → Option Instant
own_end lease at = if is_some lease then None else end_of at

-- begins an ingest under the next backend number (containerd content-flow.md)
abbrev pub begins_ingest : State → IngestBegin → Outcome
begins_ingest state asked =
    let rows = state.records.tables.ingests in
    record (done state) {
      invalid = not (all_of (is_short_name asked.ingest.ns ∷ is_name asked.ingest.name
          ∷ is_some (instant_of asked.at) ∷ is_allowed_if is_digest asked.expected
          ∷ is_allowed_if is_name asked.lease ∷ is_allowed_if is_data asked.extra ∷ []));
      missing = lacks state asked.ingest.ns asked.lease;
      there = has_row ingest_key (name_key asked.ingest) rows;
      forbidden = is_out_of_numbers state;
      after = holding asked.ingest.ns asked.lease (Ingest asked.ingest.name)
          (with_ingest_object (with_ingests state (add_row ingest_key
          (record {
            ns = asked.ingest.ns;
            name = asked.ingest.name;
            expected = asked.expected;
            expires = own_end asked.lease asked.at;
            number = state.records.next;
            extra = data_of
                asked.extra;
          }) rows)));
    }

-- the later of two ends
abbrev pub later_end : Instant → Instant → Instant
later_end a b = if int_lt a.0 b.0 then b else a

-- an ingest that is opened again: one with an end of its own holds itself until a day after this
-- time, if that is later and no lease is named (containerd content store, Writer)
abbrev pub reopened : IngestBegin → IngestRow → IngestRow
reopened asked row = record row {
  expires = option_map (λ (expiry : Instant). option_map_or (later_end expiry)
      (own_end asked.lease asked.at) expiry) row.expires;
}

-- a digest is expected that the ingest wasn't begun for
abbrev pub expects_another : Option Text → IngestRow → Bool
expects_another expected row = option_map_or (λ digest. not
    (option_map_or (bytes_eq digest) row.expected false)) expected false

-- begins an ingest, or goes on with the one that is there (containerd content store, Writer)
abbrev pub opens_ingest : State → IngestBegin → Outcome
opens_ingest state asked =
    let rows = state.records.tables.ingests in
    let found = row_at ingest_key (name_key asked.ingest) rows in
    record (begins_ingest state asked) {
      there = false;
      forbidden = option_map_or (expects_another asked.expected) found (is_out_of_numbers state);
      after = if is_some found then holding asked.ingest.ns asked.lease (Ingest asked.ingest.name)
          (with_ingests state (change_row ingest_key (name_key asked.ingest) (reopened asked) rows))
          else (begins_ingest state asked).after;
    }

-- what a commit of an ingest finds: the ingest, content of the digest in its namespace, and which
-- digest it was begun for (containerd content-flow.md)
abbrev pub ingest_commit_findings : State → Text → Text → Text → Option Text → Findings
ingest_commit_findings state ns name digest lease =
    let found = row_at ingest_key (ns ∷ name ∷ []) state.records.tables.ingests in
    in_store state ns lease (record {
      missing = is_none found;
      there = has_row content_key (ns ∷ digest ∷ []) state.records.tables.content;
      forbidden = option_map_or (λ row. option_map_or (λ other. not (bytes_eq other digest)) row.expected false) found false;
    })

-- commits an ingest as content, which isn't there yet and is the one expected, and takes the ingest
-- from a lease; its backend object goes at a later collection (containerd content-flow.md)
abbrev pub commits_ingest : State → IngestCommit → Outcome
commits_ingest state asked =
    let rows = state.records.tables.ingests in
    let content = state.records.tables.content in
    let found = ingest_commit_findings state asked.ingest.ns asked.ingest.name asked.digest asked.lease in
    record (done state) {
      invalid = not (all_of (is_short_name asked.ingest.ns ∷ is_name asked.ingest.name
          ∷ is_digest asked.digest ∷ are_labels asked.labels ∷ is_allowed_if is_name asked.lease
          ∷ is_allowed_if is_name asked.dropped_by ∷ is_allowed_if is_data asked.extra ∷ []));
      missing = found.missing;
      there = found.there;
      forbidden = found.forbidden;
      after = dropping asked.ingest.ns asked.dropped_by (Ingest asked.ingest.name)
          (holding asked.ingest.ns asked.lease (Content asked.digest) (with_blob asked.digest
          (with_content (with_ingests state (remove_row ingest_key (name_key asked.ingest) rows))
          (add_row content_key (record {
            ns = asked.ingest.ns;
            digest = asked.digest;
            labels =
                labels_of asked.labels;
            extra = data_of asked.extra;
          }) content))));
    }

-- aborts an ingest, and takes it from a lease; its backend object goes at a later collection
-- (containerd content-flow.md)
abbrev pub aborts_ingest : State → RawName → Option Text → Outcome
aborts_ingest state ingest dropped_by =
    let rows = state.records.tables.ingests in
    record (done state) {
      invalid = not (all_of (is_short_name ingest.ns ∷ is_name ingest.name
          ∷ is_allowed_if is_name dropped_by ∷ []));
      missing = not (has_row ingest_key (name_key ingest) rows);
      after = dropping ingest.ns dropped_by (Ingest ingest.name)
          (with_ingests state (remove_row ingest_key (name_key ingest) rows));
    }

-- shows an ingest (containerd content store, Status)
abbrev pub gets_ingest : State → RawName → Outcome
gets_ingest state ingest =
    let found = row_at ingest_key (name_key ingest) state.records.tables.ingests in
    record (done state) {
      invalid = not (is_allowed_name ingest);
      missing = is_none found;
      reply = row_reply W.Ingest found;
    }

-- the names of a namespace's ingests (containerd content store, ListStatuses)
abbrev pub lists_ingests : State → Text → Outcome
lists_ingests state ns =
    lists_names (λ row. row.ns) (λ row. row.name) state ns state.records.tables.ingests
