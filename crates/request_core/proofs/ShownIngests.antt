-- An ingest that is opened is shown as it begins, or as it goes on.
use Rattle.std.proofs.Common.{◌≡◌, ◌∙◌, List, Option, Some, None, refl, sym, ap}
use Rattle.std.specs.Prelude.{option_map, is_some}
use Rattle.meta_types.specs.Keys.{row_at, add_row, change_row}
use Rattle.meta_types.specs.Rows.{State, ingest_key}
use Rattle.meta_types.specs.Ops.{name_key}
use Rattle.meta_types.specs.Ops.Ingests.{begins_ingest, opens_ingest, own_end, reopened}
use Rattle.meta_types.specs.Data.{data_of}
use Rattle.meta_types.specs.Shown.{plain_row}
use Rattle.meta_types.specs.declared.rows.IngestRow.{IngestRow}
use Rattle.meta_types.specs.declared.reply.ReplyRow.TheVariants as W
use Rattle.meta_types.specs.declared.request.IngestBegin.{IngestBegin}
use Rattle.meta_types.specs.declared.shown_row.ShownRow.{ShownRow}
use Rattle.request_core.proofs.ShownRows.{added_shown, changed_shown}

abbrev shown : IngestRow → ShownRow
shown row = plain_row (W.Ingest row)

module _ (state : State) (asked : IngestBegin) where
  abbrev rows : List IngestRow
  rows = state.records.tables.ingests

  -- one that is there goes on
  pub reopened_shown : (row new : IngestRow)
      → Some row ≡ row_at ingest_key (name_key asked.ingest) rows → new ≡ reopened asked row
      → option_map shown (row_at ingest_key (name_key asked.ingest)
      (opens_ingest state asked).after.records.tables.ingests)
      ≡ Some (shown new)
  reopened_shown row new found is =
      let they_are : (opens_ingest state asked).after.records.tables.ingests
      ≡ change_row ingest_key (name_key asked.ingest) (reopened asked) rows =
      rw (← found) refl in
      ap (λ (all : List IngestRow). option_map shown
      (row_at ingest_key (name_key asked.ingest) all)) they_are
      ∙ changed_shown ingest_key shown (name_key asked.ingest) (reopened asked) (λ r. refl) rows
      row new (sym found) is

  -- one that isn't begins
  pub begun_shown : (made : IngestRow) → None ≡ row_at ingest_key (name_key asked.ingest) rows
      → made ≡ record {
        ns = asked.ingest.ns;
        name = asked.ingest.name;
        expected = asked.expected;
        expires = own_end asked.lease asked.at;
        number = state.records.next;
        extra = data_of asked.extra;
      }
      → option_map shown (row_at ingest_key (name_key asked.ingest)
      (opens_ingest state asked).after.records.tables.ingests)
      ≡ Some (shown made)
  begun_shown made lost is =
      let new : IngestRow = record {
        ns = asked.ingest.ns;
        name = asked.ingest.name;
        expected = asked.expected;
        expires = own_end asked.lease asked.at;
        number = state.records.next;
        extra = data_of asked.extra;
      } in
      let they_are : (opens_ingest state asked).after.records.tables.ingests
      ≡ add_row ingest_key new rows = rw (← lost) refl in
      ap (λ (all : List IngestRow). option_map shown
      (row_at ingest_key (name_key asked.ingest) all)) they_are
      ∙ added_shown ingest_key shown new made rows (ap is_some (sym lost)) is
