use Rattle.std.proofs.Common.{◌≡◌, ◌∙◌, None, ap, refl, rules, subst, sym}
use Rattle.meta_types.specs.Keys.{has_row, add_row}
use Rattle.meta_types.specs.Rows.{ingest_key}
use Rattle.meta_types.specs.Sound.{AreNumbered}
use Rattle.meta_types.specs.declared.rows.IngestRow.{IngestRow}
use Rattle.object_tables.specs.Calls.{adding_fault}
use Rattle.back_model.specs.Objects.{has_number}
use Rattle.request_core.specs.Follows.{Store, AnswersExactly}
use Rattle.request_core.proofs.Refusals.{only_exactly}
use Rattle.request_core.proofs.NextNumber.{ingest_numbered}
use Rattle.request_core.proofs.state.State.ingest_begin.Goals as goal

-- the number is free
pub grow_ingest-requires-clause-number : goal.grow_ingest-requires-clause-number
grow_ingest-requires-clause-number g c κs within =
    ap (λ (store : Store). has_number c.free_number-number.result store.state.backends.ingests) c.self.view_is ∙ c.free_number-number.ensures.free

-- and above all others
pub grow_ingest-requires-clause-numbered : goal.grow_ingest-requires-clause-numbered
grow_ingest-requires-clause-numbered g c κs within =
    let row : IngestRow = record {
      ns = c.in_ok-ns.ns;
      name = c.in_ok-ns.name;
      expected = c.in_ok-ns.expected;
      expires = c.in_ok-ns.expires;
      number = c.free_number-number.result;
      extra = c.in_ok-ns.extra;
    } in
    subst
    (λ (store : Store). adding_fault store.state.records.tables row.ns
    (has_row ingest_key (ingest_key row) store.state.records.tables.ingests) ≡ None
    → AreNumbered store.state.records.tables.snapshots
    (add_row ingest_key row store.state.records.tables.ingests)) (sym c.self.view_is)
    (ingest_numbered c.args.self.now.state row c.requires c.free_number-number.ensures.next)

-- the check refuses as the request does
pub returns-in-Err : goal.returns-in-Err
unfolding AnswersExactly
returns-in-Err g c = only_exactly _ _ c.in-Err.fault _ _ _ _ (search rules) refl
