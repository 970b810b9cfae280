use Rattle.std.proofs.Common.{◌∷◌, [], is_some}
use Rattle.meta_types.specs.Text.{is_name, is_digest}
use Rattle.meta_types.specs.Time.{instant_of}
use Rattle.meta_types.specs.Data.{is_data, data_of}
use Rattle.meta_types.specs.Changes.{is_allowed_if}
use Rattle.meta_types.specs.Ops.Ingests.{own_end}
use Rattle.request_core.proofs.Refusals.{first_unread}
use Rattle.request_core.proofs.read.rows.read_begin.Goals as goal

-- the texts of the name are the first that are read
pub returns-in_err-ns : goal.returns-in_err-ns
returns-in_err-ns c =
    let asked = c.args.asked.now in
    first_unread c.from_residual.result c.in_err-ns.field-0.0 _ _
    (is_some (instant_of asked.at) ∷ is_allowed_if is_digest asked.expected
    ∷ is_allowed_if is_name asked.lease ∷ is_allowed_if is_data asked.extra ∷ []) _ (
      asked.ingest.ns,
      asked.ingest.name,
      own_end asked.lease asked.at,
      asked.expected,
      asked.lease,
      data_of asked.extra,
    )
    c.from_residual.ensures.1 c.in_err-ns.ensures
