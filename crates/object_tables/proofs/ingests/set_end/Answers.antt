use Rattle.std.proofs.Common.{◌∷◌, [], ◌∙◌}
use Rattle.meta_types.specs.Rows.{ingest_key}
use Rattle.row_tables.proofs.ChangedThere.{became, nothing_to_change}
use Rattle.object_tables.specs.Edits.{ingest_until}
use Rattle.object_tables.proofs.ingests.set_end.Goals as goal

-- the row that was found has this end
pub returns-in-Some-clause-left : goal.returns-in-Some-clause-left
returns-in-Some-clause-left c =
    let done = c.in-Some.ensures.changed in
    became ingest_key (c.args.ns.now ∷ c.args.name.now ∷ []) (ingest_until c.args.expires) done.0
    done.1 c.args.ingests.now c.change.new.self done.3 done.2

-- what isn't there isn't changed
pub returns-in-None-clause-left : goal.returns-in-None-clause-left
returns-in-None-clause-left c =
    c.in-None.ensures.same ∙ nothing_to_change ingest_key (c.args.ns.now ∷ c.args.name.now ∷ [])
    (ingest_until c.args.expires) c.args.ingests.now c.in-None.ensures.absent
