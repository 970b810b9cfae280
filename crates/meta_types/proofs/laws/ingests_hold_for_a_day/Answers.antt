use Rattle.meta_types.proofs.WorkedScripts.{an_ingest_holds_for_a_day, an_ingest_goes_after_a_day}
use Rattle.meta_types.proofs.laws.ingests_hold_for_a_day.Goals as goal

-- computed
pub returns-clause-an_ingest_holds_for_a_day : goal.returns-clause-an_ingest_holds_for_a_day
returns-clause-an_ingest_holds_for_a_day c = an_ingest_holds_for_a_day

-- computed
pub returns-clause-an_ingest_goes_after_a_day : goal.returns-clause-an_ingest_goes_after_a_day
returns-clause-an_ingest_goes_after_a_day c = an_ingest_goes_after_a_day
