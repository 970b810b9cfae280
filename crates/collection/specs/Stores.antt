-- Records and backends as the definitions have them. Ours, unless a source stands beside.
use Rattle.meta_types.specs.Rows.{Records, BackLists, State}
use Rattle.request_core.specs.declared.state.Records.{Records as Kept}

-- the records
abbrev pub records_in : Kept → Records
records_in r = record { tables = r.tables; leases = r.leases; next = r.next; profile = r.profile }

-- the store
abbrev pub store_in : Kept → BackLists → State
store_in r backends = record { records = records_in r; backends = backends }
