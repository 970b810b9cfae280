-- Records as they arrived. Ours.
use Rattle.meta_types.specs.Rows.{Records, lease_key}
use Rattle.row_tables.specs.Arrived.{sorted}
use Rattle.object_tables.specs.InKeyOrder.{in_key_order}
use Rattle.request_core.specs.declared.state.Records.{Records as Kept}
use Rattle.collection.specs.declared.arrived.ArrivedRecords.{ArrivedRecords}

-- the same records, with the rows of each kind in the order of their keys
abbrev pub in_order : ArrivedRecords → Kept
in_order arrived = record { tables = in_key_order arrived.tables; leases = sorted lease_key arrived.leases; next = arrived.next; profile = arrived.profile }

-- the records as they arrived, as the definitions have records
abbrev pub arrived_in : ArrivedRecords → Records
arrived_in arrived = record { tables = arrived.tables; leases = arrived.leases; next = arrived.next; profile = arrived.profile }
