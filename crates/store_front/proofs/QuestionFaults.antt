-- Records are one where their parts are.
use Rattle.std.proofs.Common.{◌≡◌}
use Rattle.meta_types.specs.Rows.{Records}
use Rattle.request_core.specs.declared.state.Records.{Records as Kept}
use Rattle.explaining.specs.RowLists.{records_in}

-- records are one where their parts are
pub same_records : (kept : Kept) (records : Records) → kept.tables ≡ records.tables
    → kept.leases ≡ records.leases → kept.next ≡ records.next → kept.profile ≡ records.profile
    → records_in kept ≡ records
same_records kept records tables leases next profile =
    λ i. record { tables = tables i; leases = leases i; next = next i; profile = profile i }
