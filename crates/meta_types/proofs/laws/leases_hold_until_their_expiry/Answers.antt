use Rattle.meta_types.proofs.WorkedScripts.{both_modes_are_scanned, a_flat_lease_follows_no_labels, a_lease_holds_at_its_expiry, an_expired_lease_goes}
use Rattle.meta_types.proofs.laws.leases_hold_until_their_expiry.Goals as goal

-- computed
pub returns-clause-both_modes_are_scanned : goal.returns-clause-both_modes_are_scanned
returns-clause-both_modes_are_scanned c = both_modes_are_scanned

-- computed
pub returns-clause-a_flat_lease_follows_no_labels : goal.returns-clause-a_flat_lease_follows_no_labels
returns-clause-a_flat_lease_follows_no_labels c = a_flat_lease_follows_no_labels

-- computed
pub returns-clause-a_lease_holds_at_its_expiry : goal.returns-clause-a_lease_holds_at_its_expiry
returns-clause-a_lease_holds_at_its_expiry c = a_lease_holds_at_its_expiry

-- computed
pub returns-clause-an_expired_lease_goes : goal.returns-clause-an_expired_lease_goes
returns-clause-an_expired_lease_goes c = an_expired_lease_goes
