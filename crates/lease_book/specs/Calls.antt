-- What each call is refused for, and which ids it gives. Ours, unless a source stands beside.
pub use Rattle.row_tables.specs.Arrived.{kept}
use Rattle.std.specs.Prelude.{Bool, false, true, not, List, [], ◌∷◌, map, Option, filter, is_none, bytes_eq}
use Rattle.std.specs.Option.{option_map_or}
use Rattle.meta_types.specs.Text.{Text}
use Rattle.meta_types.specs.Labels.{is_label, has_room}
use Rattle.meta_types.specs.Rows.{LeaseRow}
use Rattle.meta_types.specs.Changes.{all_of}
use Rattle.meta_types.specs.Faults.{least_of}
use Rattle.meta_types.specs.declared.fault.Fault.{Fault}

-- a lease is made where none of its id is (containerd leases service, Create)
abbrev pub creating_fault : Bool → Option Fault
creating_fault there = least_of false false there false

-- what is changed or removed has to be there (containerd leases service)
abbrev pub missing_fault : Bool → Option Fault
missing_fault there = least_of false (not there) false false

-- a label has to be allowed, and the lease there that it is put on
abbrev pub labelling_fault : Text → Text → Option LeaseRow → Option Fault
labelling_fault key value found =
    least_of (not (all_of (is_label key value ∷ option_map_or (λ row. has_room key value row.labels) found true ∷ []))) (is_none found) false false

-- the ids of a namespace's leases, in their order (containerd leases service, List)
abbrev pub ids_in : Text → List LeaseRow → List Text
ids_in ns leases = map (λ row. row.id) (filter (λ row. bytes_eq ns row.ns) leases)
